-- The text grows.
use Rattle.lk_text.specs.Texts.{Lengthens}
use Rattle.lk_text.proofs.escapes.put_escaped.Given as goal

abbrev pub invariant-loop-c : goal.invariant-loop-c
invariant-loop-c l = Lengthens l.initial.text l.text
