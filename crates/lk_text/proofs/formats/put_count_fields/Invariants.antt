-- The text grows.
use Rattle.lk_text.specs.Texts.{Grows}
use Rattle.lk_text.proofs.formats.put_count_fields.Given as goal

abbrev pub invariant-loop-name : goal.invariant-loop-name
invariant-loop-name l = Grows l.initial.text l.text
