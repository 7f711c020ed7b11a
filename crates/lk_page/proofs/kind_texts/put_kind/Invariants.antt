use Rattle.std.proofs.Common.{◌≡◌, ◌≤◌, length}
use Rattle.lk_page.proofs.kind_texts.put_kind.Given as goal

abbrev pub invariant-loop-line : goal.invariant-loop-line
invariant-loop-line l = (l.end ≤ length l.text) × (length l.text ≡ length l.initial.text)
