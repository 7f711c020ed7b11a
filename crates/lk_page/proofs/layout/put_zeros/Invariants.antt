-- So many zeros were appended.
use Rattle.std.proofs.Common.{◌≡◌, ◌++◌, replicate}
use Rattle.lk_page.proofs.layout.put_zeros.Given as goal

abbrev pub invariant-loop : goal.invariant-loop
invariant-loop g l = l.out.items ≡ l.initial.out.items ++ replicate l.counter 0
