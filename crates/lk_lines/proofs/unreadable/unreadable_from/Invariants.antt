-- The rest gives the answer of the whole line.
use Rattle.std.proofs.Common.{◌≡◌, ◌+◌, length}
use Rattle.lk_lines.specs.{Lines.tokens_of, Unreadable.unreadable_from}
use Rattle.lk_lines.proofs.unreadable.unreadable_from.Given as goal

abbrev pub invariant-loop-token : goal.invariant-loop-token
invariant-loop-token l = record {
  rest : unreadable_from l.column l.expected (tokens_of l.rest)
      ≡ unreadable_from 1 l.initial.expected (tokens_of l.initial.rest);
  fits : l.column + length l.rest ≡ 1 + length l.initial.rest;
}

abbrev pub decreases-loop-token : goal.decreases-loop-token
decreases-loop-token l = length l.rest
