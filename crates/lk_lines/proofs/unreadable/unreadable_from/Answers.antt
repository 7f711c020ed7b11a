-- The line goes on after a token that may be here, and stops at any other.
use Rattle.std.proofs.Common.{◌≡◌, ◌+◌, ℕ, Some, None, [], ◌∙◌, ap, arith, length, sym}
use Rattle.std.proofs.lemmas.Bool.{cond-false, cond-true}
use Rattle.lk_lines.specs.{Lines.tokens_of, Unreadable.unreadable_from}
use Rattle.lk_lines.proofs.Expectations.{walks}
use Rattle.lk_lines.proofs.unreadable.unreadable_from.Goals as goal

pub returns-in_default-after : goal.returns-in_default-after
returns-in_default-after c =
    sym (walks c.loop-token.column c.loop-token.expected c.loop-token.rest.now c.in-Some.token.now
    (tokens_of c.in-Some.after.now) None c.in-Some.ensures.pieces
    (sym c.after.ensures ∙ c.in_default-after.is)) ∙ c.loop-token.invariant.rest

pub loop-token-preserved : goal.loop-token-preserved
loop-token-preserved c =
    let column : ℕ = c.loop-token.column in
    let size : ℕ = length c.in-Some.token.now in
    let same : column + (size + 1) ≡ column + size + 1 = omega arith in
    record {
      rest = ap (λ (k : ℕ). unreadable_from k c.in-Some-after.next (tokens_of c.in-Some.after.now))
          same
          ∙ sym (walks column c.loop-token.expected c.loop-token.rest.now c.in-Some.token.now
          (tokens_of c.in-Some.after.now) (Some c.in-Some-after.next) c.in-Some.ensures.pieces
          (sym c.after.ensures ∙ c.in-Some-after.is))
          ∙ c.loop-token.invariant.rest;
      fits = omega (arith, c.in-Some.ensures.whole, c.loop-token.invariant.fits);
    }

pub returns-in_default-after-2 : goal.returns-in_default-after-2
returns-in_default-after-2 c =
    sym (walks c.loop-token.column c.loop-token.expected c.loop-token.rest.now
    c.loop-token.rest.now [] None c.in_default.ensures.pieces
    (sym c.after-2.ensures ∙ c.in_default-after-2.is))
    ∙ c.loop-token.invariant.rest

pub returns-then-may_end : goal.returns-then-may_end
returns-then-may_end c =
    sym (walks c.loop-token.column c.loop-token.expected c.loop-token.rest.now
    c.loop-token.rest.now [] (Some c.in-Some-after-2.next) c.in_default.ensures.pieces
    (sym c.after-2.ensures ∙ c.in-Some-after-2.is)
    ∙ cond-true _ _ _ (sym c.may_end.ensures ∙ c.if-may_end.true))
    ∙ c.loop-token.invariant.rest

pub returns : goal.returns
returns c =
    sym (walks c.loop-token.column c.loop-token.expected c.loop-token.rest.now
    c.loop-token.rest.now [] (Some c.in-Some-after-2.next) c.in_default.ensures.pieces
    (sym c.after-2.ensures ∙ c.in-Some-after-2.is)
    ∙ cond-false _ _ _ (sym c.may_end.ensures ∙ c.if-may_end.false))
    ∙ c.loop-token.invariant.rest
