-- The number comes last.
use Rattle.std.proofs.Common.{◌++◌, ◌∙◌, ◌∷◌, [], List, ℕ, ap, arith, length}
use Rattle.lk_replay.proofs.Listing.{later_most, request_came}
use Rattle.lk_replay.proofs.report.lists.Requests.join.Goals as goal

pub push_block-requires-clause-room : goal.push_block-requires-clause-room
push_block-requires-clause-room c =
    let queue = c.self.invariant in
    omega (
      arith,
      ap length queue.listed,
      later_most _ queue.fit,
      ap length c.self.view_is,
      c.requires.few,
    )

pub invariant_of-self : goal.invariant_of-self
invariant_of-self c =
    (request_came c.self.inside.text c.push_block.new.self c.args.thread c.self.invariant
    c.requires.fits (c.push_block.ensures
    ∙ ap (λ (ys : List ℕ). c.self.inside.text ++ ys) c.thread_block-len.ensures.text)).0

pub returns : goal.returns
returns c =
    (request_came c.self.inside.text c.push_block.new.self c.args.thread c.self.invariant
    c.requires.fits (c.push_block.ensures
    ∙ ap (λ (ys : List ℕ). c.self.inside.text ++ ys) c.thread_block-len.ensures.text)).1
    ∙ ap (λ (ys : List ℕ). ys ++ c.args.thread ∷ []) c.self.view_is
