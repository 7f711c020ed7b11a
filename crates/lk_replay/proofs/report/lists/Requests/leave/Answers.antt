-- The head's number is the first.
use Rattle.std.proofs.Common.{◌+◌, ◌∙◌, ap, arith, drop}
use Rattle.lk_replay.specs.Occupancy.{numbers_in}
use Rattle.lk_replay.proofs.Listing.{head_left}
use Rattle.lk_replay.proofs.report.lists.Requests.leave.Goals as goal

pub remove-requires : goal.remove-requires
remove-requires c =
    (head_left c.self.inside.text c.args.thread (0 + (c.width.result + 1)) c.self.invariant
    (rw (← c.self.view_is) at c.requires) (omega (arith, c.width.ensures.digits))).within

pub invariant_of-self : goal.invariant_of-self
invariant_of-self c =
    rw c.remove.ensures
    (head_left c.self.inside.text c.args.thread (0 + (c.width.result + 1)) c.self.invariant
    (rw (← c.self.view_is) at c.requires) (omega (arith, c.width.ensures.digits))).queue

pub returns : goal.returns
returns c =
    ap numbers_in c.remove.ensures
    ∙ (head_left c.self.inside.text c.args.thread (0 + (c.width.result + 1)) c.self.invariant
    (rw (← c.self.view_is) at c.requires) (omega (arith, c.width.ensures.digits))).rest
    ∙ ap (drop 1) c.self.view_is
