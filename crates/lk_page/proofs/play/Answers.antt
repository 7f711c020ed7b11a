-- The state is written at the beginning of what was lent.
use Rattle.std.proofs.Common.{◌≡◌, List, ℕ, length, drop, ◌++◌, Option, Some, None, is_some, refl}
use Rattle.std.proofs.Common.{sym, ap, ◌∙◌, length-take-le}
use Rattle.std.specs.Int.{from_bool}
use Rattle.lk_locks.specs.declared.kinds.Refusal.{Refusal}
use Rattle.lk_replay.specs.Schedule.{moves_left, plan_of}
use Rattle.lk_page.specs.Written.{answer_of}
use Rattle.lk_page.proofs.Ends.{plays}
use Rattle.lk_page.proofs.play.Goals as goal

one_if_refused : (refused : Option (ℕ × Refusal)) → from_bool (is_some refused) ≡ answer_of refused
one_if_refused None = refl
one_if_refused (Some r) = refl

pub copy_from_slice-requires : goal.copy_from_slice-requires
copy_from_slice-requires c =
    length-take-le 2304 c.args.state.now c.if-state-lt-STATE_BYTES.false
    ∙ sym (ap length c.as_slice.ensures.value ∙ c.fault_bytes.ensures.size)

pub copy_from_slice-requires-2 : goal.copy_from_slice-requires-2
copy_from_slice-requires-2 c =
    length-take-le 2304 c.args.state.now c.if-state-lt-STATE_BYTES.false
    ∙ sym (ap length c.as_slice-2.ensures.value ∙ c.state_bytes-bytes.ensures.size)

pub returns-clause-told : goal.returns-clause-told
returns-clause-told c = λ enough.
    plays (record { shape = c.in-Ok.read.0; moves = moves_left c.in-Ok.read.1 0 })
    (plan_of c.args.text.now) c.args.most _ c.in-Ok.read.2
    c.at_start-lock.result c.play_moves-stopped.new.lock c.play_moves-stopped.result.count
    c.play_moves-stopped.result.refused
    c.args.records.now c.play_moves-stopped.new.records c.args.state.now _
    c.state_bytes-bytes.result.items
    c.in-Ok.ensures.read
    c.at_start-lock.ensures.start
    c.play_moves-stopped.ensures.played
    (c.from.ensures ∙ ap from_bool c.is_some.ensures ∙ one_if_refused _)
    c.in-Ok.ensures.count c.state_bytes-bytes.ensures.bytes
    (ap (λ (xs : List ℕ). xs ++ drop 2304 c.args.state.now)
    (c.copy_from_slice-2.ensures.after ∙ c.as_slice-2.ensures.value))
