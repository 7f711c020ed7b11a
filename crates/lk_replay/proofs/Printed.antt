-- The lines that are printed as the moves are played are those of the report.
use Rattle.std.proofs.Common.{◌≡◌, ℕ, ◌+◌, ◌<◌, List, [], ◌∷◌, ◌++◌}
use Rattle.std.proofs.Common.{Option, None, Some, is_some, false, refl, ap, ◌∙◌, arith}
use Rattle.lk_locks.specs.State.{State, start_of}
use Rattle.lk_locks.specs.Sequential.{nobody}
use Rattle.lk_locks.specs.declared.kinds.Entry.{Entry}
use Rattle.lk_locks.specs.declared.kinds.LockKind.{LockKind}
use Rattle.lk_locks.specs.declared.kinds.Refusal.{Refusal}
use Rattle.lk_locks.proofs.Histories.{after_append, holder_append}
use Rattle.lk_replay.specs.Occupancy.{Occupancy, occupancy_after, occupancy_of, occupancy_text}
use Rattle.lk_replay.specs.Replay.{Made, Replay, replay_from, replay_of}
use Rattle.lk_replay.specs.Report.{line_start, lines_text, replay_text, state_text}
use Rattle.lk_replay.specs.ReportRest.{rest_of, text_from}
use Rattle.lk_replay.specs.Schedule.{Plan}
use Rattle.lk_replay.specs.declared.ending.Ending.{Ending}
use Rattle.lk_replay.specs.declared.schedule.Line.{Line}

-- the occupancy after a history that grows
occupancy_more : (kind : LockKind) (es new : List Entry)
    → occupancy_after (occupancy_of kind es) new ≡ occupancy_of kind (es ++ new)
occupancy_more kind es new = rw (after_append (nobody kind) es new, holder_append None es new) refl

text_is : (kind : LockKind) (count : ℕ) (es : List Entry) (ms : List Made)
    (refused : Option (ℕ × Refusal))
    → text_from (occupancy_of kind es) count ms refused ≡ lines_text kind count es ms refused
unfolding state_text
text_is kind count es [] refused = refl
text_is kind count es (m ∷ ms) refused =
    let now : List Entry = es ++ m.entries in
    ap (λ (o : Occupancy). (line_start (count + 1) m.accepted ++ occupancy_text o)
    ++ text_from o (count + 1) ms refused) (occupancy_more kind es m.entries)
    ∙ ap (λ (ys : List ℕ). (line_start (count + 1) m.accepted ++ state_text kind now) ++ ys)
    (text_is kind (count + 1) now ms refused)

-- a new replay prints the report of the schedule
pub replay_printed : (p : Plan) (o : Occupancy) (count : ℕ) (s : State) (moves : List Line)
    → o ≡ occupancy_of p.shape.kind [] → count ≡ 0 → s ≡ start_of p.shape → moves ≡ p.moves
    → let rest : Replay = replay_from s moves in
    text_from o count rest.made rest.refused ≡ replay_text p.shape.kind (replay_of p)
replay_printed p o count s moves follows none starts are =
    rw (follows, none, starts, are)
    (text_is p.shape.kind 0 [] (replay_of p).made (replay_of p).refused)

-- a report that did not end has lines left
pub lines_left : (ending : Option Ending) (o : Occupancy) (count : ℕ) (rest : Replay)
    → false ≡ is_some ending → 0 < (rest_of ending o count rest).left
lines_left None o count rest open_still = omega arith
lines_left (Some ending) o count rest open_still = absurd (cc)
