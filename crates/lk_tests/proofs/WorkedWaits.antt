-- A thread in the queue of a lock that is free of starvation cannot starve.
use Rattle.std.proofs.Math.Nat.{mul-le-mul_left}
use Rattle.std.proofs.Common.{List, [], arith, length, ℕ, ◌*◌, ◌+◌, ◌-◌, ◌∷◌, ◌≡◌, ◌≤◌}
use Rattle.lk_locks.specs.Starvation.{CanStarve, IsInQueue, IsKeptOut, IsStarvationFree}
use Rattle.lk_locks.specs.Starvation.{KeepsWaiting, count_in, goes_on}
use Rattle.lk_locks.specs.Steps.{after_move}
use Rattle.lk_locks.specs.State.{State}
use Rattle.lk_locks.proofs.starvation.Waiting.{few_threads}
use Rattle.lk_locks.specs.declared.kinds.LockKind.{LockKind}
use Rattle.lk_locks.specs.declared.kinds.Move.{Move}
use Rattle.lk_locks.specs.declared.kinds.Phase.{Phase}

-- a thread that waits in this phase waits in the queue
in_queue : (p : Phase) (t : ℕ) (s : State) (ms : List (ℕ × Move)) → IsInQueue p
    → KeepsWaiting (λ now. now ≡ p) t s ms → KeepsWaiting IsInQueue t s ms
in_queue p t s [] queued waits = rw waits queued
in_queue p t s (m ∷ ms) queued (waits, later) =
    (rw waits queued, in_queue p t (after_move s m.0 m.1) ms queued later)

pub cannot_starve : (kind : LockKind) (p : Phase) (most : ℕ) → IsStarvationFree kind most
    → IsInQueue p → CanStarve kind p → ⊥
cannot_starve kind p most free queued can =
    let run : IsKeptOut kind p 3 (63 * most + 1) =
    can 3 (63 * most + 1) (omega arith) (omega arith) in
    let few : count_in goes_on run.state run.moves ≤ most * (length run.state.phases - 1) =
    free 3 run.state run.thread run.moves run.reached
    (in_queue p run.thread run.state run.moves queued run.waits) in
    let threads : length run.state.phases ≤ 64 = few_threads kind 3 run.state run.reached in
    absurd (too_many most (length run.state.phases) _ few threads run.others_go_on)
  where
    too_many : (most threads made : ℕ) → made ≤ most * (threads - 1) → threads ≤ 64
        → 63 * most + 1 ≤ made → ⊥
    too_many most threads made few fits many =
        let fewer : threads - 1 ≤ 63 = omega arith in
        omega (arith, few, many, mul-le-mul_left most fewer)
