-- States that are written out: those to which moves lead, and those in which no thread can go on.
use Rattle.std.proofs.Common.{[], arith, inl, inr, length, replicate, suc, zero, List, ℕ, ◌≡◌}
use Rattle.std.proofs.lemmas.List.{get_or-replicate, length-replicate}
use Rattle.lk_locks.specs.{Locks.word_count, State.State}
use Rattle.lk_locks.specs.Progress.{ComesToRest, IsAtRest, IsFinishing, state_after}
use Rattle.lk_locks.specs.declared.kinds.LockKind.{LockKind}
use Rattle.lk_locks.specs.declared.kinds.Move.{Move}
use Rattle.lk_locks.proofs.progress.Going.{is_within}
use Rattle.lk_locks.proofs.progress.Resting.{no_run_is_stuck}
use Rattle.lk_tests.specs.WorkedStates.{new}

-- after any moves a lock of two threads comes to rest
pub comes : (kind : LockKind) (ms : List (ℕ × Move)) → ComesToRest (state_after (new kind) ms)
comes kind ms =
    let count : ℕ = word_count kind 2 in
    let size : length {A = ℕ} (replicate count 0) ≡ count = length-replicate count 0 in
    no_run_is_stuck kind 2 (replicate count 0) 2 ms (omega arith) (omega arith)
    (omega (arith, size)) (λ i within. get_or-replicate count i 0 0 (omega (arith, within, size)))

module _ (s : State) (two : length s.phases ≡ 2) (first : (m : Move) → ¬ IsFinishing s 0 m)
    (second : (m : Move) → ¬ IsFinishing s 1 m) where
  -- a lock of two threads, neither of which can go on
  neither : (t : ℕ) (m : Move) → ¬ IsFinishing s t m
  neither zero m finishing = first m finishing
  neither (suc zero) m finishing = second m finishing
  neither (suc (suc t)) m finishing =
      omega (arith, is_within s (suc (suc t)) m finishing, two)

  -- so it does not come to rest, if one of them is not idle
  pub stuck : ¬ IsAtRest s → ¬ ComesToRest s
  stuck restless comes = elim ((comes [] tt).1) [
    | inl rests ↦ restless rests
    | inr can ↦ neither can.thread can.move can.finishing
  ]
