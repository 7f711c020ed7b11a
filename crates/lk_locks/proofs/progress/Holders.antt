-- The read-write locks: while the flag is set, or somebody reads, some thread can go on.
use Rattle.std.proofs.Common.{List, None, Option, Some, [], ◌∷◌, arith, inl, inr, refl, sym, true}
use Rattle.std.proofs.Common.{Bool, ℕ, ◌∙◌, ◌≡◌, ◌≢◌, ◌||◌, ◌⊎◌}
use Rattle.std.proofs.lemmas.Bool.{eq-eqb, or_right}
use Rattle.lk_locks.specs.{Progress.CanFinish, State.State, State.phase_at}
use Rattle.lk_locks.specs.Sequential.{Sequential, has}
use Rattle.lk_locks.specs.invariants.Threads.{is_this}
use Rattle.lk_locks.specs.invariants.read_write.{AreHolders, flag_of, is_announced, is_reading}
use Rattle.lk_locks.specs.invariants.read_write.{is_writing}
use Rattle.lk_locks.specs.Types.{Phase, AwaitReaders}
use Rattle.lk_locks.proofs.Threads.{first_has}

-- a thread in this phase is inside, or leaves
abbrev pub is_holding : Phase → Bool
is_holding p = is_reading p || is_writing p

-- each thread in such a phase can go on
abbrev pub HoldersCan : State → Type 0
HoldersCan s = (t : ℕ) → is_holding (phase_at s.phases t) ≡ true → CanFinish s

-- so can a reader, if there is one
pub some_reads : (s : State) (readers : List ℕ)
    → ((t : ℕ) → has readers t ≡ is_reading (phase_at s.phases t)) → HoldersCan s
    → readers ≢ [] → CanFinish s
some_reads s [] reading can some = absurd (some refl)
some_reads s (reader ∷ others) reading can some =
    can reader (rw (← reading reader, first_has reader others) refl)

-- while the flag is set, somebody writes, or is announced
flag_for : (writer announced : Option ℕ) → flag_of writer announced ≢ 0
    → ((t : ℕ) × (is_this writer t ≡ true)) ⊎ ((t : ℕ) × (is_this announced t ≡ true))
flag_for (Some t) announced set = inl (t, eq-eqb t t refl)
flag_for None (Some t) set = inr (t, eq-eqb t t refl)
flag_for None None set = absurd (set refl)

awaits_readers : (p : Phase) → is_announced p ≡ true → p ≡ AwaitReaders
awaits_readers p announced = grind arith

-- so the writer can go on, or the announced one
pub flag_set : (s : State) (q : Sequential) → AreHolders s.phases q → HoldersCan s
    → ((t : ℕ) → phase_at s.phases t ≡ AwaitReaders → CanFinish s)
    → flag_of q.writer q.announced ≢ 0 → CanFinish s
flag_set s q holders can announced_can set = elim (flag_for q.writer q.announced set) [
  | inl (t, writes) ↦ can t (or_right _ _ (sym (holders.writing t) ∙ writes))
  | inr (t, announces) ↦
      announced_can t (awaits_readers (phase_at s.phases t) (sym (holders.awaiting t) ∙ announces))
]
