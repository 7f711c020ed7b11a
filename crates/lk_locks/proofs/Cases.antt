-- The obligations of each step of a lock.
use Rattle.std.proofs.Common.{List, [], length, set, slice_index, true, unwrap_or, ℕ, ◌++◌, ◌∷◌}
use Rattle.std.proofs.Common.{◌≡◌, ◌<◌, ◌≤◌, ◌^◌, None, sym}
use Rattle.std.proofs.lemmas.List.{set-get_or}
use Rattle.std.specs.List.{AllByRecursion}
use Rattle.lk_locks.specs.{Change.Change, declared.kinds.Entry.TheVariants.Called}
use Rattle.lk_locks.specs.Steps.{belongs, has_op, move_change, refusal_in}
use Rattle.lk_locks.specs.Legal.{AreEnabled, after_entries, whole_call}
use Rattle.lk_locks.specs.Locks.{after_call, family_of, step_of, word_count}
use Rattle.lk_locks.specs.Sequential.{Sequential, nobody, thread_of}
use Rattle.lk_locks.specs.State.{State, phase_at, start}
use Rattle.lk_locks.specs.invariants.Locks.{AgreeAs, AreLinks, IsPhaseOf, owed_of}
use Rattle.lk_locks.specs.Types.{Entry, LockKind, Move, Call, Op, Phase, Idle}

-- entries of one thread alone
abbrev pub AreOf : ℕ → List Entry → Type 0
AreOf t es = AllByRecursion (λ e. thread_of e ≡ t) es

-- the facts that are given when thread t makes the move m in phase p
pub record IsTaken (kind : LockKind) (bits : ℕ) (ws : List ℕ) (ps : List Phase) (q : Sequential)
    (t : ℕ) (p : Phase) (m : Move) : Type 0 where
  pub kind_is : q.kind ≡ kind
  pub thread : t < length ps
  pub few : length ps ≤ 64
  pub enough : word_count kind (length ps) ≤ length ws
  pub phase_is : phase_at ps t ≡ p
  pub fits : IsPhaseOf kind (length ps) p
  pub own : belongs kind m ≡ true
  pub not_refused : refusal_in kind p m ≡ None
  pub agrees : AgreeAs kind (record { kind = kind; bits = bits; words = ws; phases = ps }) q

-- The agreement after a move, with the entries that it adds: they may come, and the lock agrees
-- with the sequential object after them.
abbrev pub IsAgreed : (Sequential → Type 0) → Sequential → List Entry → Type 0
IsAgreed agree q es = AreEnabled q es × agree (after_entries q es)

-- each move of the lock keeps the agreement, and its entries may come
abbrev pub Keeps : LockKind → Type 0
Keeps kind =
    (bits : ℕ) (ws : List ℕ) (ps : List Phase) (q : Sequential) (t : ℕ) (p : Phase) (m : Move)
    → IsTaken kind bits ws ps q t p m
    → let change : Change = move_change kind bits ws t p m in
    let next : State =
    record { kind = kind; bits = bits; words = change.words; phases = set ps t change.phase } in
    IsAgreed (AgreeAs kind next) q change.entries

-- a thread that waits changes nothing
pub waits : {kind : LockKind} {bits : ℕ} {ws : List ℕ} {ps : List Phase} {q : Sequential} {t : ℕ}
    {p : Phase} {m : Move} → IsTaken kind bits ws ps q t p m
    → IsAgreed
    (AgreeAs kind (record { kind = kind; bits = bits; words = ws; phases = set ps t p })) q []
waits given = (tt, rw (sym given.phase_is) (rw set-get_or given.agrees))

-- The obligations of a lock. `EachLock` has their proofs for each.
pub record LockProof (kind : LockKind) : Type 0 where
  -- each step adds the next entries of the pending call
  pub goes_on : (bits t : ℕ) (ws : List ℕ) (p : Phase)
      → owed_of kind t p
      ≡ (step_of kind bits ws t p).entries ++ owed_of kind t (step_of kind bits ws t p).phase
  -- a call begins when the one before it is finished
  pub begins : (n t : ℕ) (p : Phase) (op : Op) → IsPhaseOf kind n p
      → has_op (family_of kind) op ≡ true → refusal_in kind p (Call op) ≡ None
      → (owed_of kind t p ≡ [])
      × (whole_call kind t op ≡ Called t op ∷ owed_of kind t (unwrap_or (after_call kind p op) p))
  -- the entries that a call still owes are of its thread
  pub owed_is_own : (t : ℕ) (p : Phase) → AreOf t (owed_of kind t p)
  -- an idle thread owes nothing
  pub idle_rest : (t : ℕ) → owed_of kind t Idle ≡ []
  -- no step changes the number of words
  pub keeps_length : (bits t : ℕ) (ws : List ℕ) (p : Phase)
      → length (step_of kind bits ws t p).words ≡ length ws
  -- each phase is one of the lock's, and each link names a thread
  pub idle_fits : (n : ℕ) → IsPhaseOf kind n Idle
  pub call_fits : (n : ℕ) (p : Phase) (op : Op) → IsPhaseOf kind n p
      → IsPhaseOf kind n (unwrap_or (after_call kind p op) p)
  pub step_fits : (n bits t : ℕ) (ws : List ℕ) (p : Phase) → t < n → IsPhaseOf kind n p
      → AreLinks kind n ws → IsPhaseOf kind n (step_of kind bits ws t p).phase
  pub clear_links : (n : ℕ) (ws : List ℕ) → ((i : ℕ) → slice_index ws i ≡ 0) → AreLinks kind n ws
  pub links_fit : (n bits t : ℕ) (ws : List ℕ) (p : Phase) → t < n → AreLinks kind n ws
      → AreLinks kind n (step_of kind bits ws t p).words
  -- a new lock agrees with its sequential object
  pub starts : (bits : ℕ) (ws : List ℕ) (n : ℕ) → n < 2 ^ bits
      → ((i : ℕ) → slice_index ws i ≡ 0) → AgreeAs kind (start kind bits ws n) (nobody kind)
  -- each move keeps that, and its entries may come
  pub keeps : Keeps kind
