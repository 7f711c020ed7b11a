-- Threads that starve: a round of moves leads back to its first state, and in each round a thread
-- polls in vain.
use Rattle.std.proofs.Common.{Bool, List, [], arith, eqb, false, if◌then◌else◌, length, nat_lt, not}
use Rattle.std.proofs.Common.{refl, replicate, suc, sym, true, zero, ℕ, ◌&&◌, ◌++◌, ◌+◌, ◌∙◌, ◌∷◌}
use Rattle.std.proofs.Common.{◌≡◌, ◌≤◌}
use Rattle.std.proofs.lemmas.Bool.{lt-ltb}
use Rattle.std.proofs.lemmas.List.{get_or-replicate, length-replicate}
use Rattle.lk_locks.specs.Locks.{word_count}
use Rattle.lk_locks.specs.Progress.{is_failed_poll, state_after}
use Rattle.lk_locks.specs.Starvation.{CanStarve, IsKeptOut, IsReached, KeepsWaiting, count_in}
use Rattle.lk_locks.specs.Starvation.{goes_on}
use Rattle.lk_locks.specs.State.{State, phase_at, start}
use Rattle.lk_locks.specs.Steps.{accepts, after_move, next_state}
use Rattle.lk_locks.specs.Types.{LockKind, RwFifo, RwSimple, Move, Call, Step, Section, Phase, Idle}
use Rattle.lk_locks.specs.Types.{Op, ReadLock, Reading, ReadUnlock, TryRead, TryWrite, WriteLock}
use Rattle.lk_locks.specs.Types.{WriteUnlock}
use Rattle.lk_locks.proofs.Acceptance.{accepts_unless_refused}
use Rattle.lk_locks.proofs.Requests.{none_is}

-- accepted moves lead from one state to another; thread t waits in phase p before each, and polls
-- in vain exactly if the move is its own
abbrev Goes : Phase → ℕ → State → List (ℕ × Move) → State → Type 0
Goes p t s [] last = s ≡ last
Goes p t s (m ∷ ms) last =
    (accepts s m.0 m.1 ≡ true) × (phase_at s.phases t ≡ p) × (is_failed_poll s m.0 m.1 ≡ eqb m.0 t)
    × Goes p t (next_state s m.0 m.1) ms last

-- an accepted move leads to the next state
leads_on : (s : State) (t : ℕ) (m : Move) → accepts s t m ≡ true
    → after_move s t m ≡ next_state s t m
leads_on s t m accepted =
    rw (none_is _ (sym (accepts_unless_refused s t m) ∙ accepted)) refl

state_there : (p : Phase) (t : ℕ) (ms : List (ℕ × Move)) (s last : State) → Goes p t s ms last
    → state_after s ms ≡ last
state_there p t [] s last there = there
state_there p t (m ∷ ms) s last (accepted, was, polls, goes) =
    rw (leads_on s m.0 m.1 accepted) (state_there p t ms (next_state s m.0 m.1) last goes)

-- how many of the moves are of threads that meet the test
abbrev moves_of : (ℕ → Bool) → List (ℕ × Move) → ℕ
moves_of test [] = 0
moves_of test (m ∷ ms) = (if test m.0 then 1 else 0) + moves_of test ms

-- such moves keep a thread waiting, its own moves are polls, and the others go on
record IsWaiting (p : Phase) (t : ℕ) (s : State) (ms : List (ℕ × Move)) : Type 0 where
  waits : KeepsWaiting (λ now. now ≡ p) t s ms
  polls : count_in (λ s u m. is_failed_poll s u m && eqb u t) s ms ≡ moves_of (λ u. eqb u t) ms
  others_go_on : count_in goes_on s ms ≡ moves_of (λ u. not (eqb u t)) ms
  no_other_polls : count_in (λ s u m. is_failed_poll s u m && not (eqb u t)) s ms ≡ 0

one_move : (accepted waits own : Bool) → accepted ≡ true → waits ≡ own
    → ((accepted && (waits && own)) ≡ own) × ((accepted && not waits) ≡ not own)
    × ((accepted && (waits && not own)) ≡ false)
one_move accepted waits own is_accepted same = grind arith

waiting_there : (p : Phase) (t : ℕ) (ms : List (ℕ × Move)) (s last : State)
    → phase_at last.phases t ≡ p → Goes p t s ms last → IsWaiting p t s ms
waiting_there p t [] s last waits there = record {
  waits = rw there waits;
  polls = refl;
  others_go_on = refl;
  no_other_polls = refl;
}
waiting_there p t (m ∷ ms) s last waits (accepted, was, polls, goes) =
    let next : State = next_state s m.0 m.1 in
    let is : IsWaiting p t next ms = waiting_there p t ms next last waits goes in
    let one = one_move (accepts s m.0 m.1) (is_failed_poll s m.0 m.1) (eqb m.0 t) accepted polls in
    let lead = leads_on s m.0 m.1 accepted in
    record {
      waits = (was, rw lead is.waits);
      polls = rw (lead, one.0, is.polls);
      others_go_on = rw (lead, one.1, is.others_go_on);
      no_other_polls = rw (lead, one.2, is.no_other_polls);
    }

-- a round again and again
abbrev again : List (ℕ × Move) → ℕ → List (ℕ × Move)
again round zero = []
again round (suc rounds) = round ++ again round rounds

goes_append : (p : Phase) (t : ℕ) (ms more : List (ℕ × Move)) (s middle last : State)
    → Goes p t s ms middle → Goes p t middle more last → Goes p t s (ms ++ more) last
goes_append p t [] more s middle last there on = rw there on
goes_append p t (m ∷ ms) more s middle last (accepted, was, polls, goes) on =
    (accepted, was, polls, goes_append p t ms more (next_state s m.0 m.1) middle last goes on)

moves_append : (test : ℕ → Bool) (ms more : List (ℕ × Move))
    → moves_of test (ms ++ more) ≡ moves_of test ms + moves_of test more
moves_append test [] more = omega arith
moves_append test (m ∷ ms) more = omega (arith, moves_append test ms more)

-- a round that leads back to its state, with a move of thread t and one of another
record IsRound (p : Phase) (t : ℕ) (s : State) (round : List (ℕ × Move)) : Type 0 where
  waits : phase_at s.phases t ≡ p
  goes : Goes p t s round s
  own : 1 ≤ moves_of (λ u. eqb u t) round
  others : 1 ≤ moves_of (λ u. not (eqb u t)) round

module _ (p : Phase) (t : ℕ) (s : State) (round : List (ℕ × Move)) (is : IsRound p t s round) where
  goes_again : (rounds : ℕ) → Goes p t s (again round rounds) s
  goes_again zero = refl
  goes_again (suc rounds) =
      goes_append p t round (again round rounds) s s s is.goes (goes_again rounds)

  least_again : (test : ℕ → Bool) → 1 ≤ moves_of test round → (rounds : ℕ)
      → rounds ≤ moves_of test (again round rounds)
  least_again test least zero = omega arith
  least_again test least (suc rounds) =
      omega (
        arith,
        moves_append test round (again round rounds),
        least_again test least rounds,
      )

  -- any number of such rounds keeps the thread out
  keeps_out : (kind : LockKind) (n rounds : ℕ) → IsReached kind n s → IsKeptOut kind p n rounds
  keeps_out kind n rounds reached =
      let run : IsWaiting p t s (again round rounds) =
      waiting_there p t (again round rounds) s s is.waits (goes_again rounds) in
      record {
        thread = t;
        state = s;
        moves = again round rounds;
        reached = reached;
        waits = run.waits;
        polls = rw run.polls (least_again _ is.own rounds);
        others_go_on = rw run.others_go_on (least_again _ is.others rounds);
        no_other_polls = run.no_other_polls;
      }

-- a move of each kind
abbrev call : ℕ → Op → ℕ × Move
call t op = (t, Call op)

abbrev section : ℕ → ℕ × Move
section t = (t, Step Section)

-- thread 2 waits, and all others but thread 0 are idle
abbrev waiting : LockKind → List ℕ → Phase → Phase → List Phase → State
waiting kind ws first p others = record {
  kind = kind;
  bits = 64;
  words = ws;
  phases = first ∷ Idle ∷ p ∷ others;
}

-- threads 0 to 2 are the lock's
record AreWithin (others : List Phase) : Type 0 where
  first : (nat_lt 0 (suc (suc (suc (length others)))) && true) ≡ true
  second : (nat_lt 1 (suc (suc (suc (length others)))) && true) ≡ true
  third : (nat_lt 2 (suc (suc (suc (length others)))) && true) ≡ true

within : (others : List Phase) → AreWithin others
within others = record {
  first = rw (lt-ltb 0 (suc (suc (suc (length others)))) (omega arith)) refl;
  second = rw (lt-ltb 1 (suc (suc (suc (length others)))) (omega arith)) refl;
  third = rw (lt-ltb 2 (suc (suc (suc (length others)))) (omega arith)) refl;
}

-- a new lock with three threads, and m more
abbrev new : LockKind → ℕ → State
new kind m =
    let n : ℕ = suc (suc (suc m)) in start kind 64 (replicate (word_count kind n) 0) n

-- a state is reached by moves from a new lock, in which thread 1 stays idle
reached_by : (kind : LockKind) (m : ℕ) (s : State) (ms : List (ℕ × Move)) → suc (suc (suc m)) ≤ 64
    → Goes Idle 1 (new kind m) ms s → IsReached kind (suc (suc (suc m))) s
reached_by kind m s ms few goes =
    let count : ℕ = word_count kind (suc (suc (suc m))) in
    let size : length {A = ℕ} (replicate count 0) ≡ count = length-replicate count 0 in
    record {
      bits = 64;
      words = replicate count 0;
      moves = ms;
      few = few;
      narrow = omega arith;
      enough = omega (arith, size);
      clear = λ i below. get_or-replicate count i 0 0 (omega (arith, below, size));
      leads = state_there Idle 1 ms (new kind m) s goes;
    }

-- a state, and a round of moves that leads back to it, among any number of other threads
can_starve : (kind : LockKind) (p : Phase) (s : List Phase → State) (round before : List (ℕ × Move))
    → ((m : ℕ) → IsRound p 2 (s (replicate m Idle)) round)
    → ((m : ℕ) → Goes Idle 1 (new kind m) before (s (replicate m Idle))) → CanStarve kind p
can_starve kind p s round before is leads (suc (suc (suc m))) rounds least most =
    keeps_out p 2 (s (replicate m Idle)) round (is m) kind (suc (suc (suc m))) rounds
    (reached_by kind m (s (replicate m Idle)) before most (leads m))
can_starve kind p s round before is leads n rounds least most = absurd (omega (arith, least))

-- a round of readers: always one is inside, and thread 2 polls after each move
abbrev readers_in_turn : List (ℕ × Move)
readers_in_turn =
    section 2 ∷ call 1 ReadLock ∷ section 2 ∷ section 1 ∷ section 2 ∷ call 0 ReadUnlock
    ∷ section 2 ∷ section 0 ∷ section 2 ∷ call 0 ReadLock ∷ section 2 ∷ section 0
    ∷ section 2 ∷ call 1 ReadUnlock ∷ section 2 ∷ section 1 ∷ []

-- readers in turn keep a writer out
pub simple_writer : CanStarve RwSimple TryWrite
simple_writer =
    can_starve RwSimple TryWrite (waiting RwSimple (1 ∷ 0 ∷ []) Reading TryWrite) readers_in_turn
    (call 0 ReadLock ∷ section 0 ∷ call 2 WriteLock ∷ [])
    (λ m. record {
      waits = refl;
      goes = assumption (within (replicate m Idle));
      own = omega arith;
      others = omega arith;
    })
    (λ m. assumption (within (replicate m Idle)))

-- a round of writers, one after another: thread 2 polls while one of them is inside
abbrev writers_in_turn : List (ℕ × Move)
writers_in_turn =
    call 0 WriteLock ∷ section 0 ∷ section 2 ∷ call 0 WriteUnlock ∷ section 0
    ∷ call 1 WriteLock ∷ section 1 ∷ section 2 ∷ call 1 WriteUnlock ∷ section 1 ∷ []

-- writers in turn keep a reader out
pub simple_reader : CanStarve RwSimple TryRead
simple_reader =
    can_starve RwSimple TryRead (waiting RwSimple (0 ∷ 0 ∷ []) Idle TryRead) writers_in_turn
    (call 2 ReadLock ∷ [])
    (λ m. record {
      waits = refl;
      goes = assumption (within (replicate m Idle));
      own = omega arith;
      others = omega arith;
    })
    (λ m. assumption (within (replicate m Idle)))

pub fifo_reader : CanStarve RwFifo TryRead
fifo_reader =
    can_starve RwFifo TryRead (waiting RwFifo (0 ∷ 0 ∷ 0 ∷ []) Idle TryRead) writers_in_turn
    (call 2 ReadLock ∷ [])
    (λ m. record {
      waits = refl;
      goes = assumption (within (replicate m Idle));
      own = omega arith;
      others = omega arith;
    })
    (λ m. assumption (within (replicate m Idle)))

-- and a writer that has not announced itself
pub fifo_writer : CanStarve RwFifo TryWrite
fifo_writer =
    can_starve RwFifo TryWrite (waiting RwFifo (0 ∷ 0 ∷ 0 ∷ []) Idle TryWrite) writers_in_turn
    (call 2 WriteLock ∷ [])
    (λ m. record {
      waits = refl;
      goes = assumption (within (replicate m Idle));
      own = omega arith;
      others = omega arith;
    })
    (λ m. assumption (within (replicate m Idle)))
