-- The rule of a state, in the terms of a ticket lock.
use Rattle.std.proofs.Common.{◌≡◌, ◌≢◌, ℕ, zero, suc, ◌<◌, ◌≤◌, List, [], ◌∷◌, get_or, set, sym}
use Rattle.std.proofs.Common.{refl, ap, ◌∙◌, subst, arith, inl, inr}
use Rattle.std.proofs.lemmas.Bool.{cases_lt}
use native.Mathlib.Decide.{ℕ_discrete}
use mathlib.Core.Logic.{dite}
use mathlib.Core.Option.{some, some-injective, some-ne-none}
use lib.ListN.{get_elem?}
use Rattle.atomic_table.specs.Table.{Final, Seen}
use Rattle.atomic_table.proofs.Lists.{set_else, at_longer}
use Rattle.lk_workers.specs.declared.live.LivePhase.{LivePhase}
use Rattle.lk_workers.specs.declared.live.LivePhase.TheVariants.{Idle, Waiting}
use Rattle.lk_workers.specs.declared.live.rule.SeatState.{SeatState}
use Rattle.lk_workers.specs.Counting.{sum_over, indicator}
use Rattle.lk_workers.specs.Seats.{Table, next_of, serving_of, ticket_indicator}
use Rattle.lk_workers.specs.Seats.{ticket_indicator_in, IsHolding}
use Rattle.lk_workers.specs.invariants.Running.{FitsPhase, Fits, Each, Running}
use Rattle.lk_workers.specs.LockState.{IsAt, LockState, OthersStay, IsEnd}
use Rattle.lk_workers.proofs.Sums.{at_most_sum, two_there, some_one, word_at}
use Rattle.lk_workers.proofs.Below.{indicator_here, none_there, at_most_once, below_of, once_there}

each_at : (P : SeatState → Type 0) (v : List SeatState) (k : ℕ) (r : SeatState) → Each P v
    → get_elem? v k ≡ some r → P r
each_at P [] k r e at = absurd (some-ne-none r (sym at))
each_at P (x ∷ xs) zero r e at = subst P (some-injective x r at) e.0
each_at P (x ∷ xs) (suc k) r e at = each_at P xs k r e.1 at

ticket_indicator_of : (t : ℕ) (p : LivePhase) (u : ℕ) → p ≢ Idle → u ≡ t
    → ticket_indicator_in t p u ≡ 1
ticket_indicator_of t Idle u n e = absurd (n refl)
ticket_indicator_of t p u n e = ap (indicator t) e ∙ indicator_here t

indicator_of_same : (t u : ℕ) → 1 ≤ indicator t u → u ≡ t
indicator_of_same t u h =
    dite (ℕ_discrete u t) (λ e. e)
    (λ n. absurd (let z : indicator t u ≡ 0 = grind arith in omega arith))

of_ticket_indicator : (t : ℕ) (p : LivePhase) (u : ℕ) → 1 ≤ ticket_indicator_in t p u
    → (p ≢ Idle) × (u ≡ t)
of_ticket_indicator t Idle u h = absurd (omega arith)
of_ticket_indicator t p u h = ((λ e. grind arith), indicator_of_same t u h)

taken_of : (m : ℕ) (p : LivePhase) (t taken : ℕ) → FitsPhase m p t taken → p ≢ Idle → 1 ≤ taken
taken_of m Idle t taken f n = absurd (n refl)
taken_of m Waiting t taken f n = f
taken_of m p t taken f n = f.1

held_of : (m : ℕ) (p : LivePhase) (t taken : ℕ) → FitsPhase m p t taken → IsHolding p
    → (t ≡ m) × (p ≢ Idle)
held_of m Idle t taken f h = absurd h
held_of m Waiting t taken f h = absurd h
held_of m p t taken f h = (f.0, λ e. grind arith)

module _ (takes : ℕ) (s : Table) (h : Running takes s) where
  -- the ticket of a seat is one of those between the words
  pub between : (id k : ℕ) (r : SeatState) → IsAt s.views id k r → r.phase ≢ Idle
      → (serving_of s ≤ r.ticket) × (r.ticket < next_of s)
  between id k r at busy =
      let t = r.ticket in
      let one = ticket_indicator_of t r.phase t busy refl in
      let a = at_most_sum (ticket_indicator t) at.0 k r at.2 in
      let b = at_most_sum (sum_over (ticket_indicator t)) s.views id at.0 at.1 in
      let c = h.tickets t in
      let d = at_most_once t (next_of s) in
      let up = below_of t (next_of s) (omega arith) in
      elim (cases_lt t (serving_of s)) [
        | inl less ↦ absurd (omega (arith, once_there t (serving_of s) less))
        | inr low ↦ (low, up)
      ]

  pub lock_state : LockState s
  lock_state = record {
    order = h.served;
    waiting = λ id k r at w. between id k r at (λ e. grind arith);
    holding = λ id k r at w. (
        let f = each_at (Fits (serving_of s)) at.0 k r (h.seats id at.0 at.1).0 at.2 in
        let g = held_of (serving_of s) r.phase r.ticket r.taken f.0 w in
        (g.0, omega (arith, between id k r at g.1, g.0)));
    differ =
        λ id k id' k' r r' t at at' a b.
        (let ha = ticket_indicator_of t r.phase r.ticket a.0 a.1 in
        let hb = ticket_indicator_of t r'.phase r'.ticket b.0 b.1 in
        let c = h.tickets t in
        let d = at_most_once t (next_of s) in
        let p = at_most_sum (ticket_indicator t) at.0 k r at.2 in
        let q = at_most_sum (ticket_indicator t) at'.0 k' r' at'.2 in
        let same_view : id ≡ id' = dite (ℕ_discrete id id') (λ e. e) (λ n. absurd (let two =
        two_there (sum_over (ticket_indicator t)) s.views id id' at.0 at'.0 n at.1 at'.1 in
        omega arith)) in
        let is : at'.0 ≡ at.0 =
        some-injective at'.0 at.0 (sym at'.1 ∙ ap (get_elem? s.views) (sym same_view) ∙ at.1) in (
          same_view,
          dite (ℕ_discrete k k') (λ e. e) (λ n. absurd (
              let two = two_there (ticket_indicator t) at.0 k k' r r' n at.2
              (ap (λ v. get_elem? v k') (sym is) ∙ at'.2) in
              let z = at_most_sum (sum_over (ticket_indicator t)) s.views id at.0 at.1 in
              omega arith)),
        ));
    each = λ t low up. (
        let a = once_there t (next_of s) up in
        let b = none_there t (serving_of s) low in
        let c = h.tickets t in
        let p = some_one (sum_over (ticket_indicator t)) s.views (omega arith) in
        let q = some_one (ticket_indicator t) p.1 p.3 in
        let g = of_ticket_indicator t q.1.phase q.1.ticket q.3 in
        (p.0, q.0, q.1, (p.1, p.2, q.2), g));
    taken = h.taken;
    some_taken = λ id k r at busy. taken_of (serving_of s) r.phase r.ticket r.taken
        (each_at (Fits (serving_of s)) at.0 k r (h.seats id at.0 at.1).0 at.2).0 busy;
    left = h.left;
    seen = λ id k r at. (each_at (Fits (serving_of s)) at.0 k r (h.seats id at.0 at.1).0 at.2).1;
    two_at_most = λ id v at. (h.seats id v at).1;
  }

-- no other view changes
pub others_stay : OthersStay
others_stay s id j n = (
  λ i m c w a. set_else s.views id j w n,
  λ v left right at.
      at_longer (set s.views id left) (right ∷ []) j v (set_else s.views id j left n ∙ at),
  λ other both spent m.
      set_else (set s.views id both) other j spent m ∙ set_else s.views id j both n,
)

-- the last state
pub ends : (takes id : ℕ) (v : List SeatState) (r : SeatState) (words : List ℕ)
    (slots : List (Unit {0})) (n m : ℕ)
    → v ≡ r ∷ []
    → Final (Seen (Running takes) id v) words slots → get_elem? words 0 ≡ some n
    → get_elem? words 1 ≡ some m → IsEnd n m r
ends takes id v r words slots n m is h w0 w1 = (
  h.0,
  lock_state takes h.0 h.1.0,
  ap (λ (ws : List ℕ). get_or ws 0 0) h.2 ∙ word_at words 0 n w0,
  ap (λ (ws : List ℕ). get_or ws 1 0) h.2 ∙ word_at words 1 m w1,
  (id, h.1.1 ∙ ap some is),
)

only_one : (r q : SeatState) (k : ℕ) → get_elem? (r ∷ []) k ≡ some q → r ≡ q
only_one r q zero at = some-injective r q at
only_one r q (suc k) at = absurd (some-ne-none q (sym at))

-- at the end an idle seat that took all tickets leaves none to be served
pub closes : (n m : ℕ) (r : SeatState) → IsEnd n m r → r.phase ≡ Idle
    → (m ≤ n) × (r.taken ≤ n) × (r.taken ≡ n → m ≡ n)
closes n m r (s, h, en, em, (id, at)) idle =
    let all = h.taken in
    let low = h.order in
    let mine = at_most_sum (sum_over (λ u. u.taken)) s.views id (r ∷ []) at in (
      omega arith,
      omega arith,
      λ whole. elim (cases_lt m n) [
        | inr more ↦ omega arith
        | inl less ↦
            let (id', k, q, there, has) = h.each m (omega arith) (omega arith) in
            let some_taken = h.some_taken id' k q there has.0 in
            let its = at_most_sum (λ u. u.taken) there.0 k q there.2 in
            absurd (dite (ℕ_discrete id id')
            (λ same. has.0 (ap (λ u. u.phase) (sym (only_one r q k
            (ap (λ v. get_elem? v k) (some-injective (r ∷ []) there.0
            (sym at ∙ ap (get_elem? s.views) same ∙ there.1)) ∙ there.2))) ∙ idle))
            (λ other. let two = two_there (sum_over (λ u. u.taken)) s.views id id' (r ∷ [])
            there.0 other at there.1 in
            omega arith))
      ],
    )
