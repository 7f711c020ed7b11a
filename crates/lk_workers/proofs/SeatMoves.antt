-- Each step of the running ticket lock keeps its rule.
use Rattle.std.proofs.Common.{◌≡◌, ◌≢◌, ℕ, ◌+◌, ◌%◌, ◌^◌, ◌<◌, ◌≤◌, ◌==◌, Bool, true}
use Rattle.std.proofs.Common.{false, List, [], ◌∷◌, length, if◌then◌else◌, set, sym, refl, ap}
use Rattle.std.proofs.Common.{◌∙◌, subst, arith, length-set, get_or-set_same, get_or-set_other}
use Rattle.std.proofs.Common.{⊎_elim}
use Rattle.std.specs.Prelude.{⊤}
use mathlib.Core.Option.{none, some}
use lib.ListN.{get_elem?}
use Rattle.std.proofs.lemmas.List.{set-get_or}
use Rattle.atomic_table.specs.Table.{Step, step, keeps, stepped, Allows}
use Rattle.atomic_table.proofs.Lists.{at_set, set_again}
use Rattle.lk_workers.specs.declared.live.LivePhase.{LivePhase}
use Rattle.lk_workers.specs.declared.live.LivePhase.TheVariants.{Idle, Waiting, Inside, Leaving}
use Rattle.lk_workers.specs.declared.live.rule.SeatState.{SeatState}
use Rattle.lk_workers.specs.Counting.{sum_over, indicator, once_below}
use Rattle.lk_workers.specs.Seats.{access, with_access, Table, sum_over_seats, next_of}
use Rattle.lk_workers.specs.Seats.{first_of, seat_with}
use Rattle.lk_workers.specs.Seats.{serving_of, ticket_indicator, ticket_indicator_in, IsHolding}
use Rattle.lk_workers.specs.SeatSteps.{LiveStep, take_step, look_step, read_step, pass_step}
use Rattle.lk_workers.specs.SeatSteps.{seat_after}
use Rattle.lk_workers.specs.invariants.Running.{Sees, FitsPhase, Fits, Each}
use Rattle.lk_workers.specs.invariants.Running.{ViewFits, Running, OfOne, Inspects}
use Rattle.lk_workers.proofs.Sums.{sum_over-set, at_most_sum}
use Rattle.lk_workers.proofs.Below.{below_suc, indicator_here, at_most_once, below_of, once_there}

step_of_one : (live : LiveStep) (tells : SeatState → ℕ → Type 0) (st : Step (Unit {0})) (me : Sees)
    (found : ℕ) (r : SeatState)
    → me.0 ≡ r ∷ [] → tells r found
    → OfOne live tells st me found
    (with_access (access st.word st.first) (live.next r found) ∷ [], me.1)
step_of_one live tells st me found r is t r' is' =
    let e : r ≡ r' = ap first_of (sym is ∙ is') in (
      ap (λ z. (with_access (access st.word st.first) (live.next z found) ∷ [], me.1)) e,
      subst (λ z. tells z found) e t,
    )

-- a seat's view, as its struct keeps it
pub view_of_seat : (me : Sees) (q : SeatState) (c : List (ℕ × Unit {0})) → me ≡ (q ∷ [], c) → c ≡ []
    → me ≡ (seat_with q.phase q.ticket q.left q.taken q.seen me.0 ∷ [], [])
view_of_seat me q c e none_held = e ∙ (λ k. (
  seat_with q.phase q.ticket q.left q.taken q.seen (sym e k).0 ∷ [],
  none_held k,
))

pub view_after_look : (me : Sees) (p : LivePhase) (r : SeatState) (found : ℕ)
    (c : List (ℕ × Unit {0})) (b : Bool)
    → me ≡ (seat_after look_step r found ∷ [], c) → c ≡ [] → (found == r.ticket) ≡ b
    → p ≡ (if b then Inside else Waiting)
    → me ≡ (seat_with p r.ticket r.left r.taken found me.0 ∷ [], [])
view_after_look me p r found c b e none_held is same_phase =
    let is_p : (if (found == r.ticket) then Inside else Waiting) ≡ p =
    ap (λ d. if d then Inside else Waiting) is ∙ sym same_phase in
    view_of_seat me
    (record (seat_after look_step r found) { phase = p }) c
    (e ∙ ap (λ d. (record (seat_after look_step r found) { phase = d } ∷ [], c)) is_p) none_held

pub running_at : (takes : ℕ) (s : Table) (n m : ℕ) → length s.words ≡ 2 → next_of s ≡ n
    → serving_of s ≡ m → m ≤ n
    → ((x : ℕ) → sum_over_seats (ticket_indicator x) s.views + once_below x m ≡ once_below x n)
    → ((id : ℕ) (v : List SeatState) → get_elem? s.views id ≡ some v → ViewFits m v)
    → sum_over_seats (λ r. r.taken) s.views ≡ n → n + sum_over_seats (λ r. r.left) s.views ≤ 2 ^ 40
    → Running takes s
running_at takes s n m two en em low tickets seats taken left = record {
  two_words = two;
  served = omega arith;
  tickets = λ x. omega (arith, ap (once_below x) en, ap (once_below x) em, tickets x);
  seats = λ id v at. subst (λ k. ViewFits k v) (sym em) (seats id v at);
  taken = taken ∙ sym en;
  left = omega arith;
}

pub views_set : (P : List SeatState → Type 0) (views : List (List SeatState)) (id : ℕ)
    (w : List SeatState)
    → P w → ((j : ℕ) (u : List SeatState) → j ≢ id → get_elem? views j ≡ some u → P u)
    → (j : ℕ) (u : List SeatState) → get_elem? (set views id w) j ≡ some u → P u
views_set P views id w mine others j u e =
    ⊎_elim (λ (x : (j ≡ id) × (w ≡ u)). subst P x.1 mine)
    (λ (x : (j ≢ id) × (get_elem? views j ≡ some u)). others j u x.0 x.1) (at_set views id j w u e)

-- a sum over all seats after a step of one of them
change : (f : SeatState → ℕ) (vs : List (List SeatState)) (id : ℕ) (r q : SeatState)
    → get_elem? vs id ≡ some (r ∷ [])
    → sum_over_seats f (set vs id (q ∷ [])) + f r ≡ sum_over_seats f vs + f q
change f vs id r q at = omega (arith, sum_over-set (sum_over f) vs id (r ∷ []) (q ∷ []) at)

-- the facts that a take finds
abbrev TakeFinds : SeatState → ℕ → Type 0
TakeFinds r found = (r.seen ≤ found) × (found < 2 ^ 40) × (r.taken < 2 ^ 40)

module _ (takes slots id : ℕ) (me : Sees) (r : SeatState) (is : me.0 ≡ r ∷ []) where
  pub take : r.phase ≡ Idle → 0 < r.left
      → Allows (Running takes) slots id me 0 (λ n. (n + 1) % 2 ^ 64)
      (OfOne take_step TakeFinds (step slots 0 1 0 none) me)
  take idle some_left s h _ at0 _ =
      let at : get_elem? s.views id ≡ some (r ∷ []) = at0 ∙ ap some is in
      let n : ℕ = next_of s in
      let m : ℕ = serving_of s in
      let q : SeatState = seat_after take_step r n in
      let vs : List (List SeatState) = s.views in
      let sum = h.left in
      let low = at_most_sum (sum_over (λ u. u.left)) vs id (r ∷ []) at in
      let all = h.taken in
      let mine = at_most_sum (sum_over (λ u. u.taken)) vs id (r ∷ []) at in
      let old = h.seats id (r ∷ []) at in let served = h.served in let seen = old.0.0.1 in
      let next : (n + 1) % 2 ^ 64 ≡ n + 1 = omega arith in (
        (q ∷ []),
        keeps,
        tt,
        running_at takes (stepped s 0 ((n + 1) % 2 ^ 64) id me.1 (q ∷ []) keeps) (n + 1) m
            (length-set s.words 0 _ ∙ h.two_words)
            (get_or-set_same s.words 0 _ 0 (omega (arith, h.two_words)) ∙ next)
            (get_or-set_other s.words 0 1 _ 0 (λ e. omega arith)) (omega arith)
            (λ x. let none_yet = ap (λ (p : LivePhase). ticket_indicator_in x p r.ticket) idle in
            omega (arith, change (ticket_indicator x) vs id r q at, h.tickets x, below_suc x n))
            (views_set (ViewFits m) vs id (q ∷ []) (((omega arith, seen), tt), omega arith)
            (λ j u _ e. h.seats j u e))
            (omega (arith, change (λ u. u.taken) vs id r q at))
            (omega (arith, change (λ u. u.left) vs id r q at)),
        step_of_one take_step TakeFinds (step slots 0 1 0 none) me n r is
            (omega arith, omega arith, omega arith),
      )

  -- a load of `now_serving` that leaves the seat its ticket and what it took and has left
  load : (live : LiveStep) (tells : SeatState → ℕ → Type 0)
      → ((x m : ℕ) → ticket_indicator x (live.next r m) ≡ ticket_indicator x r)
      → ((m : ℕ) → (live.next r m).taken ≡ r.taken) → ((m : ℕ) → (live.next r m).left ≡ r.left)
      → ((m : ℕ) → Fits m r → Fits m (live.next r m) × tells r m)
      → Allows (Running takes) slots id me 1 (λ n. n)
      (OfOne live tells (step slots 1 0 0 none) me)
  load live tells has taken left fits s h _ at0 _ =
      let at : get_elem? s.views id ≡ some (r ∷ []) = at0 ∙ ap some is in
      let n : ℕ = next_of s in
      let m : ℕ = serving_of s in
      let q : SeatState = with_access (access 1 0) (live.next r m) in
      let vs : List (List SeatState) = s.views in
      let new = fits m (h.seats id (r ∷ []) at).0.0 in (
        (q ∷ []),
        keeps,
        tt,
        running_at takes (stepped s 1 m id me.1 (q ∷ []) keeps) n m
            (length-set s.words 1 _ ∙ h.two_words)
            (get_or-set_other s.words 1 0 _ 0 (λ e. omega arith))
            (get_or-set_same s.words 1 _ 0 (omega (arith, h.two_words))) h.served
            (λ x. omega (arith, change (ticket_indicator x) vs id r q at, has x m, h.tickets x))
            (views_set (ViewFits m) vs id (q ∷ []) ((new.0, tt), omega arith)
            (λ j u _ e. h.seats j u e))
            (omega (arith, change (λ u. u.taken) vs id r q at, taken m, h.taken))
            (omega (arith, change (λ u. u.left) vs id r q at, left m, h.left)),
        step_of_one live tells (step slots 1 0 0 none) me m r is new.1,
      )

  look_indicator : (x t : ℕ) (b : Bool)
      → ticket_indicator_in x (if b then Inside else Waiting) t ≡ indicator x t
  look_indicator x t true = refl
  look_indicator x t false = refl

  look_fits : (m t taken : ℕ) (b : Bool) → (m == t) ≡ b → 1 ≤ taken
      → FitsPhase m (if b then Inside else Waiting) t taken
  look_fits m t taken true e some_taken = (grind arith, some_taken)
  look_fits m t taken false e some_taken = some_taken

  pub look : r.phase ≡ Waiting
      → Allows (Running takes) slots id me 1 (λ n. n)
      (OfOne look_step (λ q found. q.seen ≤ found) (step slots 1 0 0 none) me)
  look waiting = load look_step (λ q found. q.seen ≤ found)
      (λ x m. look_indicator x r.ticket (m == r.ticket)
      ∙ sym (ap (λ (p : LivePhase). ticket_indicator_in x p r.ticket) waiting))
      (λ m. refl) (λ m. refl)
      (λ m old. let some_taken : 1 ≤ r.taken =
      subst (λ p. FitsPhase m p r.ticket r.taken) waiting old.0 in
      ((look_fits m r.ticket r.taken (m == r.ticket) refl some_taken, omega arith), old.1))

  pub read : r.phase ≡ Inside
      → Allows (Running takes) slots id me 1 (λ n. n)
      (OfOne read_step (λ q found. found ≡ q.ticket) (step slots 1 0 0 none) me)
  read inside = load read_step (λ q found. found ≡ q.ticket)
      (λ x m. sym (ap (λ (p : LivePhase). ticket_indicator_in x p r.ticket) inside))
      (λ m. refl) (λ m. refl)
      (λ m old. let fits = subst (λ p. FitsPhase m p r.ticket r.taken) inside old.0 in
      ((fits, omega arith), sym fits.0))

  -- if no seat has the ticket that was served, each fits the next
  up_phase : (m : ℕ) (p : LivePhase) (t taken : ℕ) → FitsPhase m p t taken
      → ticket_indicator_in m p t ≡ 0 → FitsPhase (m + 1) p t taken
  up_phase m Idle t taken f z = tt
  up_phase m Waiting t taken f z = f
  up_phase m p t taken f z = absurd (omega (arith, indicator_here m, ap (indicator m) f.0))

  up : (m : ℕ) (u : List SeatState) → Each (Fits m) u → sum_over (ticket_indicator m) u ≡ 0
      → Each (Fits (m + 1)) u
  up m [] e z = tt
  up m (p ∷ ps) e z =
      let here = up_phase m p.phase p.ticket p.taken e.0.0 (omega arith) in
      ((here, omega (arith, e.0.1)), up m ps e.1 (omega arith))

  pub pass : (new : ℕ) → r.phase ≡ Leaving → new ≡ r.ticket + 1
      → Allows (Running takes) slots id me 1 (λ _. new)
      (λ _. OfOne pass_step (λ q found. ⊤) (step slots 1 new 0 none) me new)
  pass new leaving is_next s h _ at0 _ =
      let at : get_elem? s.views id ≡ some (r ∷ []) = at0 ∙ ap some is in
      let n : ℕ = next_of s in
      let m : ℕ = serving_of s in
      let q : SeatState = with_access (access 1 new) (pass_step.next r m) in
      let vs : List (List SeatState) = s.views in
      let old = h.seats id (r ∷ []) at in
      let fits = subst (λ p. FitsPhase m p r.ticket r.taken) leaving old.0.0.0 in
      let here : r.ticket ≡ m = fits.0 in
      let has_r : (x : ℕ) → ticket_indicator x r ≡ indicator x m =
      λ x. ap (λ p. ticket_indicator_in x p r.ticket) leaving ∙ ap (indicator x) here in
      let part = at_most_sum (sum_over (ticket_indicator m)) vs id (r ∷ []) at in
      let one = indicator_here m in
      let hm = has_r m in
      let tm = h.tickets m in
      let more : m < n = below_of m n (omega arith) in
      let tickets : (x : ℕ)
      → sum_over_seats (ticket_indicator x) (set vs id (q ∷ [])) + once_below x (m + 1)
      ≡ once_below x n =
      λ x. omega (
        arith,
        change (ticket_indicator x) vs id r q at,
        has_r x,
        h.tickets x,
        below_suc x m,
      ) in
      let gone : sum_over_seats (ticket_indicator m) (set vs id (q ∷ [])) ≡ 0 =
      omega (arith, tickets m, at_most_once m n, once_there m (m + 1) (omega arith)) in (
        (q ∷ []),
        keeps,
        tt,
        running_at takes (stepped s 1 new id me.1 (q ∷ []) keeps) n (m + 1)
            (length-set s.words 1 _ ∙ h.two_words)
            (get_or-set_other s.words 1 0 _ 0 (λ e. omega arith))
            (get_or-set_same s.words 1 _ 0 (omega (arith, h.two_words)) ∙ is_next
            ∙ ap (λ k. k + 1) here)
            (omega arith) tickets
            (λ j u e. ⊎_elim (λ (x : (j ≡ id) × (q ∷ [] ≡ u)). subst (ViewFits (m + 1)) x.1
            (((tt, omega arith), tt), omega arith))
            (λ (x : (j ≢ id) × (get_elem? vs j ≡ some u)). let f = h.seats j u x.1 in (
              up m u f.0
                  (let a = at_most_sum (sum_over (ticket_indicator m)) (set vs id (q ∷ [])) j u e in
                  omega arith),
              f.1,
            ))
            (at_set vs id j (q ∷ []) u e))
            (omega (arith, change (λ u. u.taken) vs id r q at, h.taken))
            (omega (arith, change (λ u. u.left) vs id r q at, h.left)),
        step_of_one pass_step (λ q found. ⊤) (step slots 1 new 0 none) me new r is tt,
      )

module _ (takes slots id : ℕ) (me : Sees) where
  holds_it : (m : ℕ) (p : LivePhase) (t taken : ℕ) → FitsPhase m p t taken → IsHolding p
      → ticket_indicator_in m p t ≡ 1
  holds_it m Idle t taken f h = absurd h
  holds_it m Waiting t taken f h = absurd h
  holds_it m p t taken f h = ap (indicator m) f.0 ∙ indicator_here m

  pub inspects : Allows (Running takes) slots id me 0 (λ n. n) (Inspects (step slots 0 0 0 none) me)
  inspects s h _ at _ = let m : ℕ = serving_of s in let n : ℕ = next_of s in (
    me.0,
    keeps,
    tt,
    subst (Running takes) (λ k. record {
      words = sym (set-get_or s.words 0 0) k;
      homes = s.homes;
      views = sym (set_again s.views id me.0 at) k;
    }) h,
    (
      refl,
      refl,
      λ r is. let at' : get_elem? s.views id ≡ some (r ∷ []) = at ∙ ap some is in
          let t = h.taken in
          let l = h.left in (
            omega (arith, at_most_sum (sum_over (λ u. u.left)) s.views id (r ∷ []) at'),
            omega (arith, at_most_sum (sum_over (λ u. u.taken)) s.views id (r ∷ []) at'),
          ),
      λ r q is. let at' : get_elem? s.views id ≡ some (r ∷ q ∷ []) = at ∙ ap some is in
          let once : (x : ℕ) → ticket_indicator x r + ticket_indicator x q ≤ 1 = λ x. omega (
            arith,
            at_most_sum (sum_over (ticket_indicator x)) s.views id (r ∷ q ∷ []) at',
            h.tickets x,
            at_most_once x n,
          ) in
          let fits = h.seats id (r ∷ q ∷ []) at' in (
            (λ two. let a = holds_it m r.phase r.ticket r.taken fits.0.0.0 two.0 in
                let b = holds_it m q.phase q.ticket q.taken fits.0.1.0.0 two.1 in
                let c = once m in
                absurd (omega arith)),
            once,
          ),
    ),
  )
