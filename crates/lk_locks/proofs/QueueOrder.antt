-- The holders of a queue lock are apart, and enter in the order of their requests.
use Rattle.std.proofs.Common.{◌≡◌, ℕ, List, [], ◌∷◌, ◌++◌, drop, true, Option, None, Some, ap, sym}
use Rattle.std.proofs.Common.{◌∙◌, append_assoc, inl, inr, ◌⊎◌, refl, arith}
use Rattle.std.proofs.{lemmas.Bool.eq-eqb, lemmas.List.append-nil}
use Rattle.lk_locks.specs.Sequential.{Sequential, nobody, is_head, after_act, after_entry}
use Rattle.lk_locks.specs.Legal.{IsEnabled, AreEnabled, OfEveryLegal}
use Rattle.lk_locks.specs.Holding.{holder_after, one_or_none}
use Rattle.lk_locks.specs.Exclusion.{IsHeldInTurn, HasOneHolder}
use Rattle.lk_locks.specs.Order.{IsInOrder, request_order, entering_order}
use Rattle.lk_locks.proofs.Places.{HasOne, any_of}
use Rattle.lk_locks.proofs.Histories.{holder_append, after_enabled}
use Rattle.lk_locks.specs.Types.{Acquire, Release, Entry, Acted, Returned}
use Rattle.lk_locks.proofs.QueueLaws.{HoldsAlong, holders_take_turns, in_order, HeadHolds}

-- holders are apart

-- holders that take turns in a history take turns in each later part of it
held_later : (holder : Option ℕ) (before after : List Entry)
    → IsHeldInTurn holder (before ++ after) → IsHeldInTurn (holder_after holder before) after
held_later holder [] after in_turn = in_turn
held_later holder (e ∷ before) after (may, in_turn) =
    rw (holder_append holder (e ∷ []) before)
    (held_later (holder_after holder (e ∷ [])) before after in_turn)

-- until its release the holder holds, whatever others do
unless_released : (t : ℕ) (middle more : List Entry) → IsHeldInTurn (Some t) (middle ++ more)
    → HasOne (λ e. e ≡ Acted t Release) middle ⊎ IsHeldInTurn (Some t) more
unless_released t [] more in_turn = inr in_turn
unless_released t (Returned other Acquire ∷ es) more (nobody_held, in_turn) = cc
unless_released t (Acted other Release ∷ es) more (other_held, in_turn) = inl (inl (cc))
unless_released t (e ∷ es) more (may, in_turn) =
    elim (unless_released t es more in_turn) [
      | inl released ↦ inl (inr released)
      | inr held ↦ inr held
    ]

-- the law: between two entries into a queue lock, the first holder has released it
pub holders_are_apart : OfEveryLegal (λ kind. HasOneHolder)
holders_are_apart kind n es legal t other before middle after is =
    let all = rw append_assoc at (rw is at (holders_take_turns kind n es legal)) in
    let (nobody_held, since) =
    held_later None before (Returned t Acquire ∷ (middle ++ Returned other Acquire ∷ after)) all in
    elim (unless_released t middle (Returned other Acquire ∷ after) since) [
      | inl released ↦ any_of _ middle released
      | inr (nobody_holds, in_turn) ↦ cc
    ]

-- the order of entry

-- a queue is its head and the rest
head_split : (q : List ℕ) (t : ℕ) → is_head q t ≡ true → t ∷ drop 1 q ≡ q
head_split q t at_head = grind arith

-- the holder, those that enter and some others are, in order, the queue and those that join it
abbrev AreServed : Option ℕ → List ℕ → List Entry → Type 0
AreServed holder queue es =
    (rest : List ℕ)
    × (one_or_none holder ++ (entering_order es ++ rest) ≡ queue ++ request_order es)

-- the holder is the first of the threads that wait or hold
serves_now : (holder : Option ℕ) (queue : List ℕ) → HeadHolds holder queue
    → AreServed holder queue []
serves_now None queue head_holds = (queue, sym (append-nil queue))
serves_now (Some t) queue head_holds = (
  drop 1 queue,
  head_split queue t (head_holds t (eq-eqb t t refl)) ∙ sym (append-nil queue),
)

-- the queue that an enabled entry leaves, with later requests
queue_after : (q : Sequential) (e : Entry) (es : List Entry) → IsEnabled q e
    → (after_entry q e).queue ++ request_order es ≡ (after_act q e).queue ++ request_order es
queue_after q e es enabled =
    ap (λ now. now.queue ++ request_order es) (after_enabled q e enabled)

-- the threads enter in the order in which they joined the queue
serves : (es : List Entry) (q : Sequential) (holder : Option ℕ) → AreEnabled q es
    → HoldsAlong holder q es → AreServed holder q.queue es
serves [] q holder enabled head_holds = serves_now holder q.queue head_holds
serves (Acted t Acquire ∷ es) q holder (may_act, enabled) (head_holds, may_hold, along) =
    let (rest, is) = serves es (after_entry q (Acted t Acquire)) holder enabled along in
    let queued = is ∙ queue_after q (Acted t Acquire) es may_act in
    (rest, queued ∙ append_assoc q.queue (t ∷ []) (request_order es))
serves (Acted t Release ∷ es) q holder (may_act, enabled) (head_holds, held, along) =
    let (rest, is) = serves es (after_entry q (Acted t Release)) None enabled along in
    let split = head_split q.queue t (head_holds t (rw held (eq-eqb t t refl))) in (
      rest,
      rw held
          (ap (λ threads. t ∷ threads) (is ∙ queue_after q (Acted t Release) es may_act)
          ∙ ap (λ threads. threads ++ request_order es) split),
    )
serves (Returned t Acquire ∷ es) q holder (may_act, enabled) (head_holds, free, along) =
    let (rest, is) = serves es q (Some t) enabled along in (rest, rw free is)
serves (e ∷ es) q holder (may_act, enabled) (head_holds, may_hold, along) =
    let (rest, is) = serves es (after_entry q e) holder enabled along in
    (rest, is ∙ queue_after q e es may_act)

-- the law: a queue lock is entered in the order of its acquires
pub enters_in_order : OfEveryLegal (λ kind. IsInOrder)
enters_in_order kind n es legal =
    serves es (nobody kind) None legal.allowed (in_order kind n es legal)
