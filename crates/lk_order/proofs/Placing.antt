-- An order with a line more is an order, if the line is the next of its thread's log and agrees
-- with the lock.
use Rattle.std.proofs.Common.{◌≡◌, ◌≢◌, ℕ, suc, ◌+◌, ◌<◌, ◌==◌, List, [], ◌∷◌, ◌++◌, Some, length}
use Rattle.std.proofs.Common.{take, get_or, set, refl, sym, ap, ◌∙◌, subst, arith, inl, inr}
use Rattle.std.proofs.Common.{length-append}
use Rattle.std.specs.List.{slice_get}
use Rattle.std.proofs.Math.Seq.{take-suc}
use Rattle.std.proofs.lemmas.Bool.{cond-true, cond-false, eq-eqb, ne_eqb, cases_eq}
use Rattle.std.proofs.lemmas.List.{append-nil, get_or-set_same, get_or-set_other}
use Rattle.std.proofs.lemmas.List.Elements.{filter-append, All-append, All-cons, All-nil}
use Rattle.std.proofs.lemmas.Option.{slice_get_within, get_or_from_slice_get}
use Rattle.lk_trace.specs.Agreement.{Agrees}
use Rattle.lk_trace.specs.Checks.{Checked, lock_with}
use Rattle.lk_trace.specs.declared.line.TraceLine.{TraceLine}
use Rattle.lk_order.specs.Runs.{moves_of}
use Rattle.lk_order.specs.Orders.{Ordered, IsOrder, IsAccepted, after_lines, lines_by, placed_of}
use Rattle.lk_order.specs.Orders.{next_line, with_line}

accepted_more : (c : Checked) (trace : List TraceLine) (line : TraceLine) → IsAccepted c trace
    → Agrees (after_lines c trace) line → IsAccepted c (trace ++ line ∷ [])
accepted_more c [] line accepted agrees = (agrees, tt)
accepted_more c (l ∷ rest) line accepted agrees =
    (accepted.0, accepted_more (lock_with c l) rest line accepted.1 agrees)

after_more : (c : Checked) (trace : List TraceLine) (line : TraceLine)
    → after_lines c (trace ++ line ∷ []) ≡ lock_with (after_lines c trace) line
after_more c [] line = refl
after_more c (l ∷ rest) line = after_more (lock_with c l) rest line

-- a line is added to those of its thread alone
by_own : (t : ℕ) (trace : List TraceLine) (line : TraceLine) → line.thread ≡ t
    → lines_by t (trace ++ line ∷ []) ≡ lines_by t trace ++ line ∷ []
by_own t trace line is =
    filter-append (λ (l : TraceLine). l.thread == t) trace (line ∷ [])
    ∙ ap (λ l. lines_by t trace ++ l)
    (cond-true (line.thread == t) (line ∷ []) [] (eq-eqb line.thread t is))

by_other : (t : ℕ) (trace : List TraceLine) (line : TraceLine) → line.thread ≢ t
    → lines_by t (trace ++ line ∷ []) ≡ lines_by t trace
by_other t trace line other =
    filter-append (λ (l : TraceLine). l.thread == t) trace (line ∷ [])
    ∙ ap (λ l. lines_by t trace ++ l)
    (cond-false (line.thread == t) (line ∷ []) [] (ne_eqb line.thread t other))
    ∙ append-nil (lines_by t trace)

count_own : (t : ℕ) (trace : List TraceLine) (line : TraceLine) → line.thread ≡ t
    → length (lines_by t (trace ++ line ∷ [])) ≡ length (lines_by t trace) + 1
count_own t trace line is =
    ap length (by_own t trace line is) ∙ length-append (lines_by t trace) (line ∷ [])

-- of the line's own thread one more is placed
each_own : (t : ℕ) (trace moves : List TraceLine) (line : TraceLine) → line.thread ≡ t
    → slice_get moves (length (lines_by t trace)) ≡ Some line
    → lines_by t trace ≡ take (length (lines_by t trace)) moves
    → lines_by t (trace ++ line ∷ []) ≡ take (length (lines_by t (trace ++ line ∷ []))) moves
each_own t trace moves line is next starts =
    let n : ℕ = length (lines_by t trace) in
    let value : get_or moves n line ≡ line = get_or_from_slice_get moves n line line next in
    let grown : take (suc n) moves ≡ take n moves ++ line ∷ [] =
    take-suc moves n line (slice_get_within moves n line next)
    ∙ ap (λ x. take n moves ++ x ∷ []) value in
    let count : length (lines_by t (trace ++ line ∷ [])) ≡ suc n =
    omega (arith, count_own t trace line is) in
    by_own t trace line is ∙ ap (λ l. l ++ line ∷ []) starts ∙ sym grown
    ∙ sym (ap (λ k. take k moves) count)

each_other : (t : ℕ) (trace moves : List TraceLine) (line : TraceLine) → line.thread ≢ t
    → lines_by t trace ≡ take (length (lines_by t trace)) moves
    → lines_by t (trace ++ line ∷ []) ≡ take (length (lines_by t (trace ++ line ∷ []))) moves
each_other t trace moves line other starts =
    by_other t trace line other ∙ starts
    ∙ sym (ap (λ l. take (length l) moves) (by_other t trace line other))

each_more : (o : Ordered) (line : TraceLine) → IsOrder o → next_line o line.thread ≡ Some line
    → (u : ℕ) → u < o.header.threads
    → lines_by u (o.trace ++ line ∷ [])
    ≡ take (length (lines_by u (o.trace ++ line ∷ []))) (moves_of o.logs u)
each_more o line order next u below =
    elim (cases_eq line.thread u) [
      | inl own ↦
          each_own u o.trace (moves_of o.logs u) line own
          (subst (λ x. next_line o x ≡ Some line) own next) (order.each u below)
      | inr other ↦ each_other u o.trace (moves_of o.logs u) line other (order.each u below)
    ]

pub order_more : (o : Ordered) (line : TraceLine) → IsOrder o → next_line o line.thread ≡ Some line
    → line.thread < o.header.threads → Agrees o.lock line → IsOrder (with_line o line)
order_more o line order next below agrees = record {
  run = order.run;
  accepted =
      accepted_more _ o.trace line order.accepted (subst (λ c. Agrees c line) order.lock_is agrees);
  lock_is = ap (λ c. lock_with c line) order.lock_is ∙ sym (after_more _ o.trace line);
  each = each_more o line order next;
  others =
      All-append (λ (l : TraceLine). l.thread < o.header.threads) o.trace (line ∷ []) order.others
      (All-cons (λ (l : TraceLine). l.thread < o.header.threads) line [] below
      (All-nil (λ (l : TraceLine). l.thread < o.header.threads)));
}

-- how many lines of each thread are placed
pub counted_more : (o : Ordered) (line : TraceLine) (at : List ℕ) → length at ≡ 256
    → line.thread < 256
    → ((t : ℕ) → t < 256 → get_or at t 0 ≡ placed_of o t)
    → (t : ℕ) → t < 256
    → get_or (set at line.thread (get_or at line.thread 0 + 1)) t 0
    ≡ placed_of (with_line o line) t
counted_more o line at long within counted t below =
    elim (cases_eq line.thread t) [
      | inl own ↦ ap (λ u. get_or (set at line.thread (get_or at line.thread 0 + 1)) u 0) (sym own)
          ∙ get_or-set_same at line.thread _ 0 (omega arith)
          ∙ ap (λ n. n + 1) (counted line.thread within)
          ∙ sym (count_own line.thread o.trace line refl)
          ∙ ap (λ u. placed_of (with_line o line) u) own
      | inr other ↦
          get_or-set_other at line.thread t _ 0 (λ same. other (sym same)) ∙ counted t below
          ∙ sym (ap length (by_other t o.trace line other))
    ]
