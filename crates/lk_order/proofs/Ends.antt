-- The end of an order, by the step that is most certainly wrong. All is placed if there is none.
use Rattle.std.proofs.Common.{◌≡◌, ℕ, ◌<◌, ◌≤◌, List, Some, None, length, get_or}
use Rattle.std.proofs.Common.{◌∙◌, inl, inr, arith}
use Rattle.std.specs.List.{slice_get}
use Rattle.std.proofs.lemmas.List.{take_all}
use Rattle.std.proofs.lemmas.Option.{slice_get_cases, slice_get-get_or}
use Rattle.lk_trace.specs.declared.line.TraceLine.{TraceLine}
use Rattle.lk_order.specs.Logs.{ThreadLog}
use Rattle.lk_order.specs.Runs.{moves_of}
use Rattle.lk_order.specs.Orders.{Ordered, IsOrder, next_line, placed_of}
use Rattle.lk_order.specs.Endings.{EndsWhereCut, IsCut, IsStuck, IsSuspect, IsWhole, IsWorst}
use Rattle.lk_order.specs.Endings.{doubt_at}
use Rattle.lk_order.specs.declared.find.Suspect.{Suspect}
use Rattle.lk_order.proofs.Suspects.{no_next}

past_all : (moves : List TraceLine) (n : ℕ) → slice_get moves n ≡ None → length moves ≤ n
past_all moves n none =
    elim ((slice_get_cases moves n).1) [
      | inl found ↦ absurd (cc (none, found.2))
      | inr past ↦ past.0
    ]

pub whole : (o : Ordered) → IsOrder o → ((t : ℕ) → t < o.header.threads → next_line o t ≡ None)
    → ((t : ℕ) (log : ThreadLog) → slice_get o.logs t ≡ Some log → next_line o t ≡ None
    → log.dropped ≡ Some 0)
    → IsWhole o
whole o order none uncut = record {
  all = λ t below. order.each t below ∙ take_all (placed_of o t) (moves_of o.logs t)
      (past_all (moves_of o.logs t) (placed_of o t) (none t below));
  uncut = λ k d inside. uncut k (get_or o.logs k d) (slice_get-get_or o.logs k d inside)
      (none k (omega (arith, order.run.one_each)));
}

-- no step is left, and a log is cut short
pub cut_off : (o : Ordered) → EndsWhereCut o
    → ((t : ℕ) → t < o.header.threads → next_line o t ≡ None) → IsCut o
cut_off o ends none = record {
  ends = ends;
  doubted = λ t inside. omega (arith, no_next o t (none t inside));
}

-- no step is surely wrong, and a log is cut short
pub cut_before : (o : Ordered) (s : Suspect) → EndsWhereCut o → IsSuspect o s.stuck.thread s
    → IsWorst o o.header.threads s.stuck.thread → 0 < s.doubt → IsCut o
cut_before o s ends suspect worst doubted = record {
  ends = ends;
  doubted = λ t inside. omega (arith, worst.least t inside, suspect.doubt_is);
}

pub stuck_at : (o : Ordered) (s : Suspect) → IsSuspect o s.stuck.thread s
    → IsWorst o o.header.threads s.stuck.thread → (EndsWhereCut o → s.doubt ≡ 0)
    → IsStuck o s.stuck
stuck_at o s suspect worst sure = record {
  step = suspect.step;
  worst = worst;
  sure = λ ends. cc (sure ends, suspect.doubt_is);
}
