-- An order on which nothing is placed.
use Rattle.std.proofs.Common.{◌≡◌, ℕ, ◌<◌, List, [], Some, map, get_or, refl, sym, ap, ◌∙◌}
use Rattle.std.proofs.Common.{subst, arith, inl, inr}
use Rattle.std.specs.Prelude.{option_map}
use Rattle.std.specs.List.{All, slice_get}
use Rattle.std.proofs.lemmas.List.{get_or_past, length-map}
use Rattle.std.proofs.lemmas.List.Elements.{All-nil}
use Rattle.std.proofs.lemmas.Option.{slice_get_cases, slice_get-map, get_or_from_slice_get}
use Rattle.lk_locks.specs.State.{Shape}
use Rattle.lk_trace.specs.Checks.{Checked}
use Rattle.lk_trace.specs.Checks.{new_lock}
use Rattle.lk_trace.specs.declared.line.TraceLine.{TraceLine}
use Rattle.lk_order.specs.Logs.{ThreadLog}
use Rattle.lk_order.specs.Runs.{IsRunOf, moves_of}
use Rattle.lk_order.specs.Picked.{IsInside, IsKept}

abbrev moves_in : ThreadLog → List TraceLine
moves_in log = log.moves

pub moves_at : (logs : List ThreadLog) (t : ℕ) (log : ThreadLog) → slice_get logs t ≡ Some log
    → moves_of logs t ≡ log.moves
moves_at logs t log is =
    get_or_from_slice_get (map moves_in logs) t log.moves []
    (slice_get-map moves_in logs t ∙ ap (option_map moves_in) is)

pub own_of : (header : Shape) (logs : List ThreadLog) → IsRunOf header logs → (t : ℕ)
    → All (λ (l : TraceLine). l.thread ≡ t) (moves_of logs t)
own_of header logs run t =
    elim ((slice_get_cases logs t).1) [
      | inl found ↦
          subst (All (λ (l : TraceLine). l.thread ≡ t)) (sym (moves_at logs t found.0 found.2))
          (run.each t found.0 found.2).own
      | inr past ↦
          subst (All (λ (l : TraceLine). l.thread ≡ t))
          (sym (get_or_past (map moves_in logs) t [] (omega (arith, length-map logs moves_in))))
          (All-nil (λ (l : TraceLine). l.thread ≡ t))
    ]

pub kept_new : (header : Shape) (logs : List ThreadLog) (lock : Checked) (at : List ℕ)
    → IsRunOf header logs → lock ≡ new_lock header → ((t : ℕ) → t < 256 → get_or at t 0 ≡ 0)
    → IsKept (record { header = header; logs = logs; trace = []; lock = lock }) [] at
kept_new header logs lock at run is zeros = record {
  order = record {
    run = run;
    accepted = tt;
    lock_is = is;
    each = λ t below. refl;
    others = All-nil (λ (l : TraceLine). l.thread < header.threads);
  };
  own = own_of header logs run;
  inside = All-nil (IsInside logs);
  quiet = λ k place none. absurd (cc);
  counted = zeros;
}
