-- The bytes of all threads, one after another.
use Rattle.std.proofs.Common.{◌≡◌, ℕ, suc, ◌+◌, ◌-◌, ◌<◌, ◌≤◌, List, [], ◌∷◌, ◌++◌, Option, length}
use Rattle.std.proofs.Common.{sym, ap, ◌∙◌, arith, append_assoc, append-nil}
use Rattle.std.specs.Int.{to_le_bytes, w64}
use Rattle.lk_locks.specs.State.{State, phase_at}
use Rattle.lk_locks.specs.Locks.{step_due}
use Rattle.lk_locks.specs.declared.kinds.Phase.{Phase}
use Rattle.lk_locks.specs.declared.kinds.StepKind.{StepKind}
use Rattle.lk_search.specs.Phases.{phase_code, phase_number}
use Rattle.lk_page.specs.Codes.{due_code}
use Rattle.lk_page.specs.Layout.{own_bytes, thread_bytes, threads_bytes}
use Rattle.lk_page.specs.Next.{allowed_calls}
use Rattle.lk_page.specs.Owned.{next_word, locked_word, record_name}

here : (s : State) (t : ℕ) → t < length s.phases → own_bytes s t ≡ thread_bytes s t
here s t h = grind (arith, h)

-- a thread's own bytes, after others
pub own_put : (s : State) (t : ℕ) (p : Phase) (step : Option StepKind)
    (code due calls next locked name number : ℕ) (out mid new : List ℕ) → t < length s.phases
    → p ≡ phase_at s.phases t → step ≡ step_due s.kind (phase_at s.phases t) → code ≡ phase_code p
    → due ≡ due_code step → calls ≡ allowed_calls s t → next ≡ next_word s.kind s.bits t
    → locked ≡ locked_word s.kind s.bits t → name ≡ record_name s.kind s.bits t
    → number ≡ phase_number p
    → mid ≡ out ++ (code ∷ due ∷ calls ∷ next ∷ locked ∷ name ∷ 0 ∷ 0 ∷ [])
    → new ≡ mid ++ to_le_bytes w64 number → new ≡ out ++ thread_bytes s t
own_put s t p step code due calls next locked name number out mid new h a b c d e n l r f m w =
    w ∙ ap (λ (xs : List ℕ). xs ++ to_le_bytes w64 number) m ∙ append_assoc out _ _
    ∙ rw (c, d, e, n, l, r, f, b, a) (ap (λ (xs : List ℕ). out ++ xs) (here s t h))

pub threads_more : (s : State) (t : ℕ) (out next whole : List ℕ) → t < 64
    → next ≡ out ++ thread_bytes s t → out ++ threads_bytes s t (64 - t) ≡ whole
    → next ++ threads_bytes s (t + 1) (64 - (t + 1)) ≡ whole
threads_more s t out next whole h w i =
    let e : 64 - t ≡ suc (64 - (t + 1)) = omega (arith, h) in
    ap (λ (xs : List ℕ). xs ++ threads_bytes s (t + 1) (64 - (t + 1))) w
    ∙ append_assoc out (thread_bytes s t) _
    ∙ sym (ap (λ (k : ℕ). out ++ threads_bytes s t k) e) ∙ i

pub threads_done : (s : State) (t : ℕ) (out whole : List ℕ) → 64 ≤ t
    → out ++ threads_bytes s t (64 - t) ≡ whole → out ≡ whole
threads_done s t out whole h i =
    let e : 64 - t ≡ 0 = omega (arith, h) in
    sym (append-nil out) ∙ sym (ap (λ (k : ℕ). out ++ threads_bytes s t k) e) ∙ i
