-- The words that a step touches, by what it does to them.
use Rattle.std.proofs.Common.{List, None, Option, Some, arith, length, ℕ, ◌<◌, ◌≤◌, ◌≡◌, ◌≢◌}
use Rattle.std.proofs.Common.{IfSome}
use Rattle.lk_words.specs.declared.operation.Effect.{Effect}
use Rattle.lk_locks.specs.Locks.{effect_of}
use Rattle.lk_locks.specs.State.{State, phase_at}
use Rattle.lk_locks.specs.declared.kinds.Move.{Move}
use Rattle.lk_locks.specs.declared.kinds.Move.TheVariants.{Call, Step}
use Rattle.lk_locks.specs.declared.kinds.SectionEffect.{SectionEffect}
use Rattle.lk_locks.specs.declared.kinds.StepEffect.TheVariants.{Monitor}
use Rattle.lk_locks.specs.read_write.{IsChangeOf}
use Rattle.lk_page.specs.Told.{IsChange, IsOwn, own_word}
use Rattle.lk_page.specs.declared.told.Touch.{Touch}

-- the place of a word of a lock is a byte
pub fits_byte : (before after : List ℕ) (effect : Option Effect) → length before ≤ 129
    → IsChangeOf before after effect → IfSome effect (λ e. e.word < 256)
fits_byte before after None few change = tt
fits_byte before after (Some e) few change = omega (arith, few, change.0)

-- a section is no operation on one word
pub own_of : (s : State) (t : ℕ) (m : Move) (section : SectionEffect) (size : ℕ)
    (first second : Option Touch)
    → effect_of s.kind s.bits s.words t (phase_at s.phases t) ≡ Some (Monitor section)
    → (first ≢ None → IsChange first) → IsOwn size (own_word s t m) first second
own_of s t (Call op) section size first second e h = h
own_of s t (Step step) section size first second e h = grind arith
