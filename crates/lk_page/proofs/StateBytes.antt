-- The bytes of a state, one part after the other.
use Rattle.std.proofs.Common.{◌≡◌, ℕ, ◌-◌, ◌*◌, List, [], ◌∷◌, ◌++◌, length, replicate, Option}
use Rattle.std.proofs.Common.{refl, ◌∙◌}
use Rattle.std.proofs.lemmas.Grind.{flat_map-append}
use Rattle.std.specs.Int.{to_le_bytes, w32, w64}
use Rattle.std.specs.List.{flat_map}
use Rattle.lk_locks.specs.State.{State}
use Rattle.lk_locks.specs.Holding.{Holding}
use Rattle.lk_locks.specs.declared.kinds.Refusal.{Refusal}
use Rattle.lk_page.specs.Codes.{lock_code}
use Rattle.lk_page.specs.Layout.{with_zeros, holding_code, holder_list, stop_numbers}
use Rattle.lk_page.specs.Layout.{threads_bytes, bytes_of_state}

pub state_put : (moves count : ℕ) (refused : Option (ℕ × Refusal)) (s : State) (held : Holding)
    (queue : List ℕ) (stop holders waiting words o0 o1 o2 o3 o4 o5 o6 new : List ℕ)
    (kind threads bits code : ℕ)
    → stop ≡ stop_numbers refused → kind ≡ lock_code s.kind → threads ≡ length s.phases
    → bits ≡ s.bits → code ≡ holding_code held → holders ≡ holder_list held → waiting ≡ queue
    → words ≡ s.words
    → o0 ≡ [] → o1 ≡ o0 ++ flat_map (to_le_bytes w32) stop
    → o2 ≡ o1 ++ flat_map (to_le_bytes w32) (kind ∷ threads ∷ bits ∷ count ∷ moves ∷ length words
    ∷ code ∷ length holders ∷ length waiting ∷ 0 ∷ 0 ∷ 0 ∷ [])
    → o3 ≡ o2 ++ with_zeros 64 holders → o4 ≡ o3 ++ with_zeros 64 waiting
    → o5 ≡ o4 ++ threads_bytes s 0 64
    → o6 ≡ o5 ++ flat_map (to_le_bytes w64) words
    → new ≡ o6 ++ replicate (1088 - 8 * length words) 0
    → new ≡ bytes_of_state moves count refused s held queue
unfolding bytes_of_state
state_put moves count refused s held queue stop holders waiting words o0 o1 o2 o3 o4 o5 o6 new kind
    threads bits code a k t b c h q w e f g i j l m n =
    n ∙ rw (m, l, j, i, g, f, e, a, k, t, b, c, h, q, w, flat_map-append) refl
