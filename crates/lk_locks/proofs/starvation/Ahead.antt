-- The threads ahead of a thread in a queue.
use Rattle.std.proofs.Common.{◌≡◌, ◌≢◌, ℕ, List, [], ◌∷◌, ◌++◌, ◌||◌, Bool, true, false, eqb, drop}
use Rattle.std.proofs.Common.{if◌then◌else◌, arith, refl}
use Rattle.std.proofs.lemmas.Bool.{eqb-true}
use Rattle.std.proofs.lemmas.Bool.Decides.{nat_tests}
use Rattle.lk_locks.specs.{Sequential.has, Sequential.is_head, invariants.Threads.EachOnce}

-- thread u is in the queue before thread t
abbrev pub is_ahead : List ℕ → ℕ → ℕ → Bool
is_ahead [] t u = false
is_ahead (v ∷ queue) t u = if eqb t v then false else (eqb u v || is_ahead queue t u)

-- no thread is ahead of itself
pub ahead_self : (queue : List ℕ) (t : ℕ) → is_ahead queue t t ≡ false
ahead_self [] t = refl
ahead_self (v ∷ queue) t = grind (arith, nat_tests, ahead_self queue t)

-- a thread that is not in the queue is ahead of nobody
pub ahead_outside : (queue : List ℕ) (t u : ℕ) → has queue u ≡ false → is_ahead queue t u ≡ false
ahead_outside [] t u absent = refl
ahead_outside (v ∷ queue) t u absent = grind (arith, nat_tests, ahead_outside queue t u)

-- nobody gets ahead of a member by joining
pub ahead_joined : (queue : List ℕ) (t u v : ℕ) → has queue t ≡ true
    → is_ahead (queue ++ u ∷ []) t v ≡ is_ahead queue t v
ahead_joined [] t u v queued = cc
ahead_joined (w ∷ queue) t u v queued = grind (arith, nat_tests, ahead_joined queue t u v)

-- the head is ahead of each other thread
pub ahead_head : (queue : List ℕ) (t u : ℕ) → is_head queue u ≡ true → u ≢ t
    → is_ahead queue t u ≡ true
ahead_head [] t u head differs = cc
ahead_head (v ∷ queue) t u head differs = grind (arith, nat_tests)

-- once the head has left, it is ahead of nobody
pub ahead_left : (queue : List ℕ) (t u : ℕ) → EachOnce queue → is_head queue u ≡ true
    → is_ahead (drop 1 queue) t u ≡ false
ahead_left [] t u once head = refl
ahead_left (v ∷ queue) t u (alone, once) head =
    ahead_outside queue t u (rw (eqb-true u v head) alone)

-- the others are ahead as before
pub ahead_others : (queue : List ℕ) (t u v : ℕ) → is_head queue u ≡ true → u ≢ t → v ≢ u
    → is_ahead (drop 1 queue) t v ≡ is_ahead queue t v
ahead_others [] t u v head differs other = refl
ahead_others (w ∷ queue) t u v head differs other = grind (arith, nat_tests)
