-- Definitions. The order in which a queue lock is entered: a law of every legal history.
use Rattle.std.specs.Prelude.{◌≡◌, ℕ, List, [], ◌∷◌, ◌++◌}
use Rattle.lk_locks.specs.Types.{Acquire, Entry, Acted, Returned}

-- the threads in the order of their tickets or swaps
abbrev pub request_order : List Entry → List ℕ
request_order [] = []
request_order (Acted t Acquire ∷ es) = t ∷ request_order es
request_order (e ∷ es) = request_order es

-- the threads in the order in which they entered
abbrev pub entering_order : List Entry → List ℕ
entering_order [] = []
entering_order (Returned t Acquire ∷ es) = t ∷ entering_order es
entering_order (e ∷ es) = entering_order es

-- the threads that entered are, in order, a prefix of the threads that requested
abbrev pub IsInOrder : List Entry → Type 0
IsInOrder es = (rest : List ℕ) × (entering_order es ++ rest ≡ request_order es)
