-- Definitions. Texts that grow.
use Rattle.std.specs.Prelude.{◌≡◌, ◌++◌, ℕ, List, Option, String, IfSome, IsSomeAnd, string_bytes}

-- these bytes come after what there was, unless a request for memory was refused
abbrev pub Adds : List ℕ → Option (List ℕ) → Option (List ℕ) → Type 0
Adds said old new = IfSome new (λ text. IsSomeAnd old (λ before. text ≡ before ++ said))

-- the text before stays, unless a request for memory was refused
abbrev pub Grows : Option (List ℕ) → Option (List ℕ) → Type 0
Grows old new =
    IfSome new (λ text. IsSomeAnd old (λ before. (more : List ℕ) × (text ≡ before ++ more)))

-- the same of the text as a string
abbrev pub Lengthens : {A : Type 0} → String A → String A → Type 0
Lengthens old new = (more : List ℕ) × (string_bytes new ≡ string_bytes old ++ more)
