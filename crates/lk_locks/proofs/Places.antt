-- An entry that meets P is in a list, by recursion: for proofs.
use Rattle.std.proofs.Common.{zero, suc, ◌<◌, List, [], ◌∷◌, length, refl, sym, arith, inl, inr}
use Rattle.std.proofs.Common.{◌⊎◌, subst}
use Rattle.std.specs.List.{Any}
use Rattle.lk_locks.specs.Types.{Entry}

abbrev pub HasOne : (Entry → Type 0) → List Entry → Type 0
HasOne P [] = ⊥
HasOne P (e ∷ es) = P e ⊎ HasOne P es

-- an entry with a place in the list is found by recursion
pub any_of : (P : Entry → Type 0) (es : List Entry) → HasOne P es → Any P es
any_of P [] h = absurd h
any_of P (e ∷ es) (inl p) = (0, e, omega arith, refl, p)
any_of P (e ∷ es) (inr h) =
    let a : Any P es = any_of P es h in
    let b : a.0 < length es = a.2 in
    (suc a.0, a.1, omega arith, a.3, a.4)

-- an entry that is found by recursion has a place in the list
pub one_of : (P : Entry → Type 0) (es : List Entry) → Any P es → HasOne P es
one_of P [] (k, x, l, e, p) = absurd (omega (arith, l))
one_of P (y ∷ es) (zero, x, l, e, p) = inl (subst P (sym e) p)
one_of P (y ∷ es) (suc k, x, l, e, p) =
    let m : suc k < length (y ∷ es) = l in inr (one_of P es (k, x, omega arith, e, p))
