-- Definitions. Each finished call acted exactly once, between its call and its return: laws of
-- every legal history.
use Rattle.std.specs.Prelude.{◌≡◌, ℕ, List, [], ◌∷◌, ◌++◌}
use Rattle.lk_locks.specs.Locks.{family_of}
use Rattle.lk_locks.specs.Change.{announcement}
use Rattle.lk_locks.specs.Legal.{subhistory}
use Rattle.lk_locks.specs.Types.{LockKind, Op, Entry, Acted, Returned}
use Rattle.lk_locks.specs.declared.kinds.Entry.TheVariants.{Called}

-- in these entries t called op, and its entries since then are `deeds`
abbrev pub HasDone : ℕ → Op → List Entry → List Entry → Type 0
HasDone t op deeds es =
    (start middle : List Entry) × (es ≡ start ++ Called t op ∷ middle)
    × (subhistory t middle ≡ deeds)

-- a call that returns was made before, and since then its thread did nothing but act once, after
-- the announcement of a FIFO writer
abbrev pub ActsOnce : LockKind → List Entry → Type 0
ActsOnce kind es =
    (t : ℕ) (op : Op) (before after : List Entry) → es ≡ before ++ Returned t op ∷ after
    → HasDone t op (announcement (family_of kind) t op ++ Acted t op ∷ []) before

-- the next of a thread's entries, if there is one, is the return
abbrev pub ReturnsNext : ℕ → Op → List Entry → Type 0
ReturnsNext t op [] = Unit {0}
ReturnsNext t op (e ∷ es) = e ≡ Returned t op

-- an act is in a call: its thread called, did nothing since then but announce itself, and
-- returns next
abbrev pub ActsInCalls : LockKind → List Entry → Type 0
ActsInCalls kind es =
    (t : ℕ) (op : Op) (before after : List Entry) → es ≡ before ++ Acted t op ∷ after
    → HasDone t op (announcement (family_of kind) t op) before
    × ReturnsNext t op (subhistory t after)
