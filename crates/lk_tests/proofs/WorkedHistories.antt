-- Histories that are written out: those that are legal, and what the others lack.
use Rattle.std.proofs.Common.{◌≡◌, ℕ, zero, suc, ◌<◌, List, [], ◌∷◌, ◌++◌, refl, ap, ◌∙◌, arith}
use Rattle.std.proofs.Common.{rules, inl, inr}
use Rattle.std.specs.List.{flat_map, AllByRecursion, Any}
use Rattle.lk_locks.specs.Legal.{Legal, subhistory, whole_call}
use Rattle.lk_locks.specs.Calls.{HasDone}
use Rattle.lk_locks.proofs.Places.{HasOne, any_of, one_of}
use Rattle.lk_tests.specs.WorkedHistories.{handover, writers_in_turn, announced_entered}
use Rattle.lk_tests.specs.WorkedHistories.{act_without_call}
use Rattle.lk_locks.specs.declared.kinds.LockKind.TheVariants.{Ticket, Mcs, RwSimple, RwFifo}
use Rattle.lk_locks.specs.declared.kinds.Op.{Op}
use Rattle.lk_locks.specs.declared.kinds.Op.TheVariants.{Acquire, Release, ReadLock, ReadUnlock}
use Rattle.lk_locks.specs.declared.kinds.Op.TheVariants.{WriteLock, Downgrade}
use Rattle.lk_locks.specs.declared.kinds.Entry.{Entry}
use Rattle.lk_locks.specs.declared.kinds.Entry.TheVariants.{Called, Acted}

-- a fact about thread 0 and about thread 1 holds of both threads
pub two_threads : (P : ℕ → Type 0) → P 0 → P 1 → (t : ℕ) → t < 2 → P t
two_threads P p q zero h = p
two_threads P p q (suc zero) h = q
two_threads P p q (suc (suc t)) h = absurd (omega arith)

-- a ticket lock that is handed on from one thread to the other has a legal history
pub ticket_legal : Legal Ticket 2 handover
ticket_legal = record {
  allowed = (tt, (refl, (refl, (tt, (refl, (tt, (refl, (tt, (refl, tt)))))))));
  well_formed = two_threads _ (Acquire ∷ Release ∷ [], [], refl) (Acquire ∷ [], [], refl);
  no_others = search rules;
}

-- so has an MCS lock
pub mcs_legal : Legal Mcs 2 handover
mcs_legal = record {
  allowed = (tt, (refl, (refl, (tt, (refl, (tt, (refl, (tt, (refl, tt)))))))));
  well_formed = two_threads _ (Acquire ∷ Release ∷ [], [], refl) (Acquire ∷ [], [], refl);
  no_others = search rules;
}

-- two writers that take turns are legal in the simple lock
pub simple_legal : Legal RwSimple 2 writers_in_turn
simple_legal = record {
  allowed = (
    tt,
    (
      refl,
      (
        tt,
        (
          tt,
          (
            refl,
            (
              tt,
              (tt, (refl, (tt, (tt, (refl, (tt, (tt, (refl, (tt, (tt, (refl, (tt, tt)))))))))))),
            ),
          ),
        ),
      ),
    ),
  );
  well_formed = two_threads _
      (WriteLock ∷ Downgrade ∷ ReadUnlock ∷ [], [], refl)
      (ReadLock ∷ ReadUnlock ∷ WriteLock ∷ [], [], refl);
  no_others = search rules;
}

-- an announced writer that enters after the readers is legal in the FIFO lock
pub fifo_legal : Legal RwFifo 2 announced_entered
fifo_legal = record {
  allowed = (tt, (refl, (tt, (tt, (refl, (tt, (refl, (tt, (refl, (tt, tt))))))))));
  well_formed = two_threads _ (ReadLock ∷ ReadUnlock ∷ [], [], refl) (WriteLock ∷ [], [], refl);
  no_others = search rules;
}

-- whole calls do not begin with an act
no_call : (ops : List Op) (rest : List Entry)
    → Acted 0 Acquire ∷ rest ≡ flat_map (whole_call Mcs 0) ops → ⊥
no_call [] rest e = cc
no_call (op ∷ ops) rest e = cc

-- an act without a call is not legal
pub not_legal : Legal Mcs 2 act_without_call → ⊥
not_legal l = let w = l.well_formed 0 (omega arith) in no_call w.0 w.1 w.2

-- a list of one entry has no fact that the entry does not meet
pub not_of_one : (P : Entry → Type 0) (x : Entry) → (P x → ⊥) → Any P (x ∷ []) → ⊥
not_of_one P x f a = elim (one_of P (x ∷ []) a) [ inl d ↦ f d | inr n ↦ n ]

-- a list of two entries has no fact that neither meets
pub not_of_two : (P : Entry → Type 0) (x y : Entry) → (P x → ⊥) → (P y → ⊥)
    → Any P (x ∷ y ∷ []) → ⊥
not_of_two P x y f g a = elim (one_of P (x ∷ y ∷ []) a) [
  | inl d ↦ f d
  | inr r ↦ not_of_one P y g (any_of P (y ∷ []) r)
]

-- a list has no fact that none of its entries meets
none_meets : (P : Entry → Type 0) (es : List Entry) → AllByRecursion (λ e. P e → ⊥) es
    → HasOne P es → ⊥
none_meets P [] none h = h
none_meets P (e ∷ es) (differs, none) (inl p) = differs p
none_meets P (e ∷ es) (differs, none) (inr h) = none_meets P es none h

pub not_in : (P : Entry → Type 0) (es : List Entry) → AllByRecursion (λ e. P e → ⊥) es
    → Any P es → ⊥
not_in P es none a = none_meets P es none (one_of P es a)

-- the call is in the list
abbrev IsCalled : ℕ → Op → List Entry → Type 0
IsCalled t op es = Any (λ x. x ≡ Called t op) es

-- a history in which a call was made has this call
called_in : (t : ℕ) (op : Op) (start middle : List Entry)
    → HasOne (λ x. x ≡ Called t op) (start ++ Called t op ∷ middle)
called_in t op [] middle = inl refl
called_in t op (x ∷ start) middle = inr (called_in t op start middle)

-- a thread has done since its only call what it did after it
since : (t : ℕ) (op : Op) (deeds rest start middle : List Entry) → (IsCalled t op rest → ⊥)
    → Called t op ∷ rest ≡ start ++ Called t op ∷ middle → subhistory t middle ≡ deeds
    → subhistory t rest ≡ deeds
since t op deeds rest [] middle n e s = let m : rest ≡ middle = cc in ap (subhistory t) m ∙ s
since t op deeds rest (x ∷ start) middle n e s =
    let m : rest ≡ start ++ Called t op ∷ middle = cc in
    absurd (n (rw m (any_of _ (start ++ Called t op ∷ middle) (called_in t op start middle))))

-- what a thread did since its only call
pub since_call : (t : ℕ) (op : Op) (deeds rest : List Entry) → (IsCalled t op rest → ⊥)
    → HasDone t op deeds (Called t op ∷ rest) → subhistory t rest ≡ deeds
since_call t op deeds rest n h = since t op deeds rest h.0 h.1 n h.2 h.3

-- the empty history has no call
none_in : (t : ℕ) (op : Op) (start middle : List Entry) → [] ≡ start ++ Called t op ∷ middle → ⊥
none_in t op [] middle e = cc
none_in t op (x ∷ start) middle e = cc

-- in the empty history nobody has done anything
pub nothing_done : (t : ℕ) (op : Op) (deeds : List Entry) → HasDone t op deeds [] → ⊥
nothing_done t op deeds h = none_in t op h.0 h.1 h.2
