-- The logs of a run that were taken, and what is wrong with a log beside them.
use Rattle.std.proofs.Common.{◌≡◌, ◌⊎◌, ◌<◌, ◌∷◌, ◌∙◌, ℕ, zero, suc, List, [], length}
use Rattle.std.proofs.Common.{Option, None, Some, IsSome, IsSomeAnd, IfSome, false, true, ap}
use Rattle.std.proofs.Common.{sym, subst, refl, inl, inr, arith, flat_map, get_or, option_to_list}
use Rattle.std.proofs.Common.{slice_get, MatchResult, Ok, Result, replicate, set}
use Rattle.std.proofs.lemmas.Option.{none-some, same_Some, slice_get_past}
use Rattle.std.proofs.lemmas.Result.{MatchResult-at_ok}
use Rattle.lk_order.specs.Logs.{ThreadLog}
use Rattle.lk_order.specs.Runs.{IsOneRun, IsRunOf}
use Rattle.lk_order.specs.Shelves.{HaveLogs, IsTaken, Shelved, empty_shelf}
use Rattle.lk_order.specs.Shelves.{logs_of, threads_of}
use Rattle.lk_locks.specs.State.{Shape}
use Rattle.lk_jobs.specs.Orders.{IsBad, IsInFile, OfOtherLocks}
use Rattle.lk_jobs.specs.declared.order.search.BadLog.{BadLog}
use Rattle.lk_jobs.specs.declared.order.search.BadLog.TheVariants as bad
use Rattle.lk_jobs.specs.invariants.{IsBadBeside, IsKept, IsOfLog, IsOwn, Stands}

none_there : {X : Type 0} (n t : ℕ) (x : X) → get_or (replicate n None) t None ≡ Some x → ⊥
none_there zero t x at = none-some x at
none_there (suc n) zero x at = none-some x at
none_there (suc n) (suc t) x at = none_there n t x at

-- no log was taken
pub kept_none : {F : Type 0} (of_file : F → Option (List ℕ)) (shelf : Shelved)
    → shelf ≡ empty_shelf → IsKept of_file shelf
kept_none of_file shelf is =
    subst (IsKept of_file) (sym is)
    (record { lock = tt; each = λ t log at. absurd (none_there 64 t log at) })

-- an element is the one that was set, or as before
set_either : {X : Type 0} (xs : List X) (i j : ℕ) (a d : X)
    → ((j ≡ i) × (get_or (set xs i a) j d ≡ a)) ⊎ (get_or (set xs i a) j d ≡ get_or xs j d)
set_either [] i j a d = inr refl
set_either (x ∷ xs) zero zero a d = inl (refl, refl)
set_either (x ∷ xs) zero (suc j) a d = inr refl
set_either (x ∷ xs) (suc i) zero a d = inr refl
set_either (x ∷ xs) (suc i) (suc j) a d = elim (set_either xs i j a d) [
  | inl is ↦ inl (ap suc is.0, is.1)
  | inr is ↦ inr is
]

same_lock : (lock : Option Shape) (one other : Shape) → lock ≡ Some other
    → IfSome lock (λ l. l ≡ one) → Some one ≡ Some other
same_lock lock one other is same =
    ap Some (sym (subst (λ (o : Option Shape). IfSome o (λ l. l ≡ one)) is same))

-- a log more, or none
pub kept_after : {F : Type 0} (of_file : F → Option (List ℕ)) (old new : Shelved) (log : ThreadLog)
    → IsKept of_file old → IsOwn log → IsInFile of_file log
    → (new ≡ old) ⊎ IsTaken old new log → IsKept of_file new
kept_after of_file old new log kept own here (inl same) =
    subst (IsKept of_file) (sym same) kept
kept_after of_file old new log kept own here (inr taken) =
    subst (IsKept of_file) (sym taken.new_is) (record {
      lock = record { log = log; log_is = here; header_is = refl; some = omega (arith, own.few) };
      each = λ t other at.
          elim (set_either old.places log.thread t (Some log) None) [
            | inl is ↦
                let same : other ≡ log = same_Some other log (sym at ∙ is.1) in
                subst (Stands (Some log.header) t) (sym same)
                (record { lock_is = refl; thread_is = sym is.0; is_own = own })
            | inr is ↦
                let stands : Stands old.lock t other = kept.each t other (sym is ∙ at) in
                record {
                  lock_is = same_lock old.lock log.header other.header stands.lock_is taken.lock;
                  thread_is = stands.thread_is;
                  is_own = stands.is_own;
                }
          ];
    })

other_lock : {F : Type 0} (of_file : F → Option (List ℕ)) (lock : Option Shape) (log : ThreadLog)
    → IfSome lock (IsOfLog of_file) → IsInFile of_file log
    → IsSomeAnd lock (λ l. l ≡ log.header → ⊥) → OfOtherLocks of_file
other_lock of_file None log is here others = absurd others
other_lock of_file (Some lock) log is here others = record {
  first = is.log;
  second = log;
  first_is = is.log_is;
  second_is = here;
  others = λ same. others (sym is.header_is ∙ same);
}

-- a log that is not one of the run
pub bad_beside : {F : Type 0} (of_file : F → Option (List ℕ)) (shelf : Shelved) (log : ThreadLog)
    (b : BadLog) → IsKept of_file shelf → IsInFile of_file log → IsBadBeside shelf log b
    → IsBad of_file b
bad_beside of_file shelf log bad.Unread kept here is = tt
bad_beside of_file shelf log (bad.Fault fault) kept here is = absurd is
bad_beside of_file shelf log bad.OtherLock kept here is =
    other_lock of_file shelf.lock log kept.lock here is
bad_beside of_file shelf log (bad.OtherRun t) kept here is = (log, here, is)
bad_beside of_file shelf log (bad.SecondLog t) kept here is = (log, here, is)
bad_beside of_file shelf log (bad.Missing t) kept here is = absurd is

some_is : {X : Type 0} (o : Option X) → IsSome o → (x : X) × (o ≡ Some x)
some_is None is = absurd (let no : false ≡ true = is in cc)
some_is (Some x) is = (x, refl)

-- the list of the elements that there are, if these are the first n
as_some : {X : Type 0} (x : X) (ys : List X) (xs : List (Option X))
    → ((t : ℕ) → slice_get ys t ≡ get_or xs t None)
    → (t : ℕ) → slice_get (x ∷ ys) t ≡ get_or (Some x ∷ xs) t None
as_some x ys xs are zero = refl
as_some x ys xs are (suc t) = are t

as_none : {X : Type 0} (ys : List X) (xs : List (Option X)) → length ys ≡ 0
    → ((t : ℕ) → slice_get ys t ≡ get_or xs t None)
    → (t : ℕ) → slice_get ys t ≡ get_or (None ∷ xs) t None
as_none ys xs none are zero = slice_get_past ys 0 (omega (arith, none))
as_none ys xs none are (suc t) =
    slice_get_past ys (suc t) (omega (arith, none))
    ∙ sym (slice_get_past ys t (omega (arith, none))) ∙ are t

pub first_some : {X : Type 0} (xs : List (Option X)) (n : ℕ)
    → ((t : ℕ) → t < n → IsSome (get_or xs t None))
    → ((t : ℕ) (x : X) → get_or xs t None ≡ Some x → t < n)
    → (length (flat_map option_to_list xs) ≡ n)
    × ((t : ℕ) → slice_get (flat_map option_to_list xs) t ≡ get_or xs t None)
first_some [] zero has few = (refl, λ t. refl)
first_some [] (suc n) has few =
    absurd (let no : false ≡ true = has 0 (omega arith) in cc)
first_some (None ∷ xs) zero has few =
    let rest = first_some xs zero (λ t h. absurd (omega (arith, h)))
    (λ t x at. omega (arith, few (suc t) x at)) in
    (rest.0, as_none (flat_map option_to_list xs) xs rest.0 rest.1)
first_some (None ∷ xs) (suc n) has few =
    absurd (let no : false ≡ true = has 0 (omega arith) in cc)
first_some (Some x ∷ xs) zero has few = absurd (omega (arith, few 0 x refl))
first_some (Some x ∷ xs) (suc n) has few =
    let rest = first_some xs n (λ t h. has (suc t) (omega (arith, h)))
    (λ t y at. omega (arith, few (suc t) y at)) in
    (omega (arith, rest.0), as_some x (flat_map option_to_list xs) xs rest.1)

run_of : (places : List (Option ThreadLog)) (lock : Option Shape)
    → ((t : ℕ) (log : ThreadLog) → get_or places t None ≡ Some log → Stands lock t log)
    → IfSome lock (λ l. 0 < l.threads)
    → ((t : ℕ) → t < threads_of lock → IsSome (get_or places t None))
    → IsOneRun (flat_map option_to_list places)
run_of places None each some has =
    let here = some_is (get_or places 0 None) (has 0 (omega arith)) in
    absurd (none-some _ (each 0 here.0 here.1).lock_is)
run_of places (Some lock) each some has =
    let here = some_is (get_or places 0 None) (has 0 some) in
    let stands = each 0 here.0 here.1 in
    let are = first_some places lock.threads has (λ t log at.
    let s : Stands (Some lock) t log = each t log at in
    omega (
      arith,
      s.is_own.few,
      s.thread_is,
      ap (λ (h : Shape). h.threads) (same_Some lock log.header s.lock_is),
    )) in
    let logs : List ThreadLog = flat_map option_to_list places in
    subst (λ (o : Option ThreadLog). IsSomeAnd o (λ first. IsRunOf first.header logs))
    (sym (are.1 0 ∙ here.1)) (record {
      one_each =
          are.0
          ∙ ap (λ (h : Shape). h.threads) (same_Some lock here.0.header stands.lock_is);
      each = λ t log at.
          let s : Stands (Some lock) t log = each t log (sym (are.1 t) ∙ at) in
          record {
            header_is =
                sym (same_Some lock log.header s.lock_is)
                ∙ same_Some lock here.0.header stands.lock_is;
            thread_is = s.thread_is;
            own = λ k d h. s.is_own.own k d h ∙ s.thread_is;
          };
    })

some_threads : {F : Type 0} (of_file : F → Option (List ℕ)) (lock : Option Shape)
    → IfSome lock (IsOfLog of_file) → IfSome lock (λ l. 0 < l.threads)
some_threads of_file None is = tt
some_threads of_file (Some lock) is = is.some

-- the logs of a shelf on which none is missing
pub one_run : {F : Type 0} (of_file : F → Option (List ℕ)) (shelf : Shelved)
    → IsKept of_file shelf → HaveLogs shelf (threads_of shelf.lock) → IsOneRun (logs_of shelf)
one_run of_file shelf kept has =
    run_of shelf.places shelf.lock kept.each (some_threads of_file shelf.lock kept.lock) has

-- those that were all taken
pub run_taken : {F A : Type 0} (of_file : F → Option (List ℕ)) (r : Result A BadLog) (taken : A)
    (shelf_of : A → Shelved) (logs : List ThreadLog)
    → MatchResult r (λ t. IsKept of_file (shelf_of t)
    × HaveLogs (shelf_of t) (threads_of (shelf_of t).lock)) (IsBad of_file)
    → r ≡ Ok taken → logs ≡ logs_of (shelf_of taken) → IsOneRun logs
run_taken {F} {A} of_file r taken shelf_of logs known is same =
    let all = MatchResult-at_ok
    (λ (t : A). IsKept of_file (shelf_of t)
    × HaveLogs (shelf_of t) (threads_of (shelf_of t).lock)) (IsBad of_file) taken is known in
    subst IsOneRun (sym same) (one_run of_file (shelf_of taken) all.0 all.1)
