-- Bytes that go to an output one after another, some of which wait.
use Rattle.std.proofs.Common.{◌≡◌, ℕ, ◌+◌, List, [], ◌++◌, length, Option, Result, Ok, Err, OnErr}
use Rattle.std.proofs.Common.{refl, sym, ap, ◌∙◌, subst, arith, append_assoc, append-nil}
use Rattle.std.proofs.KnownBytes.{Appends-nil, Appends-trans}
use Rattle.std.proofs.Math.Seq.{take-append-add}
use Rattle.std.proofs.lemmas.List.{length-append, take-append-le}
use Rattle.std.specs.Io.KnownBytes.{Appends}
use Rattle.lk_replay.specs.declared.devices.RunFault.{RunFault}
use Rattle.lk_replay.specs.Devices.{AppendsPrefix, Passes}

-- no bytes go on
pub passes_none : (waited : List ℕ) (c : Option (List ℕ)) → Passes waited c [] waited c
passes_none waited c = ([], Appends-nil c, sym (append-nil waited))

-- the waiting bytes went out
pub passes_sent : (waited bytes : List ℕ) (old new : Option (List ℕ)) → bytes ≡ waited
    → Appends old new bytes → Passes waited old [] [] new
passes_sent waited bytes old new are appended = (bytes, appended, ap (λ (l : List ℕ). l ++ []) are)

-- if nothing waited, the bytes went out
pub passes_through : (bytes : List ℕ) (old new : Option (List ℕ)) → Appends old new bytes
    → Passes [] old bytes [] new
passes_through bytes old new appended = (bytes, appended, append-nil bytes)

-- one text, and then another
pub passes_on : (waited a between b waits : List ℕ) (old mid new : Option (List ℕ))
    → Passes waited old a between mid → Passes between mid b waits new
    → Passes waited old (a ++ b) waits new
passes_on waited a between b waits old mid new (sent, appended, first) (more, appends, next) = (
  sent ++ more,
  Appends-trans old mid new sent more appended appends,
  append_assoc sent more waits ∙ ap (λ l. sent ++ l) next ∙ sym (append_assoc sent between b)
      ∙ ap (λ l. l ++ b) first ∙ append_assoc waited a b,
)

-- what waited and a prefix of a text, if the text is the beginning of a longer one
pub prefix_of_more : (waited a b : List ℕ) (old new : Option (List ℕ))
    → AppendsPrefix old new (waited ++ a) → AppendsPrefix old new (waited ++ (a ++ b))
prefix_of_more waited a b old new (n, within, appended) =
    subst (AppendsPrefix old new) (append_assoc waited a b) (
      n,
      omega (arith, within, length-append (waited ++ a) b),
      rw (take-append-le n (waited ++ a) b within) appended,
    )

-- one text went on its way, and then a prefix of the rest went out
pub prefix_after : (waited a between b : List ℕ) (old mid new : Option (List ℕ))
    → Passes waited old a between mid → AppendsPrefix mid new (between ++ b)
    → AppendsPrefix old new (waited ++ (a ++ b))
prefix_after waited a between b old mid new (sent, appended, first) (n, within, appends) =
    let whole =
    sym (append_assoc sent between b) ∙ ap (λ l. l ++ b) first ∙ append_assoc waited a b in
    subst (AppendsPrefix old new) whole (
      length sent + n,
      omega (arith, within, length-append sent (between ++ b)),
      rw (take-append-add sent (between ++ b) n)
          (Appends-trans old mid new sent _ appended appends),
    )

-- ---- the same of what a call answers

pub told : {T : Type 0} (r : Result T RunFault) (P : Type 0) → P → OnErr r P
told (Ok _) P fact = tt
told (Err _) P fact = fact

pub at_error : {T : Type 0} (r : Result T RunFault) (fault : RunFault) (P : Type 0)
    → r ≡ Err fault → OnErr r P → P
at_error (Ok _) fault P is fact = absurd (cc)
at_error (Err _) fault P is fact = fact

-- ---- of a whole batch

-- a part of it went on its way, and then a prefix of what follows went out
pub prefix_of_whole : (whole done waits text rest : List ℕ) (old mid new : Option (List ℕ))
    → Passes [] old done waits mid
    → AppendsPrefix mid new (waits ++ text) → done ++ (text ++ rest) ≡ whole
    → AppendsPrefix old new whole
prefix_of_whole whole done waits text rest old mid new passed prefix parts =
    subst (AppendsPrefix old new) (append_assoc done text rest
    ∙ parts) (prefix_of_more [] (done ++ text) rest old new
    (prefix_after [] done waits text old mid new passed prefix))

-- some of it went, or waits, and the rest is left
pub record IsUnderWay (whole rest waits : List ℕ) (old new : Option (List ℕ)) : Type 0 where
  pub done : List ℕ
  pub passed : Passes [] old done waits new
  pub parts : done ++ rest ≡ whole

pub goes_on : (whole rest between text more waits : List ℕ) (old mid new : Option (List ℕ))
    → IsUnderWay whole rest between old mid → rest ≡ text ++ more
    → Passes between mid text waits new → IsUnderWay whole more waits old new
goes_on whole rest between text more waits old mid new way is passes = record {
  done = way.done ++ text;
  passed = passes_on [] way.done between text waits old mid new way.passed passes;
  parts = append_assoc way.done text more ∙ ap (λ l. way.done ++ l) (sym is) ∙ way.parts;
}

-- a prefix of what waited and the next text went out, or of what waited
pub cut_short : (whole rest waits text more : List ℕ) (old mid new : Option (List ℕ))
    → IsUnderWay whole rest waits old mid → rest ≡ text ++ more
    → AppendsPrefix mid new (waits ++ text) → AppendsPrefix old new whole
cut_short whole rest waits text more old mid new way is prefix =
    prefix_of_whole whole way.done waits text more old mid new way.passed prefix
    (ap (λ l. way.done ++ l) (sym is) ∙ way.parts)

pub cut_waiting : (whole rest waits : List ℕ) (old mid new : Option (List ℕ))
    → IsUnderWay whole rest waits old mid → AppendsPrefix mid new waits
    → AppendsPrefix old new whole
cut_waiting whole rest waits old mid new way prefix =
    cut_short whole rest waits [] rest old mid new way refl
    (subst (AppendsPrefix mid new) (sym (append-nil waits)) prefix)

-- nothing is left, and nothing waits
pub all_went : (whole rest : List ℕ) (old new : Option (List ℕ)) → IsUnderWay whole rest [] old new
    → rest ≡ [] → Appends old new whole
all_went whole rest old new way none =
    let (sent, appended, all) = way.passed in
    subst (Appends old new)
    (sym (append-nil sent) ∙ all ∙ sym (append-nil way.done)
    ∙ ap (λ l. way.done ++ l) (sym none) ∙ way.parts) appended
