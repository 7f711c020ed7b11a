-- A line has no difference exactly if it agrees part by part.
use Rattle.std.proofs.Common.{List, option_map, replicate, arith, ◌<◌}
use Rattle.std.proofs.Common.{◌≡◌, ℕ, ◌==◌, Option, Some, None, Bool, true, false, IfSome}
use Rattle.std.proofs.Common.{if◌then◌else◌, refl, sym, ap, length, not, ◌∙◌, ◌↔◌}
use Rattle.std.specs.Cmp.{booleans_Decides}
use Rattle.std.specs.Bool.{Decides}
use Rattle.std.proofs.lemmas.Bool.Decides.{Decides-eqb, Decides-ltb}
use Rattle.std.specs.Option.{option_or}
use Rattle.std.proofs.lemmas.List.{get_or-replicate, length-replicate}
use Rattle.lk_words.specs.Operations.{effect_on}
use Rattle.lk_words.specs.declared.operation.Operation.{Operation}
use Rattle.lk_locks.proofs.Machines.{well_new}
use Rattle.lk_locks.proofs.Moves.{accepted_of, well_kept}
use Rattle.lk_locks.proofs.OneOperation.{operation_within}
use Rattle.lk_locks.specs.Locks.{operation_of, word_count}
use Rattle.lk_locks.specs.State.{Shape, State, phase_at}
use Rattle.lk_locks.specs.Steps.{refusal_of}
use Rattle.lk_locks.specs.invariants.WellFormed.{WellFormed}
use Rattle.lk_locks.specs.declared.kinds.LockKind.{LockKind}
use Rattle.lk_locks.specs.declared.kinds.Move.TheVariants.{Call, Step}
use Rattle.lk_locks.specs.declared.kinds.Refusal.{Refusal}
use Rattle.lk_trace.specs.Agreement.{Agrees, AgreesOn, AgreesOnWord, IsCounted, count_in}
use Rattle.lk_trace.specs.Checks.{Checked, lock_with, count_given, difference_of, effect_of}
use Rattle.lk_trace.specs.Checks.{effect_other, is_word, name_of, new_lock, other_word}
use Rattle.lk_trace.specs.Checks.{part_other}
use Rattle.lk_trace.specs.Checks.{seen_other, values_other}
use denote.Enum.Bare.{same_true, true_same}
use Rattle.lk_locks.specs.contracts.kinds.Outcome.{the_type}
use Rattle.lk_trace.specs.declared.line.Seen.{Seen}
use Rattle.lk_trace.specs.declared.line.Seen.TheVariants.{WithOutcome, Nothing, OnWord}
use Rattle.lk_trace.specs.declared.line.TraceLine.{TraceLine}
use Rattle.std.proofs.lemmas.Bool.{eqb-true, eq-eqb, cond-true}
use Rattle.lk_locks.specs.declared.kinds.Move.{Move}
use Rattle.lk_trace.specs.Names.{name_at, same_word}
use Rattle.lk_trace.proofs.Naming.{has_values}
use Rattle.lk_words.specs.declared.operation.Effect.{Effect}
use Rattle.lk_trace.specs.declared.names.WordName.{WordName}
use Rattle.lk_trace.specs.declared.names.WordName.TheVariants.{Next, Locked}
use Rattle.lk_trace.specs.declared.difference.Difference.{Difference}
use Rattle.lk_trace.specs.declared.difference.Difference.TheVariants.{Refused}

-- of two checks, one after the other, neither finds a difference
both_agree : {P Q : Type 0} (a b : Option Difference) → (a ≡ None ↔ P) → (P → (b ≡ None ↔ Q))
    → (option_or a b ≡ None ↔ P × Q)
both_agree None b first second =
    let p = first.0 refl in (λ none. (p, (second p).0 none), λ both. (second both.0).1 both.1)
both_agree (Some d) b first second = (λ none. cc, λ both. first.1 both.0)

holds : (test : Bool) (d : Difference) → (if test then None else Some d) ≡ None → test ≡ true
holds true d none = refl
holds false d none = cc

-- a part that is given agrees exactly if no difference is found
part_agrees : {A : Type 0} (agrees : A → Bool) (other : A → Difference) (P : A → Type 0)
    (given : Option A) → ((v : A) → Decides (agrees v) (P v))
    → (part_other agrees other given ≡ None ↔ IfSome given P)
part_agrees agrees other P None decides = (λ none. tt, λ is. refl)
part_agrees agrees other P (Some v) decides = (
  λ none. (decides v).0 (holds (agrees v) _ none),
  λ is. cond-true (agrees v) _ _ ((decides v).1 is),
)

-- names
same_name : (a b : WordName) → same_word a b ≡ true → a ≡ b
same_name (Next i) (Next j) same = ap Next (eqb-true i j same)
same_name (Locked i) (Locked j) same = ap Locked (eqb-true i j same)
same_name a b same = grind (arith)

its_name : (a : WordName) → same_word a a ≡ true
its_name (Next i) = eq-eqb i i refl
its_name (Locked i) = eq-eqb i i refl
its_name a = refl

named : (word : Option WordName) (given : WordName) → is_word word given ≡ true → word ≡ Some given
named None given is = cc
named (Some word) given is = ap Some (same_name word given is)

name_agrees : (word : Option WordName) (given : WordName)
    → (other_word word given ≡ None ↔ word ≡ Some given)
name_agrees word given = (
  λ none. named word given (holds (is_word word given) _ none),
  λ is. ap (λ w. other_word w given) is
      ∙ cond-true (same_word given given) _ _ (its_name given),
)

-- what the line saw of a word that has these values, which its effect says
values_agree : (word : WordName) (v w x y : ℕ) (found left : Option ℕ) (wrote : Option Bool)
    → v ≡ x → w ≡ y
    → (values_other word x y found left wrote ≡ None
    ↔ IfSome found (λ n. v ≡ n) × (IfSome left (λ n. w ≡ n)
    × IfSome wrote (λ b. not (v == w) ≡ b)))
values_agree word v w x y found left wrote before after =
    rw (← before, ← after)
    (both_agree _ _ (part_agrees _ _ _ found (Decides-eqb v))
    (λ _. both_agree _ _ (part_agrees _ _ _ left (Decides-eqb w))
    (λ _. part_agrees _ _ _ wrote (booleans_Decides (not (v == w))))))

word_agrees : (s : State) (t : ℕ) (m : Move) (word : WordName) (found left : Option ℕ)
    (wrote : Option Bool) (effect : Option Effect) → effect_of s t m ≡ effect
    → IfSome effect (λ e. e.word < length s.words)
    → (effect_other s.kind effect word found left wrote ≡ None
    ↔ AgreesOnWord s t m word found left wrote)
word_agrees s t m word found left wrote None is within = (
  λ none. cc,
  λ agrees. let named : name_of s.kind None ≡ Some word =
      ap (name_of s.kind) (sym is) ∙ agrees.on_word in cc,
)
word_agrees s t m word found left wrote (Some e) is within =
    let both = both_agree _ _ (name_agrees (name_at s.kind e.word) word)
    (λ named. let stood = has_values s t m word e is within named in
    values_agree word _ _ _ _ found left wrote stood.found stood.left) in (
      λ none.
          let parts = both.0 none in
          record {
            on_word = ap (name_of s.kind) is ∙ parts.0;
            found_is = parts.1.0;
            left_is = parts.1.1.0;
            wrote_is = parts.1.1.1;
          },
      λ agrees.
          let named = ap (name_of s.kind) (sym is) ∙ agrees.on_word in
          both.1 (named, (agrees.found_is, (agrees.left_is, agrees.wrote_is))),
    )

of_operation : (s : State) (t : ℕ) (o : Option Operation) → WellFormed s → t < length s.phases
    → operation_of s.kind s.bits t (phase_at s.phases t) ≡ o
    → IfSome (option_map (effect_on s.bits s.words) o) (λ e. e.word < length s.words)
of_operation s t None w h e = tt
of_operation s t (Some o) w h e = operation_within s t o w h e

-- the word of a move is one of the lock's
abbrev IsWithin : State → ℕ → Move → Type 0
IsWithin s t m = IfSome (effect_of s t m) (λ e. e.word < length s.words)

effect_within : (s : State) (t : ℕ) (m : Move) → WellFormed s → t < length s.phases
    → IsWithin s t m
effect_within s t (Call op) w h = tt
effect_within s t (Step k) w h = of_operation s t _ w h refl

seen_agrees : (c : Checked) (t : ℕ) (m : Move) (seen : Seen) → IsWithin c.lock.state t m
    → (seen_other c t m seen ≡ None ↔ AgreesOn c t m seen)
seen_agrees c t m Nothing within = (λ none. tt, λ agrees. refl)
seen_agrees c t m (OnWord word found left wrote) within =
    word_agrees c.lock.state t m word found left wrote (effect_of c.lock.state t m) refl within
seen_agrees c t m (WithOutcome count outcome) within =
    let both = both_agree _ _ (part_agrees _ _ _ count (Decides-ltb c.sections))
    (λ _. part_agrees _ _ _ outcome
    (λ o. (same_true the_type tt _ o, true_same the_type _ o))) in (
      λ none. record { count_is = (both.0 none).0; outcome_is = (both.0 none).1 },
      λ agrees. both.1 (agrees.count_is, agrees.outcome_is),
    )

-- a line, on a lock that is well formed
line_agrees : (c : Checked) (l : TraceLine) (r : Option Refusal)
    → refusal_of c.lock.state l.thread l.action ≡ r
    → (r ≡ None → IsWithin c.lock.state l.thread l.action)
    → (option_or (option_map Refused r) (seen_other c l.thread l.action l.seen) ≡ None
    ↔ Agrees c l)
line_agrees c l None is within =
    let seen = seen_agrees c l.thread l.action l.seen (within refl) in (
      λ none. record { accepted = is; seen = seen.0 none },
      λ agrees. seen.1 agrees.seen,
    )
line_agrees c l (Some refusal) is within =
    (λ none. cc, λ agrees. let no = sym is ∙ agrees.accepted in cc)

pub agreeing : (c : Checked) (l : TraceLine)
    → (refusal_of c.lock.state l.thread l.action ≡ None → IsWithin c.lock.state l.thread l.action)
    → (difference_of c l ≡ None ↔ Agrees c l)
agreeing c l = line_agrees c l (refusal_of c.lock.state l.thread l.action) refl

well_agreeing : (c : Checked) (l : TraceLine) → WellFormed c.lock.state
    → (difference_of c l ≡ None ↔ Agrees c l)
well_agreeing c l w =
    agreeing c l (λ accepted. effect_within c.lock.state l.thread l.action w
    (accepted_of c.lock.state l.thread l.action accepted).thread)

pub agrees : (c : Checked) (l : TraceLine) → WellFormed c.lock.state → difference_of c l ≡ None
    → Agrees c l
agrees c l w = (well_agreeing c l w).0

pub agreed : (c : Checked) (l : TraceLine) → WellFormed c.lock.state → Agrees c l
    → difference_of c l ≡ None
agreed c l w = (well_agreeing c l w).1

-- a new lock is well formed, and stays so
pub new_is_well : (shape : Shape) → WellFormed (new_lock shape).lock.state
new_is_well shape =
    let count = word_count shape.kind shape.threads in
    let ws : List ℕ = replicate count 0 in
    let long : length ws ≡ count = length-replicate {A = ℕ} count 0 in
    well_new shape.kind shape.bits shape.threads ws (omega (arith, long))
    (λ i h. get_or-replicate count i 0 0 (omega (arith, long, h)))

pub stays_well : (c : Checked) (l : TraceLine) → WellFormed c.lock.state
    → refusal_of c.lock.state l.thread l.action ≡ None → WellFormed (lock_with c l).lock.state
stays_well c l w accepted =
    well_kept c.lock.state l.thread l.action w (accepted_of c.lock.state l.thread l.action accepted)

-- a count that a line gives is the last one afterwards
pub counted : (last : ℕ) (seen : Seen) → IsCounted last (count_in seen) (count_given last seen)
counted last (WithOutcome (Some n) outcome) = record { given_is = refl; stays = λ e. cc }
counted last seen = record { given_is = tt; stays = λ _. refl }
