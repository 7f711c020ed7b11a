-- The words and phases from which a changed lock takes a step stay those of the lock.
use Rattle.std.proofs.Common.{Bool, if◌then◌else◌, true, false, ◌-◌, ◌==◌}
use Rattle.std.proofs.Common.{◌≡◌, ℕ, ◌+◌, ◌*◌, ◌<◌, ◌≤◌, ◌^◌, List, [], arith, length, refl, set}
use Rattle.std.proofs.Common.{slice_index, inl, inr, ◌∙◌}
use Rattle.std.proofs.lemmas.Bool.Decides.{eqb_tells}
use Rattle.std.proofs.lemmas.List.{get_or-set_other, get_or-set_same, get_or_past, length-set}
use Rattle.std.proofs.lemmas.List.Elements.{All-set}
use Rattle.std.proofs.lemmas.Bool.{cases_lt}
use Rattle.std.proofs.lemmas.Nat.{pow_pos}
use Rattle.std.proofs.Math.Nat.{mod-lt}
use Rattle.std.specs.List.{All}
use Rattle.lk_locks.specs.Change.{Change, to}
use Rattle.lk_locks.specs.rw_fifo.{are_gone}
use Rattle.lk_locks.specs.Locks.{word_count, step_of}
use Rattle.lk_locks.specs.State.{Shape}
use Rattle.lk_locks.specs.invariants.Locks.{AreLinks, IsPhaseOf}
use Rattle.lk_locks.proofs.EachLock.{proof_of}
use Rattle.lk_locks.proofs.OneOperation.{step_words}
use Rattle.lk_locks.proofs.Words.{plus_one-lt}
use Rattle.lk_words.specs.declared.operation.Operation.TheVariants.{CompareAndSwap, Read, Swap}
use Rattle.lk_why.specs.Types.{AwaitReaders, AwaitTurn, CasTail, ClearNext, Entered, Grant}
use Rattle.lk_why.specs.Types.{AwaitGrant, AwaitLink, Entry, LeaveRead, Moved, ReadNext, Waits}
use Rattle.lk_why.specs.Types.{Writing}
use Rattle.lk_why.specs.Types.{LeaveWrite, LinkTo, LockKind, Mcs, Outcome, PassOn, Phase}
use Rattle.lk_why.specs.Types.{ReadServing, RwFifo, RwSimple, SetLocked, SwapTail, TakeTicket}
use Rattle.lk_why.specs.Types.{Ticket, TryDowngrade, TryRead, TryWrite}
use Rattle.lk_why.specs.invariants.Ready.{AreWords, IsLink, IsReady, IsValue, number_of}

-- the word that was set
set_there : (P : ℕ → Type 0) (ws : List ℕ) (w v : ℕ) → P v → P (slice_index ws w)
    → P (slice_index (set ws w v) w)
set_there P ws w v new old = elim (cases_lt w (length ws)) [
  | inl within ↦ rw (get_or-set_same ws w v 0 within) new
  | inr past ↦ rw (get_or_past (set ws w v) w 0 (omega (arith, past, length-set ws w v)))
      (rw (get_or_past ws w 0 past) at old)
]

-- a word of a list in which one was set is this value, or a word that was there
set_word : (P : ℕ → Type 0) (ws : List ℕ) (w v i : ℕ) → P v → P (slice_index ws i)
    → P (slice_index (set ws w v) i)
set_word P ws w v i new old = elim (eqb_tells i w) [
  | inl (_, same) ↦ rw same (set_there P ws w v new (rw same at old))
  | inr (_, other) ↦ rw (get_or-set_other ws w i v 0 other) old
]

-- a word of a list in which one is as it is in another list
word_back : (P : ℕ → Type 0) (ws old : List ℕ) (w i : ℕ) → P (slice_index ws i)
    → P (slice_index old i) → P (slice_index (set ws w (slice_index old w)) i)
word_back P ws old w i here there = elim (eqb_tells i w) [
  | inl (_, same) ↦
      rw same
      (set_there P ws w (slice_index old w) (rw same at there) (rw same at here))
  | inr (_, other) ↦ rw (get_or-set_other ws w i (slice_index old w) 0 other) here
]

-- a word may be set to any value that names a thread or none
pub links_set : (kind : LockKind) (n : ℕ) (ws : List ℕ) (w v : ℕ) → AreLinks kind n ws
    → IsLink kind n v → AreLinks kind n (set ws w v)
links_set Mcs n ws w v links link = (
  set_word (λ x. x ≤ n) ws w v 0 link links.0,
  λ i h. set_word (λ x. x ≤ n) ws w v (1 + 2 * i) link (links.1 i h),
)
links_set kind n ws w v links link = tt

-- a word may be as it is among other words of the lock
pub links_back : (kind : LockKind) (n : ℕ) (ws old : List ℕ) (w : ℕ) → AreLinks kind n ws
    → AreLinks kind n old → AreLinks kind n (set ws w (slice_index old w))
links_back Mcs n ws old w links olds = (
  word_back (λ x. x ≤ n) ws old w 0 links.0 olds.0,
  λ i h. word_back (λ x. x ≤ n) ws old w (1 + 2 * i) (links.1 i h) (olds.1 i h),
)
links_back kind n ws old w links olds = tt

pub words_set : (s : Shape) (ws : List ℕ) (w v : ℕ) → AreWords s ws → IsValue s v
    → AreWords s (set ws w v)
words_set s ws w v words value = record {
  few = words.few;
  narrow = words.narrow;
  size = length-set ws w v ∙ words.size;
  fit = All-set (λ x. x < 2 ^ s.bits) ws w v value.fits words.fit;
  links = links_set s.kind s.threads ws w v words.links value.link;
}

-- a word is below a bound of all words, which is not 0
pub all_at : (m : ℕ) (ws : List ℕ) (i : ℕ) → 0 < m → All (λ (w : ℕ). w < m) ws
    → slice_index ws i < m
all_at m ws i some fit = elim (cases_lt i (length ws)) [
  | inl within ↦ fit i 0 within
  | inr past ↦ rw (get_or_past ws i 0 past) some
]

pub words_back : (s : Shape) (ws old : List ℕ) (w : ℕ) → AreWords s ws → AreWords s old
    → AreWords s (set ws w (slice_index old w))
words_back s ws old w words olds = record {
  few = words.few;
  narrow = words.narrow;
  size = length-set ws w (slice_index old w) ∙ words.size;
  fit = All-set (λ x. x < 2 ^ s.bits) ws w (slice_index old w)
      (all_at (2 ^ s.bits) old w (pow_pos s.bits) olds.fit) words.fit;
  links = links_back s.kind s.threads ws old w words.links olds.links;
}

-- four threads need nine words at most
few_words : (kind : LockKind) (n : ℕ) → n ≤ 4 → word_count kind n ≤ 9
few_words Ticket n few = omega arith
few_words Mcs n few = omega (arith, few)
few_words RwSimple n few = omega arith
few_words RwFifo n few = omega arith

pub words_few : (s : Shape) (ws : List ℕ) → AreWords s ws → length ws ≤ 9
words_few s ws words = omega (arith, words.size, few_words s.kind s.threads words.few)

-- each word may be 0
zero_link : (kind : LockKind) (n : ℕ) → IsLink kind n 0
zero_link Mcs n = omega arith
zero_link kind n = tt

pub zero_value : (s : Shape) → IsValue s 0
zero_value s = record { fits = pow_pos s.bits; link = zero_link s.kind s.threads }

-- words after one of two changes
either : (P : List ℕ → Type 0) (b : Bool) (x y : Change) → P x.words → P y.words
    → P (if b then x else y).words
either P true x y left right = left
either P false x y left right = right

-- words of which the flag is set, whoever is inside, or that stay
flagged : (clear gone : Bool) (P : List ℕ → Type 0) (ws : List ℕ) (es fs : List Entry)
    → P (set ws 2 1) → P ws
    → P (if clear
    then (if gone
    then to (set ws 2 1) Writing Entered es
    else to (set ws 2 1) AwaitReaders Moved fs)
    else to ws TryWrite Waits []).words
flagged true true P ws es fs set_flag stay = set_flag
flagged true false P ws es fs set_flag stay = set_flag
flagged false gone P ws es fs set_flag stay = stay

-- a value that is 0, or was there
kept_or_0 : (m x : ℕ) (b : Bool) → 0 < m → x < m → (if b then 0 else x) < m
kept_or_0 m x true some small = some
kept_or_0 m x false some small = small

-- each step leaves words of the lock's width
fit_kept : (kind : LockKind) (bits n t : ℕ) (ws : List ℕ) (p : Phase) → t < n → n < 2 ^ bits
    → All (λ (w : ℕ). w < 2 ^ bits) ws
    → All (λ (w : ℕ). w < 2 ^ bits) (step_of kind bits ws t p).words
fit_kept Ticket bits n t ws TakeTicket h narrow fit =
    All-set (λ x. x < 2 ^ bits) ws 0 _ (plus_one-lt bits (slice_index ws 0)) fit
fit_kept Ticket bits n t ws (PassOn v) h narrow fit =
    All-set (λ x. x < 2 ^ bits) ws 1 _ (plus_one-lt bits v) fit
fit_kept Ticket bits n t ws (AwaitTurn k) h narrow fit =
    rw (step_words Ticket bits ws t (AwaitTurn k) (Read 1) refl) fit
fit_kept Ticket bits n t ws p h narrow fit = fit
fit_kept Mcs bits n t ws ClearNext h narrow fit =
    All-set (λ x. x < 2 ^ bits) ws _ 0 (pow_pos bits) fit
fit_kept Mcs bits n t ws SwapTail h narrow fit =
    rw (step_words Mcs bits ws t SwapTail (Swap 0 (t + 1)) refl)
    (All-set (λ x. x < 2 ^ bits) ws 0 (t + 1) (omega arith) fit)
fit_kept Mcs bits n t ws (SetLocked j) h narrow fit =
    All-set (λ x. x < 2 ^ bits) ws _ 1 (omega arith) fit
fit_kept Mcs bits n t ws (LinkTo j) h narrow fit =
    All-set (λ x. x < 2 ^ bits) ws _ (t + 1) (omega arith) fit
fit_kept Mcs bits n t ws CasTail h narrow fit =
    rw (step_words Mcs bits ws t CasTail (CompareAndSwap 0 (t + 1) 0) refl)
    (All-set (λ x. x < 2 ^ bits) ws 0 _
    (kept_or_0 (2 ^ bits) (slice_index ws 0) _ (pow_pos bits)
    (all_at (2 ^ bits) ws 0 (pow_pos bits) fit)) fit)
fit_kept Mcs bits n t ws (Grant j) h narrow fit =
    All-set (λ x. x < 2 ^ bits) ws _ 0 (pow_pos bits) fit
fit_kept Mcs bits n t ws AwaitGrant h narrow fit =
    rw (step_words Mcs bits ws t AwaitGrant (Read (2 + 2 * t)) refl) fit
fit_kept Mcs bits n t ws ReadNext h narrow fit =
    rw (step_words Mcs bits ws t ReadNext (Read (1 + 2 * t)) refl) fit
fit_kept Mcs bits n t ws AwaitLink h narrow fit =
    rw (step_words Mcs bits ws t AwaitLink (Read (1 + 2 * t)) refl) fit
fit_kept Mcs bits n t ws p h narrow fit = fit
fit_kept RwSimple bits n t ws TryRead h narrow fit =
    either (All (λ (w : ℕ). w < 2 ^ bits)) _ _ _
    (All-set (λ x. x < 2 ^ bits) ws 0 _ (plus_one-lt bits (slice_index ws 0)) fit) fit
fit_kept RwSimple bits n t ws LeaveRead h narrow fit =
    All-set (λ x. x < 2 ^ bits) ws 0 _ (mod-lt (slice_index ws 0 + (2 ^ bits - 1)) (pow_pos bits))
    fit
fit_kept RwSimple bits n t ws TryWrite h narrow fit =
    either (All (λ (w : ℕ). w < 2 ^ bits)) _ _ _
    (All-set (λ x. x < 2 ^ bits) ws 1 1 (omega arith) fit) fit
fit_kept RwSimple bits n t ws LeaveWrite h narrow fit =
    All-set (λ x. x < 2 ^ bits) ws 1 0 (pow_pos bits) fit
fit_kept RwSimple bits n t ws TryDowngrade h narrow fit =
    All-set (λ x. x < 2 ^ bits) _ 1 0 (pow_pos bits)
    (All-set (λ x. x < 2 ^ bits) ws 0 _ (plus_one-lt bits (slice_index ws 0)) fit)
fit_kept RwSimple bits n t ws p h narrow fit = fit
fit_kept RwFifo bits n t ws TryRead h narrow fit =
    either (All (λ (w : ℕ). w < 2 ^ bits)) _ _ _
    (All-set (λ x. x < 2 ^ bits) ws 0 _ (plus_one-lt bits (slice_index ws 0)) fit) fit
fit_kept RwFifo bits n t ws LeaveRead h narrow fit =
    All-set (λ x. x < 2 ^ bits) ws 1 _ (plus_one-lt bits (slice_index ws 1)) fit
fit_kept RwFifo bits n t ws TryWrite h narrow fit =
    flagged (slice_index ws 2 == 0) (are_gone ws) (All (λ (w : ℕ). w < 2 ^ bits)) ws _ _
    (All-set (λ x. x < 2 ^ bits) ws 2 1 (omega arith) fit) fit
fit_kept RwFifo bits n t ws AwaitReaders h narrow fit =
    either (All (λ (w : ℕ). w < 2 ^ bits)) _ _ _ fit fit
fit_kept RwFifo bits n t ws LeaveWrite h narrow fit =
    All-set (λ x. x < 2 ^ bits) ws 2 0 (pow_pos bits) fit
fit_kept RwFifo bits n t ws TryDowngrade h narrow fit =
    All-set (λ x. x < 2 ^ bits) _ 2 0 (pow_pos bits)
    (All-set (λ x. x < 2 ^ bits) ws 0 _ (plus_one-lt bits (slice_index ws 0)) fit)
fit_kept RwFifo bits n t ws p h narrow fit = fit

-- each step leaves words of the lock
pub words_kept : (s : Shape) (ws : List ℕ) (t : ℕ) (p : Phase) → AreWords s ws → t < s.threads
    → AreWords s (step_of s.kind s.bits ws t p).words
words_kept s ws t p words h = record {
  few = words.few;
  narrow = words.narrow;
  size = (proof_of s.kind).keeps_length s.bits t ws p ∙ words.size;
  fit = fit_kept s.kind s.bits s.threads t ws p h words.narrow words.fit;
  links = (proof_of s.kind).links_fit s.threads s.bits t ws p h words.links;
}

-- only phases of a ticket lock have numbers
pub no_number : (kind : LockKind) (n : ℕ) (p : Phase) → ¬ (kind ≡ Ticket) → IsPhaseOf kind n p
    → number_of p ≡ 0
no_number Ticket n p other fits = absurd (other refl)
no_number Mcs n p other fits = grind arith
no_number RwSimple n p other fits = grind arith
no_number RwFifo n p other fits = grind arith

-- the phase after one of two changes
served_or : (P : Phase → Type 0) (b : Bool) (x y : Change) → P x.phase → P y.phase
    → P (if b then x else y).phase
served_or P true x y left right = left
served_or P false x y left right = right

-- each step of a ticket lock leaves a phase whose number is a word
ticket_number : (bits t : ℕ) (ws : List ℕ) (p : Phase) → All (λ (w : ℕ). w < 2 ^ bits) ws
    → number_of p < 2 ^ bits → number_of (step_of Ticket bits ws t p).phase < 2 ^ bits
ticket_number bits t ws TakeTicket fit small = all_at (2 ^ bits) ws 0 (pow_pos bits) fit
ticket_number bits t ws (AwaitTurn k) fit small =
    served_or (λ p. number_of p < 2 ^ bits) (slice_index ws 1 == k) _ _ small small
ticket_number bits t ws (ReadServing k) fit small = all_at (2 ^ bits) ws 1 (pow_pos bits) fit
ticket_number bits t ws (PassOn k) fit small = pow_pos bits
ticket_number bits t ws p fit small = small

number_kept : (kind : LockKind) (n bits t : ℕ) (ws : List ℕ) (p : Phase)
    → All (λ (w : ℕ). w < 2 ^ bits) ws → number_of p < 2 ^ bits
    → IsPhaseOf kind n (step_of kind bits ws t p).phase
    → number_of (step_of kind bits ws t p).phase < 2 ^ bits
number_kept Ticket n bits t ws p fit small fits = ticket_number bits t ws p fit small
number_kept Mcs n bits t ws p fit small fits =
    rw (no_number Mcs n _ (λ same. cc) fits) (pow_pos bits)
number_kept RwSimple n bits t ws p fit small fits =
    rw (no_number RwSimple n _ (λ same. cc) fits) (pow_pos bits)
number_kept RwFifo n bits t ws p fit small fits =
    rw (no_number RwFifo n _ (λ same. cc) fits) (pow_pos bits)

-- each step leaves a phase of the lock
pub phase_kept : (s : Shape) (ws : List ℕ) (t : ℕ) (p : Phase) → AreWords s ws → IsReady s p
    → t < s.threads → IsReady s (step_of s.kind s.bits ws t p).phase
phase_kept s ws t p words ready h =
    let fits =
    (proof_of s.kind).step_fits s.threads s.bits t ws p h ready.fits words.links in
    record {
      fits = fits;
      number = number_kept s.kind s.threads s.bits t ws p words.fit ready.number fits;
    }
