-- Finishing moves, one after another.
use Rattle.std.proofs.Common.{◌≡◌, ◌≢◌, ◌∙◌, ℕ, ◌+◌, ◌*◌, ◌<◌, ◌≤◌, ◌↔◌, List, [], ◌∷◌, ◌++◌}
use Rattle.std.proofs.Common.{length, map, drop, set, Option, None, Some, Bool, true, false}
use Rattle.std.proofs.Common.{is_none, is_some, ap, arith, refl, suc, sym, subst, zero}
use Rattle.std.specs.Int.{from_bool}
use Rattle.std.specs.Option.{option_map_or}
use Rattle.std.proofs.Math.Seq.{set-append_seam}
use Rattle.std.proofs.lemmas.List.{append_assoc, drop_more, length-append, length-map}
use Rattle.std.proofs.lemmas.List.{length-replicate, map-append}
use Rattle.lk_locks.specs.Play.{Tracked, tracker_after, tracker_of}
use Rattle.lk_locks.specs.Progress.{AreFinishing, IsAtRest, IsFinishing, most_moves, state_after}
use Rattle.lk_locks.specs.State.{Shape, State, start_of}
use Rattle.lk_locks.specs.Steps.{after_move, refusal_of}
use Rattle.lk_locks.specs.invariants.Kept.{IsRecorded}
use Rattle.lk_locks.specs.declared.kinds.Move.{Move}
use Rattle.lk_locks.specs.declared.kinds.Phase.TheVariants.{Idle}
use Rattle.lk_locks.specs.declared.kinds.Refusal.{Refusal}
use Rattle.lk_locks.proofs.progress.Resting.{comes_to_rest, history_after}
use Rattle.lk_replay.specs.declared.schedule.Line.{Line}
use Rattle.lk_page.specs.Finishing.{AreMade, IsFinished, code_of}
use Rattle.lk_page.specs.Playing.{HasHistory, HavePlayed, moment}
use Rattle.lk_page.specs.Told.{Moment, after_line, after_lines}

-- ---- one move more

finishing_more : (s : State) (ms : List (ℕ × Move)) (m : ℕ × Move) → AreFinishing s ms
    → IsFinishing (state_after s ms) m.0 m.1 → AreFinishing s (ms ++ m ∷ [])
finishing_more s [] m all one = (one, tt)
finishing_more s (x ∷ ms) m all one =
    (all.0, finishing_more (after_move s x.0 x.1) ms m all.1 one)

state_more : (s : State) (ms : List (ℕ × Move)) (m : ℕ × Move)
    → state_after s (ms ++ m ∷ []) ≡ after_move (state_after s ms) m.0 m.1
state_more s [] m = refl
state_more s (x ∷ ms) m = state_more (after_move s x.0 x.1) ms m

-- the next place is written
code_at : (xs old rest : List ℕ) (y count code : ℕ) → count ≡ length xs → old ≡ y ∷ rest
    → set (xs ++ old) count code ≡ xs ++ code ∷ [] ++ rest
code_at xs old rest y count code size is =
    ap (λ ys. set (xs ++ ys) count code) is ∙ ap (λ n. set (xs ++ y ∷ rest) n code) size
    ∙ set-append_seam xs y rest code ∙ sym (append_assoc xs (code ∷ []) rest)

codes_more : (xs old : List ℕ) (count code : ℕ) → count ≡ length xs → count < length old
    → set (xs ++ drop count old) count code ≡ xs ++ code ∷ [] ++ drop (count + 1) old
codes_more xs old count code size within =
    code_at xs (drop count old) (drop (count + 1) old) _ count code size
    (drop_more old count 0 within)

pub none_made : (s : State) (codes : List ℕ) → AreMade s s 0 codes codes
none_made s codes = record {
  moves = [];
  finishing = tt;
  leads = refl;
  count_is = refl;
  codes_are = refl;
}

pub one_made : (s now next : State) (count : ℕ) (old codes new : List ℕ) (t : ℕ) (m : Move)
    (code : ℕ)
    → AreMade s now count old codes → count < length old → IsFinishing now t m
    → next ≡ after_move now t m → code ≡ code_of (t, m) → new ≡ set codes count code
    → AreMade s next (count + 1) old new
one_made s now next count old codes new t m code made within finishing on is written = record {
  moves = made.moves ++ (t, m) ∷ [];
  finishing = finishing_more s made.moves (t, m) made.finishing
      (subst (λ (x : State). IsFinishing x t m) (sym made.leads) finishing);
  leads = state_more s made.moves (t, m)
      ∙ ap (λ (x : State). after_move x t m) made.leads ∙ sym on;
  count_is = ap (λ n. n + 1) made.count_is ∙ sym (length-append made.moves ((t, m) ∷ []));
  codes_are = written ∙ ap (λ xs. set xs count code) made.codes_are
      ∙ codes_more (map code_of made.moves) old count code
      (made.count_is ∙ sym (length-map made.moves code_of)) within
      ∙ ap (λ x. map code_of made.moves ++ x ∷ [] ++ drop (count + 1) old) is
      ∙ ap (λ xs. xs ++ drop (count + 1) old) (sym (map-append code_of made.moves ((t, m) ∷ [])));
}

-- a tracker goes on as its state does
on_by : (k : Tracked) (t : ℕ) (m : Move) (accepted : Bool)
    → is_none (refusal_of k.state t m) ≡ accepted
    → (tracker_after k t m).state ≡ after_move k.state t m
on_by k t m true is = rw is refl
on_by k t m false is = rw is refl

pub tracker_on : (k next : Tracked) (t : ℕ) (m : Move) → next ≡ tracker_after k t m
    → next.state ≡ after_move k.state t m
tracker_on k next t m is = ap (λ (x : Tracked). x.state) is ∙ on_by k t m _ refl

-- the first move, and each further one
pub ruleset making = (none_made, one_made, tracker_on)

-- ---- some history leads to the state after moves

history_by : (refusal : Option Refusal) (m : Moment) (l : Line) (ls : List Line)
    → refusal_of m.state l.thread l.action ≡ refusal → HasHistory m.state
    → (HasHistory (after_line m l).state → HasHistory (after_lines (after_line m l) ls).state)
    → HasHistory (option_map_or (λ _. m) refusal (after_lines (after_line m l) ls)).state
history_by None m l ls is past later =
    later (rw is at (history_after m.state ((l.thread, l.action) ∷ []) past))
history_by (Some refusal) m l ls is past later = past

pub history_of : (m : Moment) (ls : List Line) → HasHistory m.state
    → HasHistory (after_lines m ls).state
history_of m [] past = past
history_of m (l ∷ ls) past =
    history_by (refusal_of m.state l.thread l.action) m l ls refl past
    (history_of (after_line m l) ls)

pub kept_after : (first k : Tracked) (ms : List Line) (old new : List ℕ) (count : ℕ)
    (refused : Option (ℕ × Refusal))
    → IsRecorded first [] → HavePlayed first.state ms old k count refused new
    → HasHistory k.state
kept_after first k ms old new count refused recorded played =
    subst HasHistory (sym (ap (λ (x : Tracked). x.state) played.after))
    (history_of (moment first.state []) ms (first.sequential, ([], recorded.kept)))

pub threads_of : (first : Tracked) (s : Shape) (n : ℕ) → first ≡ tracker_of (start_of s) []
    → n ≡ length first.state.phases → n ≡ s.threads
threads_of first s n at is =
    is ∙ ap (λ (x : Tracked). length x.state.phases) at ∙ length-replicate s.threads Idle

-- ---- the answer

zero_at_rest : (found : Option (ℕ × Move)) (Rests : Type 0) → (found ≡ None ↔ Rests)
    → from_bool (is_some found) ≡ 0 ↔ Rests
zero_at_rest None Rests is = (λ zero. is.0 refl, λ rests. refl)
zero_at_rest (Some m) Rests is = (λ zero. absurd (cc), λ rests. absurd (cc (is.1 rests)))

one_else : (found : Option (ℕ × Move)) → from_bool (is_some found) ≢ 0
    → from_bool (is_some found) ≡ 1
one_else None some = absurd (some refl)
one_else (Some m) some = refl

-- what is within the room, and not below its end, is at it
full : (count size : ℕ) → count ≤ size → ¬ (count < size) → count ≡ size
full zero zero within not_below = refl
full zero (suc size) within not_below = absurd (not_below (omega arith))
full (suc count) zero within not_below = absurd (omega (arith, within))
full (suc count) (suc size) within not_below =
    ap suc (full count size (omega (arith, within)) (λ below. not_below (omega (arith, below))))

pub is_finished : (s from now : State) (answer count : ℕ) (old new number_old number_new : List ℕ)
    (found : Option (ℕ × Move))
    → from ≡ s → HasHistory from → AreMade from now count old new
    → (count < length old → IsAtRest now) → count ≤ length old → (found ≡ None ↔ IsAtRest now)
    → answer ≡ from_bool (is_some found) → number_new ≡ set number_old 0 count
    → IsFinished s answer old new number_old number_new
is_finished s from now answer count old new number_old number_new found at past made rests within
    none is written = record {
      now = now;
      count = count;
      made = subst (λ (x : State). AreMade x now count old new) at made;
      few = subst (λ (x : State). count ≤ length x.phases * most_moves x.kind) at
          (omega (arith, made.count_is, (comes_to_rest from past made.moves made.finishing).0));
      number_is = written;
      rests = subst (λ (n : ℕ). n ≡ 0 ↔ IsAtRest now) (sym is) (zero_at_rest found _ none);
      is_full = λ some. (
        is ∙ one_else found (subst (λ (n : ℕ). n ≢ 0) is some),
        full count (length old) within
            (λ below. some (is ∙ (zero_at_rest found _ none).1 (rests below))),
      );
    }
