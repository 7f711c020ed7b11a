-- One turn of the loop that plays what is asked for.
use Rattle.std.proofs.Common.{◌≡◌, ℕ, zero, suc, ◌+◌, ◌-◌, ◌<◌, List, ◌∷◌, take, Result, Ok, Err}
use Rattle.std.proofs.Common.{ap, refl, ◌∙◌, arith, ◌*◌, ◌++◌, None, Some, subst, length, sym}
use Rattle.lk_lines.specs.Faults.{Fault}
use Rattle.lk_replay.specs.Schedule.{moves_in, with_line}
use Rattle.lk_replay.specs.declared.schedule.Line.{Line}
use Rattle.lk_page.specs.Playing.{moment, HavePlayed, ArePlaying}
use Rattle.lk_locks.specs.State.{State, phase_at}
use Rattle.lk_locks.specs.Steps.{refusal_of, change_of}
use Rattle.lk_locks.specs.Play.{Tracked, tracker_after, tracker_of}
use Rattle.lk_locks.specs.declared.kinds.Refusal.{Refusal}
use Rattle.lk_page.specs.Told.{Moment, IsRecord, after_line}
use Rattle.lk_page.specs.Layout.{record_bytes}
use Rattle.lk_page.specs.Written.{AreRecords, with_bytes_at}
use Rattle.lk_page.specs.declared.told.Record.{Record}
use Rattle.std.proofs.lemmas.List.{length-set}
use Rattle.lk_locks.specs.declared.kinds.Entry.{Entry}
use Rattle.lk_locks.specs.declared.kinds.Move.{Move}
use Rattle.lk_locks.proofs.Moves.{same_length}
use Rattle.lk_page.proofs.Records.{state_after, tracked_on}

-- ---- the moves that are asked for, one after another

prefix : (n : ℕ) (l : Line) (ls : List Line) → 0 < n → take n (l ∷ ls) ≡ l ∷ take (n - 1) ls
prefix zero l ls h = absurd (omega (arith, h))
prefix (suc n) l ls h = let e : n ≡ suc n - 1 = omega arith in ap (λ (k : ℕ). l ∷ take k ls) e

next_asked : (most count : ℕ) (l : Line) (ls : List Line) → count < most
    → take (most - count) (l ∷ ls) ≡ l ∷ take (most - (count + 1)) ls
next_asked most count l ls h =
    let e : most - count - 1 ≡ most - (count + 1) = omega arith in
    prefix (most - count) l ls (omega (arith, h)) ∙ ap (λ (n : ℕ). l ∷ take n ls) e

-- the next move was read from lines that have no fault
pub record IsRead (l : Line) (before after : Result (List Line) Fault) : Type 0 where
  pub whole : after ≡ Ok (moves_in after)
  pub first : moves_in before ≡ l ∷ moves_in after

pub next_read : (l : Line) (before after : Result (List Line) Fault) → before ≡ with_line l after
    → before ≡ Ok (moves_in before) → IsRead l before after
next_read l before (Ok ls) is whole = rw is (record { whole = refl; first = refl })
next_read l before (Err fault) is whole = absurd (cc)

-- ---- one move more of those that are asked for, or none

one_record : (m : Moment) (l : Line) (ls : List Line) (count : ℕ) (old now new : List ℕ)
    (r : Record)
    → refusal_of m.state l.thread l.action ≡ None → IsRecord m l r
    → now ≡ with_bytes_at old (count * 56) (record_bytes r)
    → AreRecords (after_line m l) ls (count + 1) now new → AreRecords m (l ∷ ls) count old new
one_record m l ls count old now new r a told w h =
    rw a (r, told, subst (λ (x : List ℕ). AreRecords (after_line m l) ls (count + 1) x new) w h)

playing_on : (s : State) (ms : List Line) (old : List ℕ) (k next : Tracked) (l : Line)
    (rest : List Line) (count : ℕ) (now written : List ℕ) (r : Record)
    (p : ArePlaying s ms old k (l ∷ rest) count now)
    → refusal_of k.state l.thread l.action ≡ None → next ≡ tracker_after k l.thread l.action
    → IsRecord (moment k.state p.entries) l r
    → written ≡ with_bytes_at now (count * 56) (record_bytes r)
    → ArePlaying s ms old next rest (count + 1) written
playing_on s ms old k next l rest count now written r p a e told w =
    let g =
    e ∙ ap (λ (x : Tracked). tracker_after x l.thread l.action) p.tracks
    ∙ tracked_on k.state l.thread l.action p.entries a in
    rw g (record {
      entries = p.entries ++ (change_of k.state l.thread l.action).entries;
      tracks = refl;
      made = omega (arith, rw a at p.made);
      stopped = rw a at p.stopped;
      after = rw a at p.after;
      records = λ new h. p.records new
          (one_record (moment k.state p.entries) l rest count now written new r a told w h);
    })

-- the next move is refused
playing_stops : (s : State) (ms : List Line) (old : List ℕ) (k next : Tracked) (l : Line)
    (rest : List Line) (count : ℕ) (now : List ℕ) (x : Refusal)
    → ArePlaying s ms old k (l ∷ rest) count now
    → refusal_of k.state l.thread l.action ≡ Some x → next ≡ tracker_after k l.thread l.action
    → HavePlayed s ms old next count (Some (l.number, x)) now
playing_stops s ms old k next l rest count now x p a e =
    let same : next ≡ k = e ∙ rw a refl in
    let end = rw a at p.after in
    record {
      made = omega (arith, rw a at p.made);
      stopped = rw a at p.stopped;
      after = same ∙ p.tracks ∙ rw (← end) refl;
      records = p.records now (rw a refl);
    }

-- ---- the same in the loop

pub turn_made : (s : State) (moves left after : List Line) (old now written : List ℕ)
    (k next : Tracked) (l : Line) (most count : ℕ) (r : Record)
    → ArePlaying s (take most moves) old k (take (most - count) left) count now → count < most
    → left ≡ l ∷ after → None ≡ refusal_of k.state l.thread l.action
    → next ≡ tracker_after k l.thread l.action
    → ((es : List Entry) → k ≡ tracker_of k.state es → IsRecord (moment k.state es) l r)
    → written ≡ with_bytes_at now (count * 56) (record_bytes r)
    → ArePlaying s (take most moves) old next (take (most - (count + 1)) after) (count + 1) written
turn_made s moves left after old now written k next l most count r p h f a e told w =
    let q = rw (f, next_asked most count l after h) at p in
    playing_on s (take most moves) old k next l (take (most - (count + 1)) after) count now
    written r q (sym a) e (told q.entries q.tracks) w

pub turn_refused : (s : State) (moves left after : List Line) (old now : List ℕ) (k next : Tracked)
    (l : Line) (most count : ℕ) (x : Refusal)
    → ArePlaying s (take most moves) old k (take (most - count) left) count now → count < most
    → left ≡ l ∷ after → Some x ≡ refusal_of k.state l.thread l.action
    → next ≡ tracker_after k l.thread l.action
    → HavePlayed s (take most moves) old next count (Some (l.number, x)) now
turn_refused s moves left after old now k next l most count x p h f a e =
    playing_stops s (take most moves) old k next l (take (most - (count + 1)) after) count now x
    (rw (f, next_asked most count l after h) at p) (sym a) e

pub same_threads : (k next : Tracked) (t : ℕ) (m : Move) → None ≡ refusal_of k.state t m
    → next ≡ tracker_after k t m → length next.state.phases ≡ length k.state.phases
same_threads k next t m a e =
    ap (λ (s : State). length s.phases) (state_after k next t m (sym a) e)
    ∙ length-set k.state.phases t (change_of k.state t m).phase

pub same_words : (k next : Tracked) (t : ℕ) (m : Move) → None ≡ refusal_of k.state t m
    → next ≡ tracker_after k t m → length next.state.words ≡ length k.state.words
same_words k next t m a e =
    ap (λ (s : State). length s.words) (state_after k next t m (sym a) e)
    ∙ same_length k.state.kind k.state.bits k.state.words t (phase_at k.state.phases t) m
