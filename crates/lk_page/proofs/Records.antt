-- The record of a move that was made, and the lock after it.
use Rattle.std.proofs.Common.{◌≡◌, ℕ, List, ◌++◌, None, refl, Bool, length, Option, ap, ◌∙◌}
use Rattle.lk_locks.specs.State.{State, phase_at}
use Rattle.lk_locks.specs.Steps.{refusal_of, next_state, change_of}
use Rattle.lk_locks.specs.Sequential.{nobody}
use Rattle.lk_locks.specs.Play.{tracker_of, tracker_with, tracker_after, Tracked, holding_in}
use Rattle.lk_locks.specs.Play.{waiting_in}
use Rattle.lk_locks.proofs.Histories.{after_append, holder_append}
use Rattle.lk_locks.specs.declared.kinds.Move.{Move}
use Rattle.lk_locks.specs.declared.kinds.Entry.{Entry}
use Rattle.lk_locks.specs.Locks.{step_due}
use Rattle.lk_locks.specs.declared.kinds.StepKind.{StepKind}
use Rattle.std.proofs.lemmas.List.{get_or-set_same}
use Rattle.lk_locks.specs.declared.kinds.LockKind.{LockKind}
use Rattle.lk_locks.specs.declared.kinds.Outcome.{Outcome}
use Rattle.lk_locks.specs.declared.kinds.Phase.{Phase}
use Rattle.lk_locks.specs.declared.kinds.Phase.TheVariants.{Idle}
use Rattle.lk_locks.proofs.Moves.{accepted_of}
use Rattle.lk_replay.specs.declared.schedule.Line.{Line}
use Rattle.lk_page.specs.Told.{AreTouched, IsOwn, IsRecord, kind_number, own_word, standing_of}
use Rattle.lk_page.specs.Next.{allowed_calls, waits_after}
use Rattle.lk_page.specs.Playing.{moment}
use Rattle.lk_page.specs.declared.told.Standing.{Standing}
use Rattle.lk_page.specs.declared.told.Touch.{Touch}

-- ---- a lock that goes along with its history knows what the history says

more_tracked : (s : State) (t : ℕ) (m : Move) (es new : List Entry)
    → tracker_with (tracker_of s es) (next_state s t m) new
    ≡ tracker_of (next_state s t m) (es ++ new)
more_tracked s t m es new = rw (after_append (nobody s.kind) es new, holder_append None es new) refl

-- an accepted move leaves the lock that its entries lead to
pub tracked_on : (s : State) (t : ℕ) (m : Move) (es : List Entry) → refusal_of s t m ≡ None
    → tracker_after (tracker_of s es) t m
    ≡ tracker_of (next_state s t m) (es ++ (change_of s t m).entries)
tracked_on s t m es accepted = rw accepted (more_tracked s t m es (change_of s t m).entries)

-- ---- the record

pub state_after : (k next : Tracked) (t : ℕ) (m : Move) → refusal_of k.state t m ≡ None
    → next ≡ tracker_after k t m → next.state ≡ next_state k.state t m
state_after k next t m a e = ap (λ (x : Tracked). x.state) e ∙ rw a refl

pub is_told : (k next : Tracked) (es : List Entry) (l : Line) (o : Outcome) (kind : ℕ)
    (lock : LockKind) (from p : Phase) (d : Option StepKind) (stand : Standing) (calls : ℕ)
    (waits : Bool) (first second : Option Touch)
    → k ≡ tracker_of k.state es → refusal_of k.state l.thread l.action ≡ None
    → next ≡ tracker_after k l.thread l.action
    → o ≡ (change_of k.state l.thread l.action).outcome
    → kind ≡ kind_number lock (record { from = from; action = l.action; outcome = o; after = p })
    → lock ≡ next.state.kind → from ≡ phase_at k.state.phases l.thread
    → p ≡ phase_at next.state.phases l.thread
    → d ≡ step_due next.state.kind (phase_at next.state.phases l.thread)
    → stand ≡ standing_of (holding_in next) (waiting_in next) l.thread
    → calls ≡ allowed_calls next.state l.thread
    → waits ≡ waits_after next.state l.thread o stand.is_queued
    → AreTouched k.state.words (change_of k.state l.thread l.action).words first second
    → IsOwn (length k.state.words) (own_word k.state l.thread l.action) first second
    → IsRecord (moment k.state es) l (record {
      line = l.number;
      thread = l.thread;
      action = l.action;
      outcome = o;
      kind = kind;
      phase = p;
      due = d;
      standing = stand;
      calls = calls;
      waits = waits;
      first = first;
      second = second;
    })
is_told k next es l o kind lock from p d stand calls waits first second
    h a e oe ke le fe pe de se ce we touched own =
    let g =
    e ∙ ap (λ (x : Tracked). tracker_after x l.thread l.action) h
    ∙ tracked_on k.state l.thread l.action es a in
    let is =
    ap (λ (x : Tracked). phase_at x.state.phases l.thread) g
    ∙ get_or-set_same k.state.phases l.thread (change_of k.state l.thread l.action).phase Idle
    (accepted_of k.state l.thread l.action a).thread in
    record {
      accepted = rw oe refl;
      kind = ke ∙ rw (le, fe, oe, pe, is, g) refl;
      phase = pe ∙ is;
      due =
          de ∙ ap (step_due next.state.kind) is
          ∙ ap (λ (x : Tracked). step_due x.state.kind (change_of k.state l.thread l.action).phase)
          g;
      stands = se ∙ rw g refl;
      calls = ce ∙ ap (λ (x : Tracked). allowed_calls x.state l.thread) g;
      waiting = we ∙ ap (λ (x : Tracked). waits_after x.state l.thread o stand.is_queued) g;
      touched = touched;
      own = own;
    }
