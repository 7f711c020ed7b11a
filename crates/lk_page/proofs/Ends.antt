-- The bytes that are written at the end are those of the text.
use Rattle.std.proofs.Common.{◌≡◌, List, [], ◌∷◌, ◌++◌, Option, None, Some, sym, ◌∙◌, append_assoc}
use Rattle.std.proofs.Common.{append-nil, ℕ, length, take, drop, Result, Ok, refl, ap}
use Rattle.std.specs.List.{flat_map}
use Rattle.std.specs.Option.{option_map_or}
use Rattle.lk_locks.specs.State.{start_of}
use Rattle.lk_locks.specs.Steps.{refusal_of, next_state, change_of}
use Rattle.lk_locks.specs.declared.kinds.Refusal.{Refusal}
use Rattle.lk_replay.specs.Replay.{replay_from, made_by, with_move, refused_or}
use Rattle.lk_replay.specs.declared.schedule.Line.{Line}
use Rattle.lk_page.specs.Told.{Moment, after_line, after_lines, beginning}
use Rattle.lk_locks.specs.Play.{Tracked, tracker_of, holding_in, waiting_in}
use Rattle.lk_lines.specs.Faults.{Fault}
use Rattle.lk_replay.specs.Schedule.{Plan}
use Rattle.lk_page.specs.Layout.{bytes_of_state, state_bytes}
use Rattle.lk_page.specs.Written.{IsTold, answer_of}
use Rattle.lk_page.specs.Playing.{HavePlayed}

-- ---- the history of a moment is what the replay's moves left

entries_step : (r : Option Refusal) (m : Moment) (l : Line) (ls : List Line)
    → (after_lines (after_line m l) ls).entries
    ≡ (after_line m l).entries
    ++ flat_map (λ x. x.entries) (replay_from (next_state m.state l.thread l.action) ls).made
    → (option_map_or (λ _. m) r (after_lines (after_line m l) ls)).entries
    ≡ m.entries ++ flat_map (λ x. x.entries) (refused_or r l.number (with_move
    (made_by m.state l) (replay_from (next_state m.state l.thread l.action) ls))).made
entries_step None m l ls later =
    later ∙ append_assoc m.entries (change_of m.state l.thread l.action).entries _
entries_step (Some r) m l ls later = sym (append-nil m.entries)

entries_replayed : (m : Moment) (ls : List Line)
    → (after_lines m ls).entries
    ≡ m.entries ++ flat_map (λ x. x.entries) (replay_from m.state ls).made
entries_replayed m [] = sym (append-nil m.entries)
entries_replayed m (l ∷ ls) =
    entries_step (refusal_of m.state l.thread l.action) m l ls
    (entries_replayed (after_line m l) ls)

-- ---- the bytes

same_state : (p : Plan) (most moves : ℕ) (k : Tracked) (count : ℕ) (refused : Option (ℕ × Refusal))
    (old new : List ℕ)
    → HavePlayed (start_of p.shape) (take most p.moves) old k count refused new
    → moves ≡ length p.moves
    → let end : Moment = after_lines (beginning p) (take most p.moves) in
    bytes_of_state moves count refused k.state (holding_in k) (waiting_in k)
    ≡ state_bytes (length p.moves)
    (length (replay_from (start_of p.shape) (take most p.moves)).made)
    (replay_from (start_of p.shape) (take most p.moves)).refused end
same_state p most moves k count refused old new h m = rw (h.after, h.made, h.stopped, m) refl

pub plays : (p : Plan) (read : Result Plan Fault) (most answer moves : ℕ) (first k : Tracked)
    (count : ℕ) (refused : Option (ℕ × Refusal))
    (records_old records_new state_old state_new bytes : List ℕ)
    → read ≡ Ok p → first ≡ tracker_of (start_of p.shape) []
    → HavePlayed first.state (take most p.moves) records_old k count refused records_new
    → answer ≡ answer_of refused → moves ≡ length p.moves
    → bytes ≡ bytes_of_state moves count refused k.state (holding_in k) (waiting_in k)
    → state_new ≡ bytes ++ drop 2304 state_old
    → IsTold read most answer records_old records_new state_old state_new
plays p read most answer moves first k count refused records_old records_new state_old state_new
    bytes r e h a m b w =
    let g : HavePlayed (start_of p.shape) (take most p.moves) records_old k count refused
    records_new =
    rw e at h in
    rw r (record {
      answer_is = a ∙ ap answer_of g.stopped;
      records_are = g.records;
      history_is = entries_replayed (beginning p) (take most p.moves);
      state_is = w ∙ ap (λ (x : List ℕ). x ++ drop 2304 state_old)
          (b ∙ same_state p most moves k count refused records_old records_new g m);
    })
