-- Definitions: the theorem from bytes to bytes. A report describes a history that keeps the whole
-- theorem.
use Rattle.std.specs.Prelude.{◌≡◌, ℕ, List, [], map, Option, Ok}
use Rattle.std.specs.Io.KnownBytes.{Appends}
use Rattle.lk_locks.specs.MainTheorem.{IsAsPromised}
use Rattle.lk_locks.specs.State.{start_of}
use Rattle.lk_locks.specs.Steps.{entries_after}
use Rattle.lk_locks.specs.declared.kinds.Entry.{Entry}
use Rattle.lk_replay.specs.Replay.{replay_of, replayed_of}
use Rattle.lk_replay.specs.Report.{lines_text, report_text}
use Rattle.lk_replay.specs.Schedule.{Plan, plan_of}
use Rattle.lk_replay.specs.declared.played.Accepted.{Accepted}

-- these are the entries that these moves leave on a new lock of the schedule
abbrev pub IsHistoryOf : Plan → List Accepted → List Entry → Type 0
IsHistoryOf p accepted es =
    es ≡ entries_after (start_of p.shape) (map (λ a. (a.thread, a.action)) accepted)

-- A report of a schedule describes its replay: the accepted moves, each with its entries, up to the
-- refused one. `lines_text` shows in each line who holds and who waits after the entries so far.
-- All entries together are the history that the moves leave, which is as promised.
pub record IsReportOf (p : Plan) (report : List ℕ) : Type 0 where
  pub text : report ≡ lines_text p.shape.kind 0 [] (replay_of p).made (replay_of p).refused
  pub history : IsHistoryOf p (replayed_of p).accepted (replayed_of p).entries
  pub promised : IsAsPromised p.shape.kind p.shape.threads (replayed_of p).entries

-- the report of this text describes such a history, if the text is a schedule
abbrev pub IsReportOfText : List ℕ → List ℕ → Type 0
IsReportOfText text report = (p : Plan) → plan_of text ≡ Ok p → IsReportOf p report

-- known bytes grew by the report of this text, which describes such a history
abbrev pub AppendsReport : Option (List ℕ) → Option (List ℕ) → List ℕ → Type 0
AppendsReport old new text =
    Appends old new (report_text text) × IsReportOfText text (report_text text)
