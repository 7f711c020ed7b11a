-- Definitions: the jobs, the output that each leaves, and its status.
use Rattle.std.specs.Prelude.{◌≡◌, ◌≤◌, ℕ, Bool, true, false, List, length, map, Option, Result}
use Rattle.std.specs.Prelude.{Ok, Err, IfOk, IfSome, if◌then◌else◌}
use Rattle.std.specs.List.{list_all}
use Rattle.std.specs.Io.KnownBytes.{Appends, Keeps}
use Rattle.lk_replay.specs.declared.ending.Ending.{Ending}
use Rattle.lk_replay.specs.declared.ending.Ending.TheVariants.{Accepted}
use Rattle.lk_replay.specs.Ending.{ending_of, status_of}
use Rattle.lk_replay.specs.Devices.{AppendsPrefix}
use Rattle.lk_replay.specs.Report.{report_text}
use Rattle.lk_workers.specs.Batch.{batch_text_of}
use Rattle.lockreplay.specs.declared.faults.ProgramFault.{ProgramFault}
use Rattle.lockreplay.specs.declared.faults.ProgramFault.TheVariants.{Input, Output, Memory, File}
use Rattle.lockreplay.specs.declared.command_line.Job.{Job}
use Rattle.lockreplay.specs.declared.command_line.Job.TheVariants.{Replay, Batch}
use Rattle.lockreplay.specs.declared.command_line.ParseFault.{ParseFault}

-- from 1 to 8 workers, and from 1 to 65,536 files
abbrev pub IsFitJob : Job → Type 0
IsFitJob Replay = Unit {0}
IsFitJob (Batch workers files) =
    (1 ≤ workers) × (workers ≤ 8) × (1 ≤ length files.items) × (length files.items ≤ 65536)

abbrev pub FitsJob : Result Job ParseFault → Type 0
FitsJob r = IfOk r IsFitJob

-- The end of the replay of an input. The report of the input's bytes went out, and the status is
-- that of its ending; or the output failed, after a prefix of it; or another fault came before it.
abbrev pub EndsReplay : Option (List ℕ) → Option (List ℕ) → Option (List ℕ) → Result ℕ ProgramFault
    → Type 0
EndsReplay input old new (Ok status) = IfSome input (λ text. Appends old new (report_text text)
    × (status ≡ status_of (Ok (ending_of (report_text text)))))
EndsReplay input old new (Err Output) =
    IfSome input (λ text. AppendsPrefix old new (report_text text))
EndsReplay input old new (Err Input) = Keeps old new
EndsReplay input old new (Err Memory) = Keeps old new
EndsReplay input old new (Err _) = ⊥

abbrev pub is_accepted : Ending → Bool
is_accepted Accepted = true
is_accepted _ = false

-- 0 if each report is that of a schedule of which every move was accepted, else 1
abbrev pub status_of_reports : List (List ℕ) → ℕ
status_of_reports reports = if list_all (λ r. is_accepted (ending_of r)) reports then 0 else 1

-- a fault in reading this many files: the number of a file, or out of memory
abbrev pub IsFileFault : ℕ → ProgramFault → Type 0
IsFileFault count (File k) = (1 ≤ k) × (k ≤ count)
IsFileFault count Memory = Unit {0}
IsFileFault count _ = ⊥

-- The end of a batch of this many files. The reports of this many texts went out as one text, and
-- the status is theirs; or the output failed, after a prefix of it; or another fault came before.
abbrev pub EndsBatch : ℕ → Option (List ℕ) → Option (List ℕ) → Result ℕ ProgramFault → Type 0
EndsBatch count old new (Ok status) = (texts : List (List ℕ)) × (length texts ≡ count)
    × Appends old new (batch_text_of (map report_text texts))
    × (status ≡ status_of_reports (map report_text texts))
EndsBatch count old new (Err Output) = (texts : List (List ℕ)) × (length texts ≡ count)
    × AppendsPrefix old new (batch_text_of (map report_text texts))
EndsBatch count old new (Err fault) = IsFileFault count fault × Keeps old new

-- the end of a job, on an input and an output
abbrev pub EndsJob : Job → Option (List ℕ) → Option (List ℕ) → Option (List ℕ)
    → Result ℕ ProgramFault → Type 0
EndsJob Replay input old new r = EndsReplay input old new r
EndsJob (Batch workers files) input old new r = EndsBatch (length files.items) old new r
