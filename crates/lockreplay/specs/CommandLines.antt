-- Definitions: the plain command lines, and the job of each. The parser decides on every other
-- line, such as one with its options in another order.
use Rattle.std.specs.Prelude.{◌≡◌, ◌⊎◌, ◌+◌, ◌<◌, ◌≤◌, ◌==◌, not, ℕ, Bool, true, List, [], ◌∷◌}
use Rattle.std.specs.Prelude.{length, map, codes, string_bytes, Result, Ok, Err}
use Rattle.lockreplay.specs.declared.command_line.Job.{Job}
use Rattle.lockreplay.specs.declared.command_line.Job.TheVariants.{Replay, Batch}
use Rattle.lockreplay.specs.declared.command_line.ParseFault.{ParseFault}
use Rattle.lockreplay.specs.declared.command_line.ParseFault.TheVariants.{TooManyFiles, OutOfMemory}

-- an argument, as its bytes
abbrev pub Argument : Type 0
Argument = List ℕ

-- `replay`
abbrev pub replay_line : List Argument
replay_line = codes "replay" ∷ []

-- `batch --workers N FILE...`, with N a digit
abbrev pub batch_line : ℕ → List Argument → List Argument
batch_line workers files = codes "batch" ∷ codes "--workers" ∷ ((48 + workers) ∷ []) ∷ files

-- the argument does not begin with a hyphen, so it is no option
abbrev pub is_plain : Argument → Bool
is_plain [] = true
is_plain (b ∷ rest) = not (b == 45)

-- the job is a batch of these files by this many workers
abbrev pub IsBatchOfFiles : ℕ → List Argument → Job → Type 0
IsBatchOfFiles workers files Replay = ⊥
IsBatchOfFiles workers files (Batch w fs) = (w ≡ workers) × (map string_bytes fs.items ≡ files)

-- the job has P, or memory was refused
abbrev pub AsksFor : (Job → Type 0) → Result Job ParseFault → Type 0
AsksFor P (Ok job) = P job
AsksFor P (Err OutOfMemory) = Unit {0}
AsksFor P (Err _) = ⊥

-- more files than a batch may have, or memory was refused
abbrev pub IsTooMany : Result Job ParseFault → Type 0
IsTooMany (Err TooManyFiles) = Unit {0}
IsTooMany (Err OutOfMemory) = Unit {0}
IsTooMany _ = ⊥

-- the answer to a batch of files, by the number of the files
abbrev pub AnswersBatch : ℕ → List Argument → Result Job ParseFault → Type 0
AnswersBatch workers files r =
    (length files ≤ 65536 → AsksFor (IsBatchOfFiles workers files) r)
    × (65536 < length files → IsTooMany r)

-- the digits that are no number of workers
abbrev pub IsUnfit : ℕ → Type 0
IsUnfit workers = (workers ≡ 0) ⊎ (workers ≡ 9)
