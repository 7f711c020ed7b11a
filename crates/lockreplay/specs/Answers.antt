-- Definitions: the bytes that the program leaves on standard output, and its status or its message
-- for standard error.
use Rattle.std.specs.Prelude.{◌≡◌, ℕ, List, string_bytes, Option, Result, Ok, Err}
use Rattle.std.specs.Io.KnownBytes.{Appends, Keeps}
use Rattle.lk_replay.specs.Devices.{AppendsPrefix}
use Rattle.lockreplay.specs.declared.answers.Message.{Message}
use Rattle.lockreplay.specs.declared.answers.Message.TheVariants as message
use Rattle.lockreplay.specs.declared.command_line.Job.{Job}
use Rattle.lockreplay.specs.declared.command_line.ParseFault.{ParseFault}
use Rattle.lockreplay.specs.declared.command_line.ParseFault.TheVariants as parse
use Rattle.lockreplay.specs.declared.faults.ProgramFault.{ProgramFault}
use Rattle.lockreplay.specs.declared.faults.ProgramFault.TheVariants.{Output, Memory, TooManyFiles}
use Rattle.lockreplay.specs.Faults.{fault_line, fault_status}
use Rattle.lockreplay.specs.Jobs.{EndsJob}

-- the bytes of a message
abbrev pub message_bytes : Message → List ℕ
message_bytes (message.Fault fault) = fault_line fault
message_bytes (message.Usage text) = string_bytes text

-- the status of a program that ends with it
abbrev pub message_status : Message → ℕ
message_status (message.Fault fault) = fault_status fault
message_status (message.Usage text) = 2

-- help was shown, or the output failed
abbrev pub EndsHelp : List ℕ → Option (List ℕ) → Option (List ℕ) → Result ℕ ProgramFault → Type 0
EndsHelp text old new (Ok status) = (status ≡ 0) × Appends old new text
EndsHelp text old new (Err fault) = (fault ≡ Output) × AppendsPrefix old new text

-- P holds of the status, or of the fault that the message tells
abbrev pub EndsWith : (Result ℕ ProgramFault → Type 0) → Result ℕ Message → Type 0
EndsWith P (Ok status) = P (Ok status)
EndsWith P (Err (message.Fault fault)) = P (Err fault)
EndsWith P (Err (message.Usage text)) = ⊥

-- The end of the program: the bytes on standard output, with its status or its message. Arguments
-- that name no job are answered by the parser's text.
abbrev pub EndsProgram : Result Job ParseFault → Option (List ℕ) → Option (List ℕ) → Option (List ℕ)
    → Result ℕ Message → Type 0
EndsProgram (Ok job) input old new r = EndsWith (EndsJob job input old new) r
EndsProgram (Err (parse.Help text)) input old new r =
    EndsWith (EndsHelp (string_bytes text) old new) r
EndsProgram (Err (parse.Usage text)) input old new r =
    (r ≡ Err (message.Usage text)) × Keeps old new
EndsProgram (Err parse.TooManyFiles) input old new r =
    (r ≡ Err (message.Fault TooManyFiles)) × Keeps old new
EndsProgram (Err parse.OutOfMemory) input old new r =
    (r ≡ Err (message.Fault Memory)) × Keeps old new
