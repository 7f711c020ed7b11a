-- Definitions: the line and the status of each fault, and the program's fault for one of a run.
use Rattle.std.specs.Prelude.{ℕ, List, [], ◌++◌, codes, decimal}
use Rattle.lk_replay.specs.declared.devices.RunFault.{RunFault}
use Rattle.lk_replay.specs.declared.devices.RunFault.TheVariants as run
use Rattle.lockreplay.specs.declared.faults.ProgramFault.{ProgramFault}
use Rattle.lockreplay.specs.declared.faults.ProgramFault.TheVariants.{Input, Output, Memory}
use Rattle.lockreplay.specs.declared.faults.ProgramFault.TheVariants.{TooManyFiles, File}

-- 2 if the arguments name too many files, 3 if a device or the memory failed
abbrev pub fault_status : ProgramFault → ℕ
fault_status TooManyFiles = 2
fault_status _ = 3

-- a run reads standard input and writes standard output
abbrev pub fault_from : RunFault → ProgramFault
fault_from run.Read = Input
fault_from run.Write = Output
fault_from run.OutOfMemory = Memory

-- the line for standard error, before a file's number
abbrev pub fault_message : ProgramFault → List ℕ
fault_message Input = codes "lockreplay: cannot read standard input"
fault_message Output = codes "lockreplay: cannot write"
fault_message Memory = codes "lockreplay: out of memory"
fault_message TooManyFiles = codes "lockreplay: too many files"
fault_message (File k) = codes "lockreplay: cannot read file "

abbrev pub fault_number : ProgramFault → List ℕ
fault_number (File k) = decimal k
fault_number _ = []

abbrev pub fault_line : ProgramFault → List ℕ
fault_line fault = fault_message fault ++ fault_number fault ++ codes "\n"
