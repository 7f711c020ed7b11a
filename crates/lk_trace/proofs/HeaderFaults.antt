-- A fault of a header is told without its line.
use Rattle.std.proofs.Common.{◌≡◌, Result, Err, sym, ap}
use Rattle.lk_locks.specs.State.{Shape}
use Rattle.lk_lines.specs.Faults.{Fault}
use Rattle.lk_lines.specs.Reads.{Fails}
use Rattle.lk_lines.specs.Reads.{IsOfText}
use Rattle.lk_lines.specs.declared.faults.ReadFault.{ReadFault}
use Rattle.lk_lines.specs.declared.faults.ReadFault.TheVariants.{OutOfMemory}
use Rattle.lk_trace.specs.Traces.{fault_named, header_read}

pub header_fails : (fault : ReadFault) (read : Result Shape Fault) → IsOfText fault
    → Fails fault read → Err (fault_named fault) ≡ header_read read
header_fails OutOfMemory read some fails = absurd some
header_fails fault read some fails = sym (ap header_read fails)
