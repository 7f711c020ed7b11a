-- The lines of a log's input are read one after another, up to its end or a line that is none.
use Rattle.std.proofs.Common.{◌≡◌, ℕ, List, Option, None, Some, IfSome, Result, Ok, Err}
use Rattle.std.proofs.Common.{MatchResult, Bool, ap₂, sym, subst, subst₂, ◌∙◌}
use Rattle.std.specs.Io.KnownBytes.{IsAtEnd, Keeps}
use Rattle.lk_order.specs.Logs.{IsFaultOf, Reading, ThreadLog, line_read, log_read}
use Rattle.lk_order.specs.declared.log.reader.LogFault.{LogFault}
use Rattle.lk_text.specs.Lines.{TakesLine, kept_bytes}
use Rattle.lk_text.specs.declared.lines.Line.{Line}
use Rattle.lk_jobs.specs.Orders.{IsNoLog, IsText, Reads, at_end, at_line, begins, goes_on}
use Rattle.lk_jobs.specs.invariants.{ReadsInput}

-- no line yet
pub read_none : (all left : Option (List ℕ)) (reading : Reading) → Keeps all left
    → reading ≡ record { log = None; number = 0 } → ReadsInput all left reading
read_none None left reading same new = tt
read_none (Some text) None reading same new = absurd same
read_none (Some text) (Some rest) reading same new =
    subst₂ (λ (l : List ℕ) (r : Reading). Reads text l r) (sym same) (sym new) begins

-- a line of a log
pub read_on : (all old new : Option (List ℕ)) (line : Line) (bytes : List ℕ) (ended : Bool)
    (reading after : Reading) → ReadsInput all old reading → TakesLine old new line
    → bytes ≡ kept_bytes line → ended ≡ line.whole → line_read reading ended bytes ≡ Ok after
    → ReadsInput all new after
read_on None old new line bytes ended reading after reads taken same whole on = tt
read_on (Some text) None new line bytes ended reading after reads taken same whole on =
    absurd reads
read_on (Some text) (Some rest) None line bytes ended reading after reads taken same whole on =
    absurd taken
read_on (Some text) (Some rest) (Some next) line bytes ended reading after reads taken same whole
    on =
    goes_on rest next line reading after reads taken
    (sym (ap₂ (λ (e : Bool) (l : List ℕ). line_read reading e l) whole same) ∙ on)

-- a line that is none
pub read_off : (all old new : Option (List ℕ)) (line : Line) (bytes : List ℕ) (ended : Bool)
    (reading : Reading) (fault : LogFault) → ReadsInput all old reading → TakesLine old new line
    → bytes ≡ kept_bytes line → ended ≡ line.whole → IsFaultOf (line_read reading ended bytes) fault
    → IfSome all (IsNoLog fault)
read_off None old new line bytes ended reading fault reads taken same whole off = tt
read_off (Some text) None new line bytes ended reading fault reads taken same whole off =
    absurd reads
read_off (Some text) (Some rest) None line bytes ended reading fault reads taken same whole off =
    absurd taken
read_off (Some text) (Some rest) (Some next) line bytes ended reading fault reads taken same whole
    off =
    at_line rest next line reading reads taken
    (subst₂ (λ (e : Bool) (l : List ℕ). IsFaultOf (line_read reading e l) fault) whole same off)

-- the end
pub read_end : {A : Type 0} (log_of : A → ThreadLog) (all left : Option (List ℕ))
    (reading : Reading) (read : Result A LogFault) → ReadsInput all left reading → IsAtEnd left
    → MatchResult read (λ log. log_read reading.log ≡ Ok (log_of log))
    (λ fault. log_read reading.log ≡ Err fault)
    → IfSome all
    (λ text. MatchResult read (λ log. IsText (log_of log) text) (λ fault. IsNoLog fault text))
read_end log_of None left reading read reads end is = tt
read_end log_of (Some text) None reading read reads end is = absurd reads
read_end log_of (Some text) (Some rest) reading (Ok log) reads end is = record {
  reading = reading;
  reads = subst (λ (l : List ℕ). Reads text l reading) end reads;
  log_is = is;
}
read_end log_of (Some text) (Some rest) reading (Err fault) reads end is =
    at_end reading (subst (λ (l : List ℕ). Reads text l reading) end reads) is
