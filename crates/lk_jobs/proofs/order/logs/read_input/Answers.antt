-- Each line is read, and the last one read or the end says what the log is.
use Rattle.std.proofs.Common.{ℕ, Bool, Ok, Option, ap}
use Rattle.lk_order.specs.Logs.{ThreadLog}
use Rattle.lk_jobs.proofs.LogReading.{read_end, read_none, read_off, read_on}
use Rattle.lk_jobs.proofs.order.logs.read_input.Goals as goal

pub loop-number-init : goal.loop-number-init
loop-number-init g c = read_none _ _ _ c.in_ok-lines.ensures c.new-reader.ensures

pub returns-in-Ok-false : goal.returns-in-Ok-false
returns-in-Ok-false g c =
    read_end {A = ThreadLog × Option ℕ × Bool} (λ log. log.0) _ _ _ _ c.loop-number.invariant
    (c.in-Ok-false.ensures.end (ap Ok c.in-Ok-false.field-0-test)) c.whole.ensures

pub returns-in-Err-line : goal.returns-in-Err-line
returns-in-Err-line g c =
    read_off _ _ _ _ _ _ _ _ c.loop-number.invariant
    (c.in-Ok-true.ensures.line (ap Ok c.in-Ok-true.field-0-test)) c.bytes-in-loop-number-2.ensures
    c.is_whole.ensures c.in-Err-line.ensures.err

pub loop-number-preserved : goal.loop-number-preserved
loop-number-preserved g c =
    read_on _ _ _ _ _ _ _ _ c.loop-number.invariant
    (c.in-Ok-true.ensures.line (ap Ok c.in-Ok-true.field-0-test)) c.bytes-in-loop-number-2.ensures
    c.is_whole.ensures c.in-Ok.ensures.ok
