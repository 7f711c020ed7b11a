-- Definitions. The log of one thread, and how it is read line by line.
use Rattle.std.specs.Prelude.{◌≡◌, ◌<◌, ◌+◌, ◌==◌, ◌++◌, ◌∷◌, [], ℕ, List, length, drop}
use Rattle.std.specs.Prelude.{Bool, Option, Some, None, Result, Ok, Err, is_some, nat_eq, nat_lt}
use Rattle.std.specs.Prelude.{codes, if◌then◌else◌, ok_or, option_map}
use Rattle.std.specs.List.{All, starts_with}
use Rattle.std.specs.Option.{option_and_then}
use Rattle.std.specs.Result.{result_ok}
use Rattle.std.specs.Str.{bytes_eq}
use Rattle.lk_lines.specs.Lines.{is_skipped}
use Rattle.lk_lines.specs.Digits.{whole_number}
use Rattle.lk_lines.specs.Vocabulary.{number_of}
use Rattle.lk_locks.specs.State.{Shape}
use Rattle.lk_trace.specs.Lines.{short_log_line_of}
use Rattle.lk_trace.specs.Traces.{read_header_of}
use Rattle.lk_trace.specs.declared.line.TraceLine.{TraceLine}
use Rattle.lk_order.specs.declared.log.reader.LogFault.{LogFault}
use Rattle.lk_order.specs.declared.log.reader.LogFault.TheVariants as faults

pub record ThreadLog : Type 0 where
  pub header : Shape
  pub thread : ℕ
  pub moves : List TraceLine
  pub lines : List ℕ
  pub dropped : Option ℕ

-- the lock has this thread, and each move is the thread's own
pub record IsSound (threads thread : ℕ) (moves : List TraceLine) : Type 0 where
  pub has : thread < threads
  pub own : All (λ line. line.thread ≡ thread) moves

-- a log of which so many lines were read: none of it before its header
pub record Reading : Type 0 where
  pub log : Option ThreadLog
  pub number : ℕ

-- the text before its last space, and the text after it
abbrev pub with_first : ℕ → List ℕ → Option (List ℕ × List ℕ) → Option (List ℕ × List ℕ)
with_first b bs (Some cut) = Some (b ∷ cut.0, cut.1)
with_first b bs None = if b == 32 then Some ([], bs) else None

unfoldable pub cut_last : List ℕ → Option (List ℕ × List ℕ)
cut_last [] = None
cut_last (b ∷ bs) = with_first b bs (cut_last bs)

infixl 10 ◌>>=◌
abbrev pub ◌>>=◌ : {A B : Type 0} → Option A → (A → Option B) → Option B
part >>= next = option_and_then next part

-- the header of a log, of at most 96 bytes: a trace's header, and `thread T` after it
abbrev pub log_header_of : List ℕ → Option (Shape × ℕ)
log_header_of line = do
  last ← if nat_lt 96 (length line) then None else cut_last line
  thread ← number_of 0 63 last.1
  front ← cut_last last.0
  header ← if bytes_eq front.1 (codes "thread") then result_ok (read_header_of front.0) else None
  if nat_lt thread header.threads then Some (header, thread) else None

-- how many moves were dropped, if the line is the last of a log
abbrev pub dropped_of : List ℕ → Option ℕ
dropped_of line =
    if starts_with nat_eq line (codes "dropped ") then whole_number (drop 8 line) else None

-- a log without moves
abbrev pub empty_log : Shape × ℕ → ThreadLog
empty_log read =
    record { header = read.0; thread = read.1; moves = []; lines = []; dropped = None }

abbrev pub with_move : ThreadLog → ℕ → Option TraceLine → Result ThreadLog LogFault
with_move log number (Some line) =
    Ok (record log { moves = log.moves ++ line ∷ []; lines = log.lines ++ number ∷ [] })
with_move log number None = Err faults.BadMove

-- a line after the header that does not say how many were dropped: a move whose line has no end
-- was cut off, and is not looked at
abbrev pub with_dropped : ThreadLog → ℕ → Bool → List ℕ → Option ℕ → Result ThreadLog LogFault
with_dropped log number ended line (Some count) = Ok (record log { dropped = Some count })
with_dropped log number ended line None =
    if ended then with_move log number (short_log_line_of log.thread line) else Ok log

abbrev pub after_header : ThreadLog → ℕ → Bool → List ℕ → Result ThreadLog LogFault
after_header log number ended line =
    if is_some log.dropped
    then Err faults.AfterTheEnd
    else with_dropped log number ended line (dropped_of line)

abbrev pub log_with_line : Option ThreadLog → ℕ → Bool → List ℕ → Result ThreadLog LogFault
log_with_line None number ended line =
    ok_or (option_map empty_log (log_header_of line)) faults.BadHeader
log_with_line (Some log) number ended line = after_header log number ended line

abbrev pub now_read : ℕ → Result ThreadLog LogFault → Result Reading LogFault
now_read number (Ok log) = Ok (record { log = Some log; number = number })
now_read number (Err fault) = Err fault

-- the next line of a log, which ends in a line feed or not
abbrev pub line_read : Reading → Bool → List ℕ → Result Reading LogFault
line_read reading ended line =
    if nat_lt reading.number 4294967294
    then (if is_skipped line
    then Ok (record reading { number = reading.number + 1 })
    else now_read (reading.number + 1) (log_with_line reading.log (reading.number + 1) ended line))
    else Err faults.TooLong

-- the fault is the text's, or memory was refused
abbrev pub IsFaultOf : {A : Type 0} → Result A LogFault → LogFault → Type 0
IsFaultOf read faults.OutOfMemory = Unit {0}
IsFaultOf read fault = read ≡ Err fault

abbrev pub log_read : Option ThreadLog → Result ThreadLog LogFault
log_read log = ok_or log faults.NoHeader
