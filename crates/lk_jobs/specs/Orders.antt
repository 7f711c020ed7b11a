-- Definitions. The logs of a run have a fault as texts, or the search for their order ends. By this
-- the job ends.
use Rattle.std.specs.Prelude.{◌≡◌, ◌≢◌, ◌⊎◌, ◌<◌, ⊤, ℕ, List, [], true, Option, None, Some, IfSome}
use Rattle.std.specs.Prelude.{Result, Ok, Err}
use Rattle.lk_order.specs.Logs.{IsFaultOf, Reading, ThreadLog, line_read, log_read}
use Rattle.lk_order.specs.declared.log.reader.LogFault.{LogFault}
use Rattle.lk_order.specs.Orders.{Ordered, IsOrder, next_line}
use Rattle.lk_order.specs.Endings.{EndsAs}
use Rattle.lk_order.specs.declared.find.Ending.{Ending as SearchEnding}
use Rattle.lk_order.specs.declared.find.Ending.TheVariants as search
use Rattle.lk_text.specs.Lines.{IsFirstLine, kept_bytes}
use Rattle.lk_text.specs.declared.lines.Line.{Line}
use Rattle.lk_text.specs.Fates.{hangs}
use Rattle.lk_text.specs.declared.report.Ending.{Ending}
use Rattle.lk_text.specs.declared.report.Ending.TheVariants.{Accepted, Refused, Unread}
use Rattle.lk_text.specs.declared.report.Ending.TheVariants.{Faulty, Hangs}
use Rattle.lk_text.specs.declared.course.Fate.{Fate}
use Rattle.lk_jobs.specs.declared.order.search.BadLog.{BadLog}
use Rattle.lk_jobs.specs.declared.order.search.BadLog.TheVariants as bad
use Rattle.lk_jobs.specs.declared.order.search.Search.{Search}

-- the lines of a text are read as a log's, one after another, up to what is left of it
pub data Reads (text : List ℕ) : List ℕ → Reading → Type 0 where
  begins : Reads text text (record { log = None; number = 0 })
  goes_on : (rest next : List ℕ) (line : Line) (reading after : Reading)
      → Reads text rest reading → IsFirstLine rest next line
      → line_read reading line.whole (kept_bytes line) ≡ Ok after → Reads text next after

-- the text is this log
pub record IsText (log : ThreadLog) (text : List ℕ) : Type 0 where
  pub reading : Reading
  pub reads : Reads text [] reading
  pub log_is : log_read reading.log ≡ Ok log

-- the text has this fault: it has no header, or this line is the first that is not a log's
pub data IsNoLog (fault : LogFault) (text : List ℕ) : Type 0 where
  at_end : (reading : Reading) → Reads text [] reading → log_read reading.log ≡ Err fault
      → IsNoLog fault text
  at_line : (rest next : List ℕ) (line : Line) (reading : Reading) → Reads text rest reading
      → IsFirstLine rest next line
      → IsFaultOf (line_read reading line.whole (kept_bytes line)) fault → IsNoLog fault text

-- there is a file with this log, if it is known what is in it
abbrev pub IsInFile : {F : Type 0} → (F → Option (List ℕ)) → ThreadLog → Type 0
IsInFile {F} of_file log = (file : F) × IfSome (of_file file) (IsText log)

-- two logs of other locks, or of other numbers of threads or bits
pub record OfOtherLocks {F : Type 0} (of_file : F → Option (List ℕ)) : Type 0 where
  pub first : ThreadLog
  pub second : ThreadLog
  pub first_is : IsInFile of_file first
  pub second_is : IsInFile of_file second
  pub others : first.header ≢ second.header

-- there is a log that is so
abbrev pub HasLog : {F : Type 0} → (F → Option (List ℕ)) → (ThreadLog → Type 0) → Type 0
HasLog of_file P = (log : ThreadLog) × IsInFile of_file log × P log

-- what is wrong with logs is said of files that there are; of none thread 0's log is missing
abbrev pub IsBad : {F : Type 0} → (F → Option (List ℕ)) → BadLog → Type 0
IsBad of_file bad.Unread = ⊤
IsBad {F} of_file (bad.Fault fault) = (file : F) × IfSome (of_file file) (IsNoLog fault)
IsBad of_file bad.OtherLock = OfOtherLocks of_file
IsBad of_file (bad.OtherRun t) = HasLog of_file (λ log. log.thread ≡ t)
IsBad of_file (bad.SecondLog t) = HasLog of_file (λ log. log.thread ≡ t)
IsBad of_file (bad.Missing t) = (t ≡ 0) ⊎ HasLog of_file (λ log. t < log.header.threads)

-- all lines are placed, each thread has ended or polls in vain, and one at least polls
pub record IsHung (o : Ordered) (fates : List Fate) : Type 0 where
  pub all : (t : ℕ) → t < o.header.threads → next_line o t ≡ None
  pub polls : hangs o.header.threads fates ≡ true

-- an order that ends as the search says, and a run that hangs if it says so
pub record IsSearch (s : Search) : Type 0 where
  pub order : IsOrder s.found.order
  pub ends : EndsAs s.found.order s.found.ending
  pub hung : IfSome s.hung (IsHung s.found.order)

-- the logs are refused at a step that cannot be placed; a run whose steps are placed, all or up to
-- where a log was cut short, hangs or is accepted
abbrev pub ending_if : SearchEnding → Option (List Fate) → Ending
ending_if (search.Stuck s) fates = Refused
ending_if search.Whole (Some fates) = Hangs
ending_if search.Cut (Some fates) = Hangs
ending_if search.Whole None = Accepted
ending_if search.Cut None = Accepted

abbrev pub ending_of_search : Search → Ending
ending_of_search s = ending_if s.found.ending s.hung

-- a log could not be read, or is none of the run's
abbrev pub ending_of_bad : BadLog → Ending
ending_of_bad bad.Unread = Unread
ending_of_bad log = Faulty

abbrev pub ending_of_sought : Result Search BadLog → Ending
ending_of_sought (Err log) = ending_of_bad log
ending_of_sought (Ok s) = ending_of_search s

-- something is wrong with the logs in such files; or an order was looked for, and the answer is a
-- search's
abbrev pub IsSought : {F : Type 0} → (F → Option (List ℕ)) → Result Search BadLog → Type 0
IsSought of_file (Err log) = IsBad of_file log
IsSought of_file (Ok s) = IsSearch s
