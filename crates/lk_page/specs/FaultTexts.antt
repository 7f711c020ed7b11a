-- Definitions. The text of a fault's number.
use Rattle.std.specs.Prelude.{ℕ, ◌==◌, List, codes, if◌then◌else◌}
use Rattle.lk_locks.specs.Refusals.{text_of}
use Rattle.lk_locks.specs.declared.kinds.Refusal.TheVariants as refused
use Rattle.lk_locks.specs.declared.kinds.StepKind.TheVariants.{Read}

abbrev pub text_of_number : ℕ → List ℕ
text_of_number number =
    if number == 0 then codes "accepted"
    else (if number == 1 then text_of refused.NoSuchThread
    else (if number == 2 then text_of refused.WrongLock
    else (if number == 3 then text_of refused.Busy
    else (if number == 4 then text_of refused.NotHolder
    else (if number == 5 then text_of refused.AlreadyHolds
    else (if number == 6 then text_of refused.NoCall
    else (if number == 7 then text_of (refused.WrongStep Read)
    else (if number == 8 then codes "OtherWord: the lock's step is on another word"
    else (if number == 9 then codes "FoundOther: the lock has another value in the word"
    else (if number == 10 then codes "LeftOther: the lock leaves another value in the word"
    else (if number == 11 then codes "WroteOther: the lock's compare-and-swap ends otherwise"
    else (if number
    == 12 then codes "CountNotAbove: the section's count is not above those before it"
    else (if number == 13 then codes "OtherOutcome: something else comes of the lock's step"
    else (if number == 16 then codes "NoHeader: there is no header"
    else (if number == 17 then codes "BadHeader: not a header"
    else (if number == 18 then codes "BadThreads: not a number of threads"
    else (if number == 19 then codes "WordsTooNarrow: words too narrow for the threads"
    else (if number == 20 then codes "BadLine: not a move"
    else codes "no fault has this number"))))))))))))))))))
