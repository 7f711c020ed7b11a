-- Definitions: the first place of a line at which something else is expected.
use Rattle.std.specs.Prelude.{ℕ, ◌+◌, List, [], ◌∷◌, Option, Some, None, Bool, true, false, is_some}
use Rattle.std.specs.Prelude.{if◌then◌else◌, codes, length, Result, Ok, Err}
use Rattle.std.specs.Str.{bytes_eq}
use Rattle.lk_lines.specs.Faults.{Fault, WordsTooNarrow}
use Rattle.lk_locks.specs.State.{Shape}
use Rattle.lk_lines.specs.Vocabulary.{lock_named, move_named, number_of}
use Rattle.lk_lines.specs.declared.unreadable.Expected.{Expected}
use Rattle.lk_lines.specs.declared.unreadable.Expected.TheVariants.{Threads, Count, Thread, Action}
use Rattle.lk_lines.specs.declared.unreadable.Expected.TheVariants.{Lock, Name, Bits, Width, End}

-- whether a token may be here, and what is expected after it
abbrev pub next_of : Expected → List ℕ → Bool × Expected
next_of Lock token = (bytes_eq token (codes "lock"), Name)
next_of Name token = (is_some (lock_named token), Threads)
next_of Threads token = (bytes_eq token (codes "threads"), Count)
next_of Count token = (is_some (number_of 1 64 token), Bits)
next_of Bits token = (bytes_eq token (codes "bits"), Width)
next_of Width token = (is_some (number_of 2 64 token), End)
next_of Thread token = (is_some (number_of 0 255 token), Action)
next_of Action token = (is_some (move_named token), End)
next_of End token = (false, End)

unfoldable pub after_token : Expected → List ℕ → Option Expected
after_token expected token =
    if (next_of expected token).0 then Some (next_of expected token).1 else None

-- a header ends after its threads or its bits, and a move after its token
abbrev pub may_end : Expected → Bool
may_end Bits = true
may_end End = true
may_end _ = false

-- It is a header, but that its words may be too narrow for its threads.
abbrev pub IsHeader : Result Shape Fault → Type 0
IsHeader (Ok header) = Unit {0}
IsHeader (Err (WordsTooNarrow number)) = Unit {0}
IsHeader (Err fault) = ⊥

-- The column and what is due there: at the end of a line, or at a token that may not be here. Each
-- token is one space from the next.
abbrev pub unreadable_from : ℕ → Expected → List (List ℕ) → Option (ℕ × Expected)
unreadable_from column expected [] = if may_end expected then None else Some (column, expected)
unreadable_from column expected (token ∷ tokens) =
    if (next_of expected token).0
    then unreadable_from (column + length token + 1) (next_of expected token).1 tokens
    else Some (column, expected)
