-- Definitions. A run as the text of a schedule.
use Rattle.std.specs.Prelude.{ℕ, ◌++◌, List, [], codes, nat_lt, if◌then◌else◌}
use Rattle.std.specs.Fmt.{decimal}
use Rattle.std.specs.List.{flat_map}
use Rattle.lk_locks.specs.declared.kinds.LockKind.{LockKind}
use Rattle.lk_lines.specs.Vocabulary.{lock_name, move_name}
use Rattle.lk_search.specs.Runs.{is_look}
use Rattle.lk_search.specs.declared.moves.RunMove.{RunMove}

-- words of 64 bits are not mentioned
abbrev pub bits_part : ℕ → List ℕ
bits_part bits = if nat_lt bits 64 then codes " bits " ++ decimal bits else []

abbrev pub header_line : LockKind → ℕ → ℕ → List ℕ
header_line kind threads bits =
    codes "lock " ++ lock_name kind ++ codes " threads " ++ decimal threads ++ bits_part bits
    ++ codes "\n"

-- a look is no move of a schedule
abbrev pub move_line : RunMove → List ℕ
move_line m =
    if is_look m then [] else decimal m.thread ++ codes " " ++ move_name m.action ++ codes "\n"

-- a header, and a line for each move
abbrev pub schedule_of : LockKind → ℕ → ℕ → List RunMove → List ℕ
schedule_of kind threads bits ms = header_line kind threads bits ++ flat_map move_line ms

-- the beginning of a schedule of a tour
abbrev pub remark : ℕ → ℕ → ℕ → List ℕ
remark number count rounds =
    codes "# Run " ++ (decimal number ++ (codes " of " ++ (decimal count
    ++ (codes ", which together take every transition. Rounds: "
    ++ (decimal rounds ++ codes "\n")))))
