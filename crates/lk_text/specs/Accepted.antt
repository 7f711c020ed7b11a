-- Definitions. An accepted trace, line by line. It rests on the definition of a line that agrees
-- with the lock.
use Rattle.std.specs.Prelude.{◌≡◌, ◌⊎◌, ℕ, List, [], ◌∷◌, true, false, Some, Ok}
use Rattle.lk_lines.specs.Lines.{is_skipped}
use Rattle.lk_locks.specs.State.{Shape}
use Rattle.lk_trace.specs.Agreement.{Agrees}
use Rattle.lk_trace.specs.Checks.{Checked, lock_with}
use Rattle.lk_trace.specs.Lines.{short_line_of}
use Rattle.lk_trace.specs.Traces.{read_header_of}
use Rattle.lk_trace.specs.Checks.{new_lock}
use Rattle.lk_trace.specs.declared.line.TraceLine.{TraceLine}

-- the line is a move that the machine accepts and of which each part that is given is the machine's
pub record IsMove (c : Checked) (line : List ℕ) (Behind : Checked → Type 0) : Type 0 where
  pub kept : is_skipped line ≡ false
  pub move : TraceLine
  pub read : short_line_of line ≡ Some move
  pub agrees : Agrees c move
  pub behind : Behind (lock_with c move)

-- each line is skipped or such a move
abbrev pub AreMoves : Checked → List (List ℕ) → Type 0
AreMoves c [] = Unit {0}
AreMoves c (line ∷ lines) =
    ((is_skipped line ≡ true) × AreMoves c lines) ⊎ IsMove c line (λ next. AreMoves next lines)

-- the line is the header
pub record IsHeader (line : List ℕ) (Behind : Checked → Type 0) : Type 0 where
  pub kept : is_skipped line ≡ false
  pub header : Shape
  pub read : read_header_of line ≡ Ok header
  pub behind : Behind (new_lock header)

-- the first line that is not skipped is a header, and each after it such a move of its lock
abbrev pub IsTrace : List (List ℕ) → Type 0
IsTrace [] = ⊥
IsTrace (line ∷ lines) =
    ((is_skipped line ≡ true) × IsTrace lines) ⊎ IsHeader line (λ c. AreMoves c lines)
