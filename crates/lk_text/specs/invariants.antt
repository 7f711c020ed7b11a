-- Invariants: the part of an input that was taken so far, and its lines. No contract that the crate
-- exports rests on it.
use Rattle.std.specs.Prelude.{◌≡◌, ℕ, ◌<◌, List, [], ◌++◌, length, take, Bool, true, false}
use Rattle.std.specs.Prelude.{◌||◌, Option, IfSome, IsSomeAnd}
use Rattle.std.specs.List.{All}
use Rattle.std.specs.Io.KnownBytes.{Consumes}
use Rattle.lk_lines.specs.Lines.{is_line_feed, lines_of}
use Rattle.lk_trace.specs.Checks.{Checked}
use Rattle.lk_trace.specs.declared.trace.Event.{Event}
use Rattle.lk_trace.specs.declared.trace.Event.TheVariants.{Differs, Fault}
use Rattle.lk_text.specs.Lines.{kept_bytes, with_end}
use Rattle.lk_text.specs.Fates.{hangs_after}
use Rattle.lk_text.specs.Verdicts.{counts_after, counts_in, if_hangs, verdict, verdict_from}
use Rattle.lk_text.specs.Verdicts.{verdict_in, verdict_of}
use Rattle.lk_text.specs.declared.course.Fate.{Fate}
use Rattle.lk_text.specs.declared.lines.Line.{Line}
use Rattle.lk_text.specs.declared.report.Ending.TheVariants.{Faulty, Refused}
use Rattle.lk_text.specs.declared.report.Report.{Report}
use Rattle.lk_text.specs.declared.summary.Summary.{Summary}

-- none of the bytes is a line feed
abbrev pub IsFlat : List ℕ → Type 0
IsFlat bytes = All (λ b. is_line_feed b ≡ false) bytes

-- what was read ahead was taken, up to the line's end or whole
pub record TakesPart (ended : Bool) (old new : Option (List ℕ)) (before after : Line) : Type 0 where
  pub bytes : List ℕ
  pub flat : IsFlat bytes
  pub taken : Consumes old new (with_end ended bytes)
  pub kept_is : kept_bytes after ≡ take 97 (kept_bytes before ++ bytes)
  pub whole_is : after.whole ≡ (ended || before.whole)
  pub some : ended ≡ false → 0 < length bytes

-- the bytes of a line so far
pub record Taken (old new : Option (List ℕ)) (line : Line) (some : Bool) : Type 0 where
  pub bytes : List ℕ
  pub flat : IsFlat bytes
  pub taken : Consumes old new bytes
  pub kept_is : kept_bytes line ≡ take 97 bytes
  pub whole_is : line.whole ≡ false
  pub none : some ≡ false → bytes ≡ []
  pub some_is : some ≡ true → 0 < length bytes

-- a line that ends the text is reported, and no other line ends it
abbrev pub Follows : ℕ → Event → Bool → Report → Type 0
Follows number (Differs line difference) on report =
    (on ≡ false) × (verdict_in report ≡ verdict Refused number)
Follows number (Fault fault) on report = (on ≡ false) × (verdict_in report ≡ verdict Faulty number)
Follows number event on report = on ≡ true

-- the rest of a text ends as the text does
pub record EndsAs (text rest : List ℕ) (number : ℕ) (reading : Option Checked) (fates : List Fate)
    (counts : Summary) : Type 0 where
  pub verdict_is :
      verdict_of text
      ≡ if_hangs (hangs_after reading fates (lines_of rest))
      (verdict_from number reading (lines_of rest))
  pub counts_are : counts_in text ≡ counts_after reading counts (lines_of rest)

abbrev pub ReadsText : Option (List ℕ) → Option (List ℕ) → ℕ → Option Checked → List Fate
    → Summary → Type 0
ReadsText all left number reading fates counts =
    IfSome all (λ text. IsSomeAnd left (λ rest. EndsAs text rest number reading fates counts))
