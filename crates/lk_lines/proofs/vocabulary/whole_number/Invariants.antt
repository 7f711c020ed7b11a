-- The digits left, after the number so far, write what the text writes.
use Rattle.std.proofs.Common.{◌≡◌, ◌≤◌, drop}
use Rattle.std.specs.Str.{all_ascii_digits}
use Rattle.lk_lines.specs.Digits.{value_from}
use Rattle.lk_lines.proofs.vocabulary.whole_number.Given as goal

abbrev pub invariant-loop-b : goal.invariant-loop-b
invariant-loop-b l = record {
  digits : all_ascii_digits (drop l.b-index l.text) ≡ all_ascii_digits l.text;
  value : value_from l.value (drop l.b-index l.text) ≡ value_from 0 l.text;
  small : l.value ≤ 18446744073709551615;
}
