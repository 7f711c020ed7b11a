-- The text written so far and the rest of the sentence are the sentence.
use Rattle.std.proofs.Common.{◌≡◌, ◌++◌, length, string_bytes, IsUtf8}
use Rattle.lk_text.specs.Filled.{sentence_with, texts_of}
use Rattle.lk_text.proofs.fills.fill.Given as goal

abbrev pub invariant-places : goal.invariant-places
invariant-places l = record {
  written :
      string_bytes l.text ++ sentence_with (texts_of l.places) l.rest
      ≡ string_bytes l.initial.text ++ sentence_with (texts_of l.places) l.fn.sentence;
  utf8 : IsUtf8 l.rest;
}

abbrev pub decreases-places : goal.decreases-places
decreases-places l = length l.rest
