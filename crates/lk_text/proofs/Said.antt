-- A text that was filled from the beginning is what fills it, part by part.
use Rattle.std.proofs.Common.{◌≡◌, [], ℕ, List, Option, None, Some}
use Rattle.std.proofs.Common.{◌++◌, ◌∙◌, ap, subst, sym}
use Rattle.lk_text.specs.Notes.{IsSaid, Says}
use Rattle.lk_text.specs.Texts.{Adds}
use Rattle.lk_text.specs.declared.report.Note.{Note}

adds_first : (said : List ℕ) (text : Option (List ℕ)) → Adds said (Some []) text
    → IsSaid said text
adds_first said None more = tt
adds_first said (Some bytes) more = more

pub said_from : (old new : List Note) (file : List ℕ) (line : ℕ) (said : List ℕ)
    (first text : Option (List ℕ)) → first ≡ Some [] → Adds said first text
    → Says old new file line (λ t. t ≡ text) → Says old new file line (IsSaid said)
said_from old new file line said first text empty more says = record {
  note = says.note;
  more = says.more;
  file_is = says.file_is;
  line_is = says.line_is;
  text_is =
      subst (IsSaid said) (sym says.text_is)
      (adds_first said text (subst (λ (o : Option (List ℕ)). Adds said o text) empty more));
}

pub said_then : (a b : List ℕ) (first mid new : Option (List ℕ)) → first ≡ Some []
    → Adds a first mid → Adds b mid new → IsSaid (a ++ b) new
said_then a b first mid None empty one two = tt
said_then a b first None (Some text) empty one two = absurd two
said_then a b first (Some before) (Some text) empty one two =
    two
    ∙ ap (λ l. l ++ b)
    (adds_first a (Some before) (subst (λ (o : Option (List ℕ)). Adds a o (Some before)) empty one))
