-- Lines that are skipped, before others.
use Rattle.std.proofs.Common.{◌≡◌, ℕ, ◌+◌, List, [], ◌∷◌, ◌++◌, length, true, ◌==◌, refl}
use Rattle.std.proofs.Common.{sym, ap, subst, ◌∙◌, arith, append_assoc, length-append}
use Rattle.std.proofs.{lemmas.List.Folds.list_all-append, lemmas.Bool.eqb-true}
use Rattle.lk_lines.specs.Lines.{Numbered, SkipsTo, is_skipped, lines_of}

pub no_line : (text : List ℕ) → (length text == 0) ≡ true → lines_of text ≡ []
unfolding lines_of
no_line [] none = refl
no_line (b ∷ bs) none = absurd (omega (arith, eqb-true (length (b ∷ bs)) 0 none))

pub skips_none : (number : ℕ) (lines : List (List ℕ)) → SkipsTo number lines number lines
skips_none number lines =
    record { skipped = []; parts = refl; all = refl; counted = omega arith }

pub skips_more : (number next : ℕ) (lines others rest : List (List ℕ)) (line : List ℕ)
    → SkipsTo number lines next others → others ≡ line ∷ rest → is_skipped line ≡ true
    → SkipsTo number lines (next + 1) rest
skips_more number next lines others rest line s first is = record {
  skipped = s.skipped ++ line ∷ [];
  parts = s.parts ∙ ap (λ os. s.skipped ++ os) first
      ∙ sym (append_assoc s.skipped (line ∷ []) rest);
  all = rw (list_all-append is_skipped s.skipped (line ∷ []), s.all, is) refl;
  counted = omega (arith, s.counted, length-append s.skipped (line ∷ []));
}

pub skips_same : (now view : Numbered) → view ≡ now → (next : ℕ) (others same : List (List ℕ))
    → SkipsTo view.number view.lines next others → others ≡ same
    → SkipsTo now.number now.lines next same
skips_same now view is next others same s e =
    subst (λ (p : Numbered). SkipsTo p.number p.lines next same) is
    (subst (SkipsTo view.number view.lines next) e s)
