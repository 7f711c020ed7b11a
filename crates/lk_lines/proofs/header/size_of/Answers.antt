-- A token after the number of bits is one too many.
use Rattle.std.proofs.Common.{List, ℕ, ap, ◌∙◌, ◌∷◌}
use Rattle.lk_lines.proofs.Cuts.{has_piece}
use Rattle.lk_lines.proofs.Pieces.{more_tokens}
use Rattle.lk_lines.specs.{Lines.tokens_of, Lines.is_space, Header.size_of_tokens}
use Rattle.lk_lines.proofs.header.size_of.Goals as goal

pub returns-in-Some-cut_token-clause-size : goal.returns-in-Some-cut_token-clause-size
returns-in-Some-cut_token-clause-size c =
    let after : List ℕ = c.in-Some-cut_token.field-0.1.now in
    ap size_of_tokens
    (c.in-Some.ensures ∙ ap (λ tokens. c.in-Some.count.now ∷ tokens) (c.in_ok-token.ensures
    ∙ ap (λ tokens. c.in_ok-token.token.now ∷ tokens) c.in-Some-cut_token.ensures))
    ∙ more_tokens c.in-Some.count.now c.in_ok-token.token.now c.in-Some-cut_token.field-0.0.now
    (tokens_of after) (has_piece is_space after)
