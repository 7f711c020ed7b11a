-- The parts expected in a line, token by token. It is a move exactly if nothing else is expected.
use Rattle.std.proofs.Common.{◌≡◌, ◌↔◌, ℕ, ◌+◌, List, [], ◌∷◌, Option, Some, None, cond, length}
use Rattle.std.proofs.Common.{is_some, IsNone, IsSome, Bool, true, false, ap, arith, refl, ◌∙◌}
use Rattle.lk_locks.specs.declared.kinds.Move.{Move}
use Rattle.std.specs.Option.{option_map_or, option_zip}
use Rattle.lk_lines.specs.Lines.{move_of, move_of_tokens, tokens_of}
use Rattle.lk_lines.specs.Unreadable.{after_token, next_of, unreadable_from}
use Rattle.lk_lines.specs.Vocabulary.{move_named, number_of}
use Rattle.lk_lines.specs.declared.unreadable.Expected.{Expected}
use Rattle.lk_lines.specs.declared.unreadable.Expected.TheVariants.{Thread}

-- ---- one token

at_token : (b : Bool) (next : Expected) (from : Expected → Option (ℕ × Expected))
    (stop : ℕ × Expected)
    → cond b (from next) (Some stop) ≡ option_map_or from (cond b (Some next) None) (Some stop)
at_token true next from stop = refl
at_token false next from stop = refl

pub walks : (column : ℕ) (expected : Expected) (line token : List ℕ) (tokens : List (List ℕ))
    (after : Option Expected) → tokens_of line ≡ token ∷ tokens → after_token expected token ≡ after
    → unreadable_from column expected (tokens_of line)
    ≡ option_map_or (λ next. unreadable_from (column + length token + 1) next tokens) after
    (Some (column, expected))
unfolding after_token
walks column expected line token tokens after cut is =
    ap (unreadable_from column expected) cut
    ∙ at_token (next_of expected token).0 (next_of expected token).1 _ _
    ∙ ap (λ a. option_map_or (λ next. unreadable_from (column + length token + 1) next tokens) a
    (Some (column, expected))) is

-- ---- the tokens of a move

two_tokens : (n : Option ℕ) (m : Option Move) (a b : ℕ × Expected)
    → IsNone (cond (is_some n) (cond (is_some m) None (Some b)) (Some a)) ↔ IsSome (option_zip n m)
two_tokens (Some n) (Some m) a b = (λ h. refl, λ h. refl)
two_tokens n m a b = (λ h. absurd (cc), λ h. absurd (cc))

tokens_are : (tokens : List (List ℕ))
    → IsNone (unreadable_from 1 Thread tokens) ↔ IsSome (move_of_tokens tokens)
tokens_are (thread ∷ token ∷ []) = two_tokens (number_of 0 255 thread) (move_named token) _ _
tokens_are tokens = (λ h. absurd (grind (arith)), λ h. absurd (cc))

pub moves_are_readable : (line : List ℕ)
    → IsNone (unreadable_from 1 Thread (tokens_of line)) ↔ IsSome (move_of line)
unfolding move_of
moves_are_readable line = tokens_are (tokens_of line)
