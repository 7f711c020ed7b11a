-- The tokens of a line.
use Rattle.std.proofs.Common.{◌≡◌, ℕ, List, [], ◌∷◌, Option, Some, None, refl, sym, ap, ◌∙◌}
use Rattle.std.proofs.Common.{arith, inl, inr, length, ◌<◌}
use Rattle.std.specs.{Prelude.find, Str.bytes_eq, Option.option_zip}
use Rattle.std.specs.List.{slice_split, join_with_byte}
use Rattle.std.proofs.{lemmas.List.Splits.join_with_byte-slice_split, lemmas.Bool.cases_Bool}
use Rattle.std.proofs.{lemmas.Bool.cond-false, lemmas.Slice.Eq.bytes_eq-Decides}
use Rattle.lk_locks.specs.{declared.kinds.Move.Move, declared.kinds.Op.TheVariants.Acquire}
use Rattle.lk_locks.specs.declared.kinds.Move.TheVariants.{Call, Step}
use Rattle.lk_locks.specs.declared.kinds.StepKind.TheVariants.{Read}
use Rattle.lk_lines.proofs.Cuts.{has_piece}
use Rattle.lk_lines.specs.Header.{size_of_tokens}
use Rattle.lk_lines.specs.Lines.{is_space, move_of, move_of_tokens}
use Rattle.lk_lines.specs.Vocabulary.{every_move, move_named, move_name, number_of}

-- a line that is not cut
pub whole_line : (line : List ℕ) → slice_split is_space line ≡ line ∷ [] → move_of line ≡ None
unfolding move_of
whole_line line cut = ap move_of_tokens cut

-- a move's token has no space in it
token_whole : (m : Move) → slice_split is_space (move_name m) ≡ move_name m ∷ []
token_whole (Call Acquire) = refl
token_whole (Step Read) = refl
token_whole m = refl

named_whole : (token : List ℕ) (m : Move) (ms : List Move)
    → find (λ n. bytes_eq token (move_name n)) ms ≡ Some m → slice_split is_space token ≡ token ∷ []
named_whole token m [] named = cc
named_whole token m (n ∷ ms) named = elim (cases_Bool (bytes_eq token (move_name n))) [
  | inl same ↦ rw ((bytes_eq-Decides token (move_name n)).0 same) (token_whole n)
  | inr other ↦ named_whole token m ms (sym (cond-false _ _ _ other) ∙ named)
]

-- so a token with a space in it names none
no_move : (number : Option ℕ) (move : Option Move) (token first next : List ℕ)
    (rest : List (List ℕ)) → move_named token ≡ move
    → slice_split is_space token ≡ first ∷ next ∷ rest → option_zip number move ≡ None
unfolding move_named
no_move None move token first next rest named cut = refl
no_move (Some n) None token first next rest named cut = refl
no_move (Some n) (Some m) token first next rest named cut =
    let whole = named_whole token m every_move named in cc

tokens_read : (number token : List ℕ) (pieces : List (List ℕ)) → slice_split is_space token ≡ pieces
    → move_of_tokens (number ∷ pieces) ≡ option_zip (number_of 0 255 number) (move_named token)
tokens_read number token [] cut = absurd (omega (arith, has_piece is_space token, ap length cut))
tokens_read number token (piece ∷ []) cut =
    ap (λ (w : List ℕ). option_zip (number_of 0 255 number) (move_named w))
    (ap (join_with_byte 32) (sym cut) ∙ join_with_byte-slice_split 32 token)
tokens_read number token (piece ∷ next ∷ pieces) cut =
    sym (no_move (number_of 0 255 number) (move_named token) token piece next pieces refl cut)

-- a line that is cut once at least is a thread's number and a token
pub move_read : (line number token : List ℕ) (n : Option ℕ) (m : Option Move)
    → slice_split is_space line ≡ number ∷ slice_split is_space token
    → number_of 0 255 number ≡ n → move_named token ≡ m → move_of line ≡ option_zip n m
unfolding move_of
move_read line number token n m cut here named =
    rw (← here, ← named) (ap move_of_tokens cut ∙ tokens_read number token _ refl)

-- a token after the number of bits
pub more_tokens : (count bits number : List ℕ) (tokens : List (List ℕ)) → 0 < length tokens
    → size_of_tokens (count ∷ bits ∷ number ∷ tokens) ≡ None
more_tokens count bits number [] some = absurd (omega arith)
more_tokens count bits number (token ∷ tokens) some = refl
