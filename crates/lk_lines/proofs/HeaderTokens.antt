-- The parts expected in a line, token by token. It is a header exactly if nothing else is expected.
use Rattle.std.proofs.Common.{◌↔◌, ℕ, List, [], ◌∷◌, Option, Some, None, cond, ◌&&◌, is_some}
use Rattle.std.proofs.Common.{IsNone, Bool, true, false, Ok, Err, nat_lt, ◌^◌, codes, arith, refl}
use Rattle.std.specs.{Str.bytes_eq, Option.option_map, Option.option_zip}
use Rattle.lk_locks.specs.{declared.kinds.LockKind.LockKind, State.Shape}
use Rattle.lk_lines.specs.{Faults.WordsTooNarrow, Lines.tokens_of, Vocabulary.lock_named}
use Rattle.lk_lines.specs.{Vocabulary.number_of, declared.unreadable.Expected.Expected}
use Rattle.lk_lines.specs.Header.{header_of, header_of_shape, header_of_tokens}
use Rattle.lk_lines.specs.Header.{size_of_tokens, with_threads}
use Rattle.lk_lines.specs.Unreadable.{IsHeader, unreadable_from}
use Rattle.lk_lines.specs.declared.unreadable.Expected.TheVariants.{Lock, Count}

fits_or_not : (fits : Bool) (h : Shape) (number : ℕ)
    → IsHeader (cond fits (Ok h) (Err (WordsTooNarrow number)))
fits_or_not true h number = tt
fits_or_not false h number = tt

-- the number of threads is all that is left to go by
by_threads : (number : ℕ) (kind : LockKind) (bits : ℕ) (threads : Option ℕ) (u : ℕ × Expected)
    → IsNone (cond (is_some threads) None (Some u))
    ↔ IsHeader (with_threads number kind bits threads)
by_threads number kind bits (Some threads) u = (
  λ h. fits_or_not (nat_lt threads (2 ^ bits))
      (record { kind = kind; threads = threads; bits = bits }) number,
  λ h. refl,
)
by_threads number kind bits None u = (λ h. absurd (cc), λ h. absurd h)

by_bits : (number : ℕ) (kind : LockKind) (count : List ℕ) (bits : Bool) (width : Option ℕ)
    (a b d : ℕ × Expected)
    → IsNone (cond (is_some (number_of 1 64 count))
    (cond bits (cond (is_some width) None (Some d)) (Some b)) (Some a))
    ↔ IsHeader (header_of_shape number
    (option_zip (Some kind) (cond bits
    (option_map (λ b. (count, b)) width) None)))
by_bits number kind count true (Some width) a b d =
    by_threads number kind width (number_of 1 64 count) a
by_bits number kind count bits width a b d = (λ h. absurd (grind (arith)), λ h. absurd h)

size_is : (number column : ℕ) (kind : LockKind) (size : List (List ℕ))
    → IsNone (unreadable_from column Count size)
    ↔ IsHeader (header_of_shape number (option_zip (Some kind) (size_of_tokens size)))
size_is number column kind (count ∷ []) =
    by_threads number kind 64 (number_of 1 64 count) _
size_is number column kind (count ∷ bits ∷ width ∷ []) =
    by_bits number kind count (bytes_eq bits (codes "bits")) (number_of 2 64 width) _ _ _
size_is number column kind size = (λ h. absurd (grind (arith)), λ h. absurd h)

-- what comes after the first three tokens decides, if these are as they have to be
by_rest : (number : ℕ) (lock threads : Bool) (kind : Option LockKind) (size : Option (List ℕ × ℕ))
    (rest : Option (ℕ × Expected)) (a b d : ℕ × Expected)
    → ((k : LockKind) → IsNone rest ↔ IsHeader (header_of_shape number (option_zip (Some k) size)))
    → IsNone (cond lock (cond (is_some kind) (cond threads rest (Some d)) (Some b)) (Some a))
    ↔ IsHeader (header_of_shape number (cond (lock && threads) (option_zip kind size) None))
by_rest number true true (Some kind) size rest a b d same = same kind
by_rest number lock threads kind size rest a b d same = (λ h. absurd (grind (arith)), λ h. absurd h)

tokens_are : (number : ℕ) (tokens : List (List ℕ)) → IsNone (unreadable_from 1 Lock tokens)
    ↔ IsHeader (header_of_shape number (header_of_tokens tokens))
tokens_are number (lock ∷ name ∷ threads ∷ size) =
    by_rest number (bytes_eq lock (codes "lock")) (bytes_eq threads (codes "threads"))
    (lock_named name) (size_of_tokens size) _ _ _ _ (λ kind. size_is number _ kind size)
tokens_are number tokens = (λ h. absurd (grind (arith)), λ h. absurd h)

pub headers_are_readable : (line : List ℕ) (number : ℕ)
    → IsNone (unreadable_from 1 Lock (tokens_of line)) ↔ IsHeader (header_of number line)
unfolding header_of
headers_are_readable line number = tokens_are number (tokens_of line)
