-- Definitions: the first line of a schedule text, `lock NAME threads N` or `lock NAME threads N
-- bits B`.
use Rattle.std.specs.Prelude.{ℕ, ◌^◌, List, [], ◌∷◌, Option, Some, None, if◌then◌else◌, ◌&&◌}
use Rattle.std.specs.Prelude.{nat_lt, codes, Result, Ok, Err}
use Rattle.std.specs.Option.{option_map, option_zip}
use Rattle.std.specs.Str.{bytes_eq}
use Rattle.lk_locks.specs.State.{Shape}
use Rattle.lk_locks.specs.declared.kinds.LockKind.{LockKind}
use Rattle.lk_lines.specs.Lines.{tokens_of}
use Rattle.lk_lines.specs.Vocabulary.{number_of, lock_named}
use Rattle.lk_lines.specs.Faults.{Fault, BadHeader, BadThreads, WordsTooNarrow}

-- the token that counts the threads, and the bits of a lock's words: `N` or `N bits B`. Without B
-- the words have 64 bits
abbrev pub size_of_tokens : List (List ℕ) → Option (List ℕ × ℕ)
size_of_tokens (count ∷ []) = Some (count, 64)
size_of_tokens (count ∷ token ∷ number ∷ []) =
    if bytes_eq token (codes "bits") then option_map (λ bits. (count, bits)) (number_of 2 64 number)
    else None
size_of_tokens _ = None

-- a lock and its size: all but the number of threads
abbrev pub header_of_tokens : List (List ℕ) → Option (LockKind × (List ℕ × ℕ))
header_of_tokens (lock ∷ name ∷ threads ∷ size) =
    if bytes_eq lock (codes "lock") && bytes_eq threads (codes "threads")
    then option_zip (lock_named name) (size_of_tokens size) else None
header_of_tokens _ = None

abbrev pub with_threads : ℕ → LockKind → ℕ → Option ℕ → Result Shape Fault
with_threads number kind bits None = Err (BadThreads number)
with_threads number kind bits (Some threads) =
    if nat_lt threads (2 ^ bits) then Ok (record { kind = kind; threads = threads; bits = bits })
    else Err (WordsTooNarrow number)

abbrev pub header_of_shape : ℕ → Option (LockKind × (List ℕ × ℕ)) → Result Shape Fault
header_of_shape number None = Err (BadHeader number)
header_of_shape number (Some (kind, (count, bits))) =
    with_threads number kind bits (number_of 1 64 count)

-- the header that line `number` is
unfoldable pub header_of : ℕ → List ℕ → Result Shape Fault
header_of number line = header_of_shape number (header_of_tokens (tokens_of line))
