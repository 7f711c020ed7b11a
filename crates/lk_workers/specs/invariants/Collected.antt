-- Invariants. The results of workers that draw the numbers of texts.
use Rattle.std.specs.Prelude.{Vec, slice_set, ◌∷◌, ◌≡◌, ℕ, ◌+◌, ◌*◌, ◌<◌, ◌≤◌, List}
use Rattle.std.specs.Prelude.{[], map, length, filter, nat_lt, slice_index_or}
use Rattle.std.specs.declared.alloc.Global.{Global}
use Rattle.lk_replay.specs.Report.{report_text}
use Rattle.lk_workers.specs.Counting.{occurrences}
use Rattle.lk_workers.specs.Drawing.{Counter, Drawer, IsSeatOf}

-- the bytes of texts, and of reports with the numbers of their texts
abbrev pub bytes_of : List (Vec ℕ Global) → List (List ℕ)
bytes_of texts = map (λ t. t.items) texts

abbrev pub numbered_bytes : List (ℕ × Vec ℕ Global) → List (ℕ × List ℕ)
numbered_bytes reports = map (λ p. (p.0, p.1.items)) reports

-- the report of text k
abbrev pub report_at : List (List ℕ) → ℕ → List ℕ
report_at texts k = report_text (slice_index_or texts k [])

-- the numbers of texts among the numbers drawn, each with its report
abbrev pub reports_of : List (List ℕ) → List ℕ → List (ℕ × List ℕ)
reports_of texts drawn =
    map (λ k. (k, report_at texts k)) (filter (λ k. nat_lt k (length texts)) drawn)

-- a number past the texts was drawn
abbrev pub IsThrough : List (List ℕ) → List ℕ → Type 0
IsThrough texts drawn = (x : ℕ) × (length texts ≤ x) × (1 ≤ occurrences x drawn)

-- a seat with the draws of these many workers, each of whom may draw once more than there are texts
abbrev pub MayWork : Counter → List (Vec ℕ Global) → ℕ → Drawer → Type 0
MayWork c texts workers s =
    IsSeatOf c s × (s.drawn ≡ []) × (s.left ≡ workers * (length texts + 1))
    × (1 ≤ workers) × (length texts ≤ 65536)

-- a seat that comes back from these many workers, with the reports of all texts whose numbers they
-- drew, until there was none
abbrev pub IsDone : Counter → List (Vec ℕ Global) → ℕ → Drawer → List (ℕ × Vec ℕ Global) → Type 0
IsDone c texts workers s reports =
    IsSeatOf c s × (length s.drawn + s.left ≡ workers * (length texts + 1))
    × (numbered_bytes reports ≡ reports_of (bytes_of texts) s.drawn)
    × IsThrough (bytes_of texts) s.drawn

-- the number of each text is there once, with its report, and no other number
abbrev pub IsEachOnce : List (List ℕ) → List (ℕ × List ℕ) → Type 0
IsEachOnce texts ps =
    (ks : List ℕ) × (ps ≡ reports_of texts ks)
    × ((k : ℕ) → k < length texts → occurrences k (filter (λ j. nat_lt j (length texts)) ks) ≡ 1)

-- the reports put into their places
abbrev pub places_with : List (List ℕ) → List (ℕ × List ℕ) → List (List ℕ)
places_with places [] = places
places_with places (p ∷ ps) = places_with (slice_set places p.0 p.1) ps
