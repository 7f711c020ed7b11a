-- Reports put into their places.
use Rattle.std.proofs.Common.{◌≡◌, ℕ, ◌<◌, ◌≤◌, Vec, Global, List, [], ◌∷◌, length, map, set}
use Rattle.std.proofs.Common.{get_or, replicate, filter, All, ltb, ltb-true, sym, refl, ap, ◌∙◌}
use Rattle.std.proofs.Common.{subst, arith, get_or-set_other, ext_get_or, length-set}
use mathlib.Core.Logic.{dite}
use native.Mathlib.Decide.{ℕ_discrete}
use lib.Seq.{map-set}
use lib.ListN.{length-map}
use Rattle.lk_workers.specs.Counting.{occurrences, indicator}
use Rattle.std.proofs.lemmas.List.Elements.{All-map, All-same, filter_passes}
use Rattle.std.proofs.lemmas.Grind.{get_or-set_at}
use Rattle.std.proofs.lemmas.List.{get_or-map, length-replicate}
use Rattle.std.proofs.lemmas.Simd.{map-map, splat_is_map}
use Rattle.lk_replay.specs.Report.{report_text}
use Rattle.lk_workers.specs.invariants.Collected.{bytes_of, numbered_bytes, places_with}
use Rattle.lk_workers.specs.invariants.Collected.{report_at, IsEachOnce}

pub put : (places : List (Vec ℕ Global)) (old rest : List (ℕ × Vec ℕ Global)) (n : ℕ)
    (report : Vec ℕ Global) (whole : List (List ℕ))
    → old ≡ (n, report) ∷ rest
    → places_with (bytes_of places) (numbered_bytes old) ≡ whole
    → places_with (bytes_of (set places n report)) (numbered_bytes rest) ≡ whole
put places old rest n report whole parts is =
    ap (λ l. places_with l (numbered_bytes rest)) (map-set (λ t. t.items) places n report)
    ∙ ap (λ o. places_with (bytes_of places) (numbered_bytes o)) (sym parts) ∙ is

pub placed_length : (places : List (List ℕ)) (ps : List (ℕ × List ℕ))
    → length (places_with places ps) ≡ length places
placed_length places [] = refl
placed_length places (p ∷ ps) =
    placed_length (set places p.0 p.1) ps ∙ length-set places p.0 p.1

module _ (F : ℕ → List ℕ) where
  abbrev pub pairs_of : List ℕ → List (ℕ × List ℕ)
  pairs_of ks = map (λ k. (k, F k)) ks

  pub stays : (ks : List ℕ) (os : List (List ℕ)) (k : ℕ) → k < length os
      → get_or os k [] ≡ F k → get_or (places_with os (pairs_of ks)) k [] ≡ F k
  stays [] os k b e = e
  stays (j ∷ ks) os k b e =
      stays ks (set os j (F j)) k (let l = length-set os j (F j) in omega arith)
      (dite (ℕ_discrete k j)
      (λ is. get_or-set_at os j k (F j) [] is (omega arith) ∙ ap F (sym is))
      (λ no. get_or-set_other os j k (F j) [] no ∙ e))

  pub hit : (ks : List ℕ) (os : List (List ℕ)) (k : ℕ) → k < length os
      → 1 ≤ occurrences k ks → get_or (places_with os (pairs_of ks)) k [] ≡ F k
  hit [] os k b t = absurd (omega arith)
  hit (j ∷ ks) os k b t = dite (ℕ_discrete k j)
      (λ is.
      stays ks (set os j (F j)) k (let l = length-set os j (F j) in omega arith)
      (get_or-set_at os j k (F j) [] is (omega arith) ∙ ap F (sym is)))
      (λ no. hit ks (set os j (F j)) k (let l = length-set os j (F j) in omega arith)
      (let z : indicator k j ≡ 0 = grind arith in omega arith))

abbrev Below : ℕ → ℕ × List ℕ → Type 0
Below n p = p.0 < n

-- each number is that of a text
each_below : (texts : List (List ℕ)) (ps : List (ℕ × List ℕ)) → IsEachOnce texts ps
    → All (Below (length texts)) ps
each_below texts ps h =
    let n : ℕ = length texts in
    All-same (Below n) ps _ h.1
    (All-map (Below n) (λ (k : ℕ). (k, report_at texts k)) (filter (λ j. ltb j n) h.0)
    (λ i d l. ltb-true _ n (filter_passes (λ (j : ℕ). ltb j n) h.0 i d l)))

-- each place has the report of its text
pub places_with_each_once : (texts : List (List ℕ)) (ps : List (ℕ × List ℕ)) → IsEachOnce texts ps
    → places_with (replicate (length texts) []) ps ≡ map report_text texts
places_with_each_once texts ps h =
    let n : ℕ = length texts in
    let ks : List ℕ = filter (λ j. ltb j n) h.0 in
    let os : List (List ℕ) = replicate n [] in
    let nothing : List ℕ = [] in
    let whole = length-replicate n nothing in
    let long : length (places_with os ps) ≡ length (map report_text texts) =
    placed_length os ps ∙ whole ∙ sym (length-map texts report_text) in
    ext_get_or [] (places_with os ps) (map report_text texts) long
    (λ k b. let below : k < n = (let a = placed_length os ps in omega arith) in
    ap (λ qs. get_or (places_with os qs) k []) h.1
    ∙ hit (report_at texts) ks os k (omega arith) (let t = h.2 k below in omega arith)
    ∙ sym (get_or-map report_text texts k [] [] below))

pub All_of_map : {X Y : Type 0} (P : Y → Type 0) (f : X → Y) (xs : List X) → All P (map f xs)
    → All (λ x. P (f x)) xs
All_of_map P f xs a k d h =
    subst P (get_or-map f xs k d (f d) h) (a k (f d) (let l = length-map xs f in omega arith))

module _ (texts : List (Vec ℕ Global)) (reports : List (ℕ × Vec ℕ Global))
    (once : IsEachOnce (bytes_of texts) (numbered_bytes reports)) where
  pub fits : All (λ p. p.0 < length texts) reports
  fits =
      subst (λ k. All (λ (p : ℕ × Vec ℕ Global). p.0 < k) reports)
      (length-map texts (λ t. t.items))
      (All_of_map (Below (length (bytes_of texts))) (λ p. (p.0, p.1.items)) reports
      (each_below (bytes_of texts) (numbered_bytes reports) once))

  pub reports_in_place : places_with (map (λ _. []) texts) (numbered_bytes reports)
      ≡ map (λ t. report_text t.items) texts
  reports_in_place =
      ap (λ os. places_with os (numbered_bytes reports))
      (sym (splat_is_map {Y = List ℕ} texts (length texts) [] refl)
      ∙ ap (λ n. replicate n []) (sym (length-map texts (λ t. t.items))))
      ∙ places_with_each_once (bytes_of texts) (numbered_bytes reports) once
      ∙ map-map report_text (λ t. t.items) texts
