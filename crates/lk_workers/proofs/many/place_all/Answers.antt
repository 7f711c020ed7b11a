use Rattle.std.proofs.Common.{◌≡◌, ◌<◌, ◌∙◌, ℕ, [], length, map, Vec, Global, ap, ap₂, sym}
use Rattle.std.proofs.Common.{arith, rules, tests}
use Rattle.std.proofs.lemmas.Iterator.{YieldsList-from_map_by, YieldsList-from_slice}
use Rattle.std.proofs.lemmas.Iterator.{items_from_drains}
use Rattle.std.proofs.lemmas.List.Elements.{All-head, All-rest, All-same}
use lib.ListN.{length-map}
use Rattle.lk_workers.specs.invariants.Collected.{bytes_of, numbered_bytes, places_with}
use Rattle.lk_workers.proofs.Places.{put}
use Rattle.lk_workers.proofs.many.place_all.Goals as goal

pub loop-number-init : goal.loop-number-init
loop-number-init c =
    let texts = c.args.texts.now in
    let places = c.in_ok-places.places.items in
    let drained = c.in_ok-places.ensures.ran in
    let empty : bytes_of places ≡ map (λ _. []) texts =
    ap bytes_of drained.2.0
    ∙ items_from_drains drained.0 drained.1
    (YieldsList-from_map_by _ (λ t. t.items) (λ _. []) (YieldsList-from_slice texts cc)
    c.map.ensures.closure (λ x r q k. search (rules, tests))) in
    let same : c.into_iter-number-iterator.result.rest.items ≡ c.args.reports.items =
    search rules in
    let long : length places ≡ length texts =
    sym (length-map places (λ t. t.items)) ∙ ap length empty ∙ length-map texts _ in (
      ap₂ (λ os ps. places_with os (numbered_bytes ps)) empty same,
      All-same (λ (p : ℕ × Vec ℕ Global). p.0 < length texts) _ _ same c.requires,
      long,
      search rules,
      search rules,
    )

pub loop-number-preserved : goal.loop-number-preserved
loop-number-preserved c =
    let s = c.in-Some.ensures.steps.0 in
    let i = c.loop-number.invariant in
    let all = All-rest (λ (p : ℕ × Vec ℕ Global). p.0 < length c.args.texts.now) _ _ _ s i.1 in
    (put _ _ _ _ _ _ s i.0, all, search rules, search rules, search rules)

pub index_mut-requires : goal.index_mut-requires
index_mut-requires c = let s = c.in-Some.ensures.steps.0 in let i = c.loop-number.invariant in
    let P : ℕ × Vec ℕ Global → Type 0 = λ p. p.0 < length c.args.texts.now in
    let below : P (c.in-Some.number, c.in-Some.report) =
    All-head P _ c.next.new.self.rest.items (All-same P _ _ (sym s) i.1) in
    omega (arith, i.2, below)
