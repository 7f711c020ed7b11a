-- The text before a place, its value, and the rest.
use Rattle.std.proofs.Common.{arith, rules, string_bytes}
use Rattle.std.proofs.lemmas.Grind.{common_steps}
use Rattle.std.proofs.lemmas.Str.Pattern.{split_parts}
use Rattle.lk_text.specs.Filled.{texts_of}
use Rattle.lk_text.proofs.Filling.{one_place, open_rest, plain_rest}
use Rattle.lk_text.proofs.fills.fill.Goals as goal

pub returns : goal.returns
returns c =
    let cut =
    rw c.in_default.is at (split_parts 123 c.places.rest.now c.split_once.result
    c.split_once.ensures.cases (omega arith)) in
    let so =
    plain_rest (texts_of c.args.places.now) (string_bytes c.places.text)
    (string_bytes c.args.text.now) c.args.sentence.now c.places.rest.now cut
    c.places.invariant.written in
    grind (arith, common_steps, so, c.push_str-2.ensures.bytes)

pub returns-in_default-split_once : goal.returns-in_default-split_once
returns-in_default-split_once c =
    let cut =
    rw c.in-Some.is at (split_parts 123 c.places.rest.now c.split_once.result
    c.split_once.ensures.cases (omega arith)) in
    let end =
    rw c.in_default-split_once.is at (split_parts 125 c.in-Some.place.now
    c.split_once-in-Some.result c.split_once-in-Some.ensures.cases (omega arith)) in
    let so =
    open_rest (texts_of c.args.places.now) (string_bytes c.places.text)
    (string_bytes c.args.text.now) c.args.sentence.now c.places.rest.now c.in-Some.front.now
    c.in-Some.place.now cut.0 cut.1 end c.places.invariant.written in
    grind (
      arith,
      common_steps,
      so,
      c.in_ok-push_str.ensures.bytes,
      c.in_ok-push.ensures.bytes,
      c.in_ok-push.ensures.ascii (omega arith),
      c.push_str-in_default-split_once.ensures.bytes,
    )

pub places-preserved : goal.places-preserved
places-preserved c =
    let cut =
    rw c.in-Some.is at (split_parts 123 c.places.rest.now c.split_once.result
    c.split_once.ensures.cases (omega arith)) in
    let name =
    rw c.in-Some-split_once.is at (split_parts 125 c.in-Some.place.now
    c.split_once-in-Some.result c.split_once-in-Some.ensures.cases (omega arith)) in
    let so =
    one_place (texts_of c.args.places.now) (string_bytes c.places.text)
    (string_bytes c.args.text.now) c.args.sentence.now c.places.rest.now c.in-Some.front.now
    c.in-Some.place.now c.in-Some-split_once.name.now c.in-Some-split_once.behind.now cut.0 cut.1
    name.0 name.1 c.places.invariant.written in
    record {
      written = rw (c.in_ok-put_place.ensures, c.in_ok-push_str.ensures.bytes) so;
      utf8 = search rules;
    }
