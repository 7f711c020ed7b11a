-- The text of the value of this name, or the name as it is.
use Rattle.std.proofs.Common.{sym}
use Rattle.std.proofs.lemmas.Grind.{common_steps}
use Rattle.std.proofs.Common.{arith}
use Rattle.lk_text.proofs.Places.{is_named, is_not_named}
use Rattle.lk_text.proofs.fills.put_place.Goals as goal

pub returns-in-Some : goal.returns-in-Some
returns-in-Some c =
    rw (is_named c.args.places.now c.args.name.now c.in-Some.value
    (sym c.in-Some.ensures)) c.put_value.ensures

pub returns-in_ok-push_str-in-None : goal.returns-in_ok-push_str-in-None
returns-in_ok-push_str-in-None c =
    rw (is_not_named c.args.places.now c.args.name.now (sym c.in-None.ensures))
    (grind (arith, common_steps))
