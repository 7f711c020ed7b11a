-- Each part goes on its way, and then the last one.
use Rattle.std.proofs.Common.{◌∙◌, [], arith, refl}
use Rattle.lk_replay.proofs.Passed.{all_went, cut_short, goes_on, passes_none, passes_through, told}
use Rattle.lk_replay.proofs.stream.send_rest.Goals as goal

pub loop-ending-init : goal.loop-ending-init
loop-ending-init g c = record {
  way = record { done = []; passed = passes_none [] _; parts = refl };
  ending = refl;
  some = c.requires.some;
  room = c.requires.place;
}

pub returns-in_err-send-clause-prefix : goal.returns-in_err-send-clause-prefix
returns-in_err-send-clause-prefix g c =
    told _ _ (cut_short _ _ [] _ _ _ _ _ c.loop-ending.invariant.way c.fill-len.ensures.text
    c.in_err-send.ensures.prefix)

pub returns-in_err-write_whole-clause-prefix : goal.returns-in_err-write_whole-clause-prefix
returns-in_err-write_whole-clause-prefix g c =
    told _ _ (cut_short _ _ [] _ _ _ _ _ c.loop-ending.invariant.way c.fill-len.ensures.text
    c.in_err-write_whole.ensures.prefix)

pub loop-ending-preserved : goal.loop-ending-preserved
loop-ending-preserved g c = record {
  way = goes_on _ _ [] _ _ [] _ _ _ c.loop-ending.invariant.way c.fill-len.ensures.text
      (passes_through _ _ _ c.in_ok-write_whole.ensures.written);
  ending = c.fill-len.ensures.ending ∙ c.loop-ending.invariant.ending;
  some = c.in_default.ensures;
  room = omega (arith, c.fill-len.ensures.same, c.loop-ending.invariant.room);
}

pub returns-in-Some-clause-written : goal.returns-in-Some-clause-written
returns-in-Some-clause-written g c =
    all_went _ _ _ _ (goes_on _ _ [] _ _ [] _ _ _ c.loop-ending.invariant.way
    c.fill-len.ensures.text (passes_through _ _ _ c.in_ok-send.ensures.written)) c.in-Some.ensures.1
