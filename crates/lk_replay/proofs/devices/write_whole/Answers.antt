-- Each write takes the next of the bytes.
use Rattle.std.proofs.Common.{arith, ℕ, ◌+◌, ◌-◌, List, length, take, drop}
use Rattle.std.proofs.KnownBytes.{Appends-trans}
use Rattle.std.proofs.lemmas.List.{take_rest}
use Rattle.std.specs.Prelude.{Option}
use Rattle.std.specs.Io.KnownBytes.{Appends}
use lib.Seq.{take-add}
use Rattle.lk_replay.proofs.devices.write_whole.Goals as goal

-- `m` bytes went, and then `n` of the rest
appends_more : (a b c : Option (List ℕ)) (xs : List ℕ) (m n : ℕ) → Appends a b (take m xs)
    → Appends b c (take n (take (length xs - m) (drop m xs))) → Appends a c (take (m + n) xs)
appends_more a b c xs m n first next =
    rw (take-add m n xs) (Appends-trans a b c _ _ first (rw (take_rest xs m) at next))

pub loop-sent-preserved : goal.loop-sent-preserved
loop-sent-preserved g c = record {
  within = omega (arith, c.in-Ok.ensures.bound);
  appended = appends_more _ _ _ _ _ _ c.loop-sent.invariant.appended c.in-Ok.ensures.bytes;
}
