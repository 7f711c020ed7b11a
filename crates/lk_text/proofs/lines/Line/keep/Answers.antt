-- The bytes kept so far, and as many more as have room.
use Rattle.std.proofs.Common.{◌≡◌, ◌≤◌, ◌-◌, ◌++◌, length, take, min, ap, sym, ◌∙◌, arith}
use Rattle.std.proofs.Common.{length-take-le}
use Rattle.std.proofs.lemmas.Slice.{take-put_mid}
use Rattle.lk_text.proofs.Keeping.{keeps}
use Rattle.lk_text.specs.Lines.{kept_bytes}
use Rattle.lk_text.proofs.lines.Line.keep.Goals as goal

pub returns-clause-kept : goal.returns-clause-kept
returns-clause-kept c =
    let line = c.args.self.now in
    let bytes = c.args.bytes.now in
    let taken = c.min-taken.result in
    let inside : line.count ≤ length line.kept = omega (arith, line.inside, line.sized) in
    let short : length (kept_bytes line) ≡ line.count =
    length-take-le line.count line.kept inside in
    let part : c.copy_from_slice.new.self ≡ take taken bytes = c.copy_from_slice.ensures.after in
    let some : length (take taken bytes) ≡ taken =
    length-take-le taken bytes (omega (arith, c.min-taken.ensures)) in
    let room : taken ≡ min (length bytes) (97 - length (kept_bytes line)) =
    c.min-taken.ensures ∙ ap (λ n. min (length bytes) (97 - n)) (sym short) in
    take-put_mid line.count _ line.kept c.copy_from_slice.new.self _
    (omega (arith, ap length part, some)) inside
    ∙ ap (λ l. kept_bytes line ++ l) part
    ∙ keeps 97 (kept_bytes line) bytes taken (omega (arith, short, line.inside)) room
