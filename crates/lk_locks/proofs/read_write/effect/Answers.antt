use Rattle.std.proofs.Common.{refl, sym, ℕ}
use Rattle.lk_locks.specs.{invariants.read_write.IsSection, read_write.step}
use Rattle.lk_locks.proofs.Sections.{first_is, second_is, section_tells, writes_of}
use Rattle.lk_locks.proofs.read_write.effect.Goals as goal

pub returns : goal.returns
returns c =
    let section : (t : ℕ) → IsSection c.section_on-section.result c.args.words.now.0 t
    (step c.args.family c.args.words.now.1 c.args.words.now.0 t c.args.phase) =
    λ t. rw c.bits.ensures.value at (c.section_on-section.ensures.does c.args.family
    c.args.words.now.0 t (sym c.get-first.ensures.value) (sym c.get-second.ensures.value)
    (sym c.third_of.ensures)) in
    let writes =
    writes_of c.bits.result c.args.family c.args.words.now.0 c.third_of.result
    c.section_on-section.result.first c.section_on-section.result.other c.requires
    c.third_of.ensures c.section_on-section.ensures.first c.section_on-section.ensures.other in
    record {
      value =
          λ t. rw (
            c.change_to.ensures,
            c.change_to-2.ensures,
            (section t).outcome_is,
            ← (section t).words_are,
            first_is c.args.words.now.0 _ _ writes,
            second_is c.args.words.now.0 _ _ writes,
          ) refl;
      tells =
          λ t. rw (c.change_to.ensures, c.change_to-2.ensures, ← (section t).words_are)
          (section_tells c.args.words.now.0 _ _ c.section_on-section.result.next.1 writes);
    }
