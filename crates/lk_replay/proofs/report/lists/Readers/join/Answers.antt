-- The number comes after those below it.
use Rattle.std.proofs.Common.{◌++◌, ◌∙◌, List, ℕ, ap, arith, drop, refl, take}
use Rattle.lk_replay.proofs.Bits.{reader_joins}
use Rattle.lk_replay.proofs.report.lists.Readers.join.Goals as goal

pub insert-requires-clause-place : goal.insert-requires-clause-place
insert-requires-clause-place c =
    (reader_joins _ _ _ _ _ c.self.invariant c.self.view_is c.requires.absent c.requires.fits
    c.requires.few c.place_of-at.ensures).within

pub insert-requires-clause-room : goal.insert-requires-clause-room
insert-requires-clause-room c =
    (reader_joins _ _ _ _ _ c.self.invariant c.self.view_is c.requires.absent c.requires.fits
    c.requires.few c.place_of-at.ensures).room

pub overflow_add-self : goal.overflow_add-self
overflow_add-self c =
    omega (
      arith,
      (reader_joins _ _ _ _ _ c.self.invariant c.self.view_is c.requires.absent c.requires.fits
          c.requires.few c.place_of-at.ensures).fits,
    )

pub invariant_of-self : goal.invariant_of-self
invariant_of-self c =
    ((reader_joins _ _ _ _ _ c.self.invariant c.self.view_is c.requires.absent c.requires.fits
    c.requires.few c.place_of-at.ensures).after _ _
    (c.insert.ensures ∙ ap (λ (ys : List ℕ). (take c.place_of-at.result c.self.inside.text ++ ys)
    ++ drop c.place_of-at.result c.self.inside.text) c.thread_block-len.ensures.text) refl).0

pub returns : goal.returns
returns c =
    ((reader_joins _ _ _ _ _ c.self.invariant c.self.view_is c.requires.absent c.requires.fits
    c.requires.few c.place_of-at.ensures).after _ _
    (c.insert.ensures ∙ ap (λ (ys : List ℕ). (take c.place_of-at.result c.self.inside.text ++ ys)
    ++ drop c.place_of-at.result c.self.inside.text) c.thread_block-len.ensures.text) refl).1
