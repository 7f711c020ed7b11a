-- Definitions. The code hands over what a step leaves.
use Rattle.std.specs.Prelude.{◌≡◌}
use Rattle.lk_why.specs.Steps.{Stepped}
use Rattle.lk_why.specs.declared.made.Made.{Made}

-- the step left this
pub record Leaves (s : Stepped) (m : Made) : Type 0 where
  pub words : m.words.items ≡ s.words
  pub phase : m.phase ≡ s.phase
  pub half : m.half ≡ s.half
  pub outcome : m.outcome ≡ s.outcome
  pub entries : m.entries.items ≡ s.entries
