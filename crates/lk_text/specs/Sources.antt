-- Definitions. The bytes that are left in an input, where they are known.
use Rattle.std.specs.Prelude.{ℕ, List, Option}
use Rattle.lk_text.specs.declared.inputs.Source.{Source}
use Rattle.lk_text.specs.declared.inputs.Source.TheVariants.{File, Standard}

-- those of the file, or of standard input
abbrev pub left_in : {F S : Type 0} → (F → Option (List ℕ)) → (S → Option (List ℕ)) → Source F S
    → Option (List ℕ)
left_in of_file of_input (File file) = of_file file
left_in of_file of_input (Standard input) = of_input input
