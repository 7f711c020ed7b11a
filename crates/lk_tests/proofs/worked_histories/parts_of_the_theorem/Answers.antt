use Rattle.std.proofs.Common.{◌≡◌, ℕ, List, [], ◌∷◌, ap, arith, length, refl}
use Rattle.lk_tests.specs.WorkedHistories.{left_once, reader_beside_writer}
use Rattle.lk_tests.proofs.worked_histories.parts_of_the_theorem.Goals as goal

pub returns-clause-legal : goal.returns-clause-legal
returns-clause-legal c = λ kind n es promised. promised.legal

pub returns-clause-one_holder : goal.returns-clause-one_holder
returns-clause-one_holder c = λ kind n es promised. promised.one_holder

pub returns-clause-in_order : goal.returns-clause-in_order
returns-clause-in_order c = λ kind n es promised. promised.in_order

pub returns-clause-one_writer : goal.returns-clause-one_writer
returns-clause-one_writer c = λ kind n es promised. promised.one_writer

pub returns-clause-no_reader_beside : goal.returns-clause-no_reader_beside
returns-clause-no_reader_beside c = λ kind n es promised. promised.no_reader_beside

pub returns-clause-no_reader : goal.returns-clause-no_reader
returns-clause-no_reader c = λ kind n es promised. promised.no_reader_beside.no_reader

pub returns-clause-left_once : goal.returns-clause-left_once
returns-clause-left_once c = λ alone.
    let none : 0 ∷ [] ≡ [] = alone left_once [] refl 1 refl in
    omega (arith, ap (λ (ts : List ℕ). length ts) none)

pub returns-clause-reader : goal.returns-clause-reader
returns-clause-reader c = λ alone.
    let none : 1 ∷ [] ≡ [] = alone (reader_beside_writer 0 1) [] refl 0 refl in
    omega (arith, ap (λ (ts : List ℕ). length ts) none)
