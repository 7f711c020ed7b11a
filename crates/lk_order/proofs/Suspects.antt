-- Which of the next steps is most certainly wrong, if one thread more is looked at.
use Rattle.std.proofs.Common.{◌≡◌, ℕ, ◌+◌, ◌<◌, ◌≤◌, None, refl, arith, below_more}
use Rattle.lk_order.specs.Orders.{Ordered, next_line}
use Rattle.lk_order.specs.Endings.{IsWorst, count_at, doubt_at}

pub no_next : (o : Ordered) (t : ℕ) → next_line o t ≡ None → doubt_at o t ≡ 4
no_next o t none = rw none refl

-- thread k's step is the first that is left
pub only : (o : Ordered) (k : ℕ) → ((t : ℕ) → t < k → next_line o t ≡ None) → doubt_at o k < 4
    → IsWorst o (k + 1) k
only o k none below = record {
  least =
      below_more (λ t. doubt_at o k ≤ doubt_at o t) k
      (λ t inside. omega (arith, no_next o t (none t inside))) (omega arith);
  lowest =
      below_more (λ t. doubt_at o t ≡ doubt_at o k → count_at o k ≤ count_at o t) k
      (λ t inside same. omega (arith, no_next o t (none t inside))) (λ same. omega arith);
  first = λ t inside same. omega (arith, no_next o t (none t inside));
}

-- thread k's step is less certainly wrong than w's, or is in no lower section
pub kept : (o : Ordered) (k w : ℕ) → IsWorst o k w → doubt_at o w ≤ doubt_at o k
    → (doubt_at o k ≡ doubt_at o w → count_at o w ≤ count_at o k) → IsWorst o (k + 1) w
kept o k w was doubt count = record {
  least = below_more (λ t. doubt_at o w ≤ doubt_at o t) k was.least doubt;
  lowest =
      below_more (λ t. doubt_at o t ≡ doubt_at o w → count_at o w ≤ count_at o t) k was.lowest
      count;
  first = was.first;
}

-- thread k has no next step
pub passed : (o : Ordered) (k w : ℕ) → IsWorst o k w → doubt_at o w < 4 → next_line o k ≡ None
    → IsWorst o (k + 1) w
passed o k w was below none =
    let last : doubt_at o k ≡ 4 = no_next o k none in
    kept o k w was (omega arith) (λ same. omega arith)

-- thread k's step is more certainly wrong than w's, or is in a lower section
pub taken : (o : Ordered) (k w : ℕ) → IsWorst o k w → doubt_at o k ≤ doubt_at o w
    → (doubt_at o k ≡ doubt_at o w → count_at o k < count_at o w) → IsWorst o (k + 1) k
taken o k w was doubt count =
    let before : (t : ℕ) → t < k → doubt_at o t ≡ doubt_at o k → count_at o k < count_at o t =
    λ t inside same. omega (arith, was.least t inside, was.lowest t inside, count) in
    record {
      least =
          below_more (λ t. doubt_at o k ≤ doubt_at o t) k
          (λ t inside. omega (arith, was.least t inside)) (omega arith);
      lowest =
          below_more (λ t. doubt_at o t ≡ doubt_at o k → count_at o k ≤ count_at o t) k
          (λ t inside same. omega (arith, before t inside same)) (λ same. omega arith);
      first = before;
    }
