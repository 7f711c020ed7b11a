-- Definitions. An order that is cut into pieces: each of its moves is in a piece or left out. A
-- piece begins where nobody is in a call and nobody holds.
use Rattle.std.specs.Prelude.{◌≡◌, ◌+◌, ◌<◌, ◌≤◌, ◌⊎◌, ℕ, length}
use Rattle.lk_order.specs.Orders.{Ordered, IsQuiet}
use Rattle.lk_order.specs.declared.pieces.Piece.{Piece}

-- so many moves of the order are in pieces or left out, and so many of these are in pieces
pub record Cut : Type 0 where
  pub order : Ordered
  pub at : ℕ
  pub given : ℕ

-- from this moment on, and before that one, somebody is in a call or holds at each moment
abbrev pub IsBusy : Ordered → ℕ → ℕ → Type 0
IsBusy o first end = (k : ℕ) → first ≤ k → k < end → IsQuiet o k → ⊥

-- a schedule has room for the moves up to the last moment at which nobody is in a call or holds
pub record IsLastQuiet (o : Ordered) (first end : ℕ) : Type 0 where
  pub quiet : IsQuiet o end
  pub last : IsBusy o (end + 1) (first + 65537)

-- a schedule is full before there is such a moment
pub record IsFull (o : Ordered) (first end : ℕ) : Type 0 where
  pub full : end ≡ first + 65536
  pub busy : IsBusy o (first + 1) (first + 65537)

-- a piece takes all moves that are left, if a schedule has room for them
pub record IsPieceEnd (o : Ordered) (first end : ℕ) : Type 0 where
  pub all : length o.trace ≤ first + 65536 → end ≡ length o.trace
  pub part : first + 65536 < length o.trace → IsLastQuiet o first end ⊎ IsFull o first end

-- the piece begins at the first moment, from the last piece's end on, at which nobody is in a call
-- and nobody holds: the moves before it are left out
pub record IsNextPiece (old new : Cut) (piece : Piece) : Type 0 where
  pub order_is : new.order ≡ old.order
  pub behind : old.at ≤ piece.first
  pub quiet : IsQuiet old.order piece.first
  pub left_out : IsBusy old.order old.at piece.first
  pub at_is : new.at ≡ piece.first + piece.moves
  pub given_is : new.given ≡ old.given + piece.moves
  pub inside : new.at ≤ length new.order.trace
  pub ends : IsPieceEnd old.order piece.first new.at

-- no piece is left: nowhere could one begin, and the moves after the last one are left out
pub record IsEnd (old new : Cut) : Type 0 where
  pub order_is : new.order ≡ old.order
  pub busy : IsBusy old.order old.at (length old.order.trace)
  pub at_is : new.at ≡ length new.order.trace
  pub given_is : new.given ≡ old.given
