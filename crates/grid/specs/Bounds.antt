-- The bounds of a load book, from a grid's. Assumes nothing.
use Rattle.std.specs.Prelude.{◌≡◌, ℕ, ◌≤◌, Some, None, Option, refl}
use Rattle.std.proofs.Common.{arith}
use Rattle.book.specs.Cells.{Readable}
use Rattle.book.specs.Grossing.{Bounded, plainly}

pub readable_from : (r : Option ℕ) → ((n : ℕ) → r ≡ Some n → n ≤ 1000000) → Readable r
readable_from None h = tt
readable_from (Some n) h = h n refl

pub plainly_bounded : (r : Option ℕ) → Readable r → Bounded (plainly r)
plainly_bounded None h = omega arith
plainly_bounded (Some n) h = omega arith
