-- The bounds that every slip book keeps. Assumes nothing.
use Rattle.std.specs.Prelude.{ℕ, zero, suc, ◌<◌, ◌≤◌, List, Some, None, Option}
use Rattle.std.proofs.Common.{arith}
use Rattle.book.proofs.Cells.{each_after_put}
use Rattle.book.specs.Cells.{Readable, count}
use Rattle.book.specs.Grossing.{Bounded}
use Rattle.book.proofs.Counts.{count_most}
use Rattle.slips.specs.declared.slip.Slip.{Slip}
use Rattle.slips.specs.declared.list.SlipBook.{SlipBook}
use Rattle.slips.specs.Books.{standing_in, places_in, grossing_in}
use Rattle.slips.specs.Slips.{slip_at, standing_of, InRange}

-- what stands is a reading
standing_readable : (xs : List Slip) (n : ℕ) → ((i : ℕ) → i < n → InRange (slip_at xs i)) → (s q : ℕ) → Readable (standing_of xs n s q)
unfolding standing_of
standing_readable xs zero r s q = tt
standing_readable xs (suc n) r s q =
    let x = slip_at xs n in
    each_after_put Readable (standing_of xs n) x.segment x.quarter_hour (Some x.reading) (standing_readable xs n (λ i h. r i (omega arith))) (r n (omega arith)).2 s q

pub readable_in : (b : SlipBook) (s q : ℕ) → Readable (standing_in b s q)
readable_in b s q = standing_readable b.slips.now b.used b.arranged.1 s q

-- a list longer than there are cells is never used to its end
pub housed_in : (b : SlipBook) → count (standing_in b) ≤ places_in b
housed_in b = omega (arith, count_most (standing_in b), b.arranged.0, b.arranged.2)

pub bounded_in : (b : SlipBook) (s q : ℕ) (r : Option ℕ) → Readable r → Bounded (grossing_in b s q r)
bounded_in b s q None h = omega arith
bounded_in b s q (Some n) h = omega arith
