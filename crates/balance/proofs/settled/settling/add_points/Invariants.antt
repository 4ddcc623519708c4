use Rattle.std.proofs.Common.{◌≡◌, ℕ, ◌<◌, length, get_or, pos}
use Rattle.book.specs.Tables.{cell}
use Rattle.balance.specs.Totals.{total}
use Rattle.balance.proofs.settled.settling.add_points.Given as goal

abbrev pub invariant-loop-q : goal.invariant-loop-q
invariant-loop-q l =
    (length l.sums ≡ 16) × ((k : ℕ) → k < l.q → get_or l.sums k (pos 0) ≡ total (λ p. cell (pos 0) l.pairs k p) 8)
