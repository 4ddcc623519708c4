use Rattle.std.proofs.Common.{◌≡◌}
use Rattle.posting.specs.Rows.{put_first}
use Rattle.posting.proofs.row.post_each.Given as goal

-- the first q readings stand, and the book is otherwise the one that came in
abbrev pub invariant-loop-q : goal.invariant-loop-q
invariant-loop-q g l =
    (g.B.LoadBook.standing l.book ≡ put_first (g.B.LoadBook.standing l.initial.book) l.segment l.readings l.q)
    × (g.B.LoadBook.places l.book ≡ g.B.LoadBook.places l.initial.book)
    × (g.B.LoadBook.grossing l.book ≡ g.B.LoadBook.grossing l.initial.book)
