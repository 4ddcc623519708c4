-- What a list of numbers holds by the marks of its segments. Assumes nothing.
use Rattle.std.specs.Prelude.{ℕ, ◌+◌, ◌*◌, Bool, cond, ◌&&◌, List, length, Some, None, ◌==◌, nat_lt, slice_index}
use Rattle.book.specs.Cells.{Standing}
use Rattle.grid.specs.declared.marks.Marks.{Marks}
use Rattle.grid.specs.Marks.{mark, marks_at}

-- whether a cell has a mark: none has outside the 64 segments and 100 quarter hours
unfoldable pub marked : List Marks → ℕ → ℕ → Bool
marked marks s q = nat_lt s 64 && (nat_lt q 100 && mark (marks_at marks s) q)

-- a marked cell's reading lies in its place of the list; without its mark a number means nothing
unfoldable pub standing_in : List ℕ → List Marks → Standing
standing_in cells marks s q = cond (marked marks s q) (Some (slice_index cells (100 * s + q))) None

-- a list with a place for each cell has them all, any other list has none
abbrev pub places_in : List ℕ → ℕ
places_in cells = cond (length cells == 6400) 6400 0
