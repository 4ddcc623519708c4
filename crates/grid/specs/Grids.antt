-- What a grid means as a load book. Assumes nothing.
use Rattle.std.specs.Prelude.{ℕ}
use Rattle.book.specs.Cells.{Standing}
use Rattle.book.specs.Grossing.{Grossing, plainly}
use Rattle.grid.specs.declared.grid.Grid.{Grid}
use Rattle.grid.specs.Held.{standing_in, places_in}

abbrev pub standing_of : Grid → Standing
standing_of g = standing_in g.cells.now g.marks

abbrev pub places_of : Grid → ℕ
places_of g = places_in g.cells.now

-- a reading is its own load
abbrev pub grossing_of : Grid → Grossing
grossing_of g s q r = plainly r
