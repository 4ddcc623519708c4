-- A slip book as its meaning. Assumes nothing.
use Rattle.std.specs.Prelude.{ℕ, min, length}
use Rattle.book.specs.Cells.{Standing}
use Rattle.book.specs.Grossing.{Grossing, plainly}
use Rattle.slips.specs.declared.list.SlipBook.{SlipBook}
use Rattle.slips.specs.Slips.{standing_of}

abbrev pub standing_in : SlipBook → Standing
standing_in b = standing_of b.slips.now b.used

-- as many as there are records, and no more than there are cells
abbrev pub places_in : SlipBook → ℕ
places_in b = min (length b.slips.now) 6400

abbrev pub grossing_in : SlipBook → Grossing
grossing_in b s q r = plainly r
