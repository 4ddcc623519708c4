-- A grid stays sound as its cells are filled and emptied. Assumes nothing.
use Rattle.std.proofs.Common.{◌≡◌, ℕ, ◌+◌, ◌*◌, ◌^◌, ◌<◌, ◌≤◌, true, false, List, length, get_or, set, Some, None, refl, ◌∙◌, arith, length-set, get_or-set_other, get_or-set_same}
use Rattle.book.specs.Cells.{Standing, put, count}
use Rattle.book.proofs.Counts.{count_put, count_most, count_nothing}
use Rattle.grid.specs.declared.grid.Grid.{Grid}
use Rattle.grid.specs.declared.marks.Marks.{Marks}
use Rattle.grid.specs.Marks.{marks_at, Turned}
use Rattle.grid.specs.Held.{marked, standing_in, places_in}
use Rattle.grid.specs.Grids.{standing_of}
use Rattle.book.proofs.Cells.{each_after_put}
use Rattle.grid.proofs.Cells.{Small, small_none, blank_standing, standing_after, day_after}

-- what a grid's ghost fields say
abbrev Sound : List ℕ → List Marks → Type 0
Sound cells marks = record {
  day_end : (s : ℕ) → (marks_at marks s).late < 2 ^ 36;
  readings : (s q : ℕ) → Small (standing_in cells marks s q);
  housed : count (standing_in cells marks) ≤ places_in cells;
}

sound_of : (cells : List ℕ) (marks : List Marks) (st : Standing) → standing_in cells marks ≡ st → ((s : ℕ) → (marks_at marks s).late < 2 ^ 36) → ((s q : ℕ) → Small (st s q)) → count st ≤ places_in cells → Sound cells marks
sound_of cells marks st e day small housed = rw e record { day_end = day; readings = small; housed = housed }

-- with no mark set
pub sound_blank : (cells : List ℕ) (marks : List Marks) → ((s q : ℕ) → marked marks s q ≡ false) → ((s : ℕ) → (marks_at marks s).late < 2 ^ 36) → Sound cells marks
sound_blank cells marks none day = sound_of cells marks _ (blank_standing cells marks none) day (λ s q. small_none) (omega (arith, count_nothing))

-- one cell filled, or emptied, and the marks of its segment changed to these
module _ (g : Grid) (s q : ℕ) (d after : Marks) (hs : s < 64) (hq : q < 100) (segments : length g.marks ≡ 64) where
  module _ (place reading : ℕ) (there : place ≡ 100 * s + q) (whole : length g.cells.now ≡ 6400) (turned : Turned (get_or g.marks s d) q true after) where
    pub filled : standing_in (set g.cells.now place reading) (set g.marks s after) ≡ put (standing_of g) s q (Some reading)
    filled =
        let numbers = set g.cells.now place reading in
        let written : get_or numbers (100 * s + q) 0 ≡ reading = rw (← there) (get_or-set_same g.cells.now place reading 0 (omega arith)) in
        rw written at (standing_after g.marks s q d after true hs hq segments turned g.cells.now numbers (λ i apart. get_or-set_other g.cells.now place i reading 0 (λ e. apart (e ∙ there))))

    -- a list with all the places has room for whatever stands
    pub sound_filled : reading ≤ 1000000 → ((get_or g.marks s d).late < 2 ^ 36 → after.late < 2 ^ 36) → Sound (set g.cells.now place reading) (set g.marks s after)
    sound_filled small width =
        let numbers = set g.cells.now place reading in
        let places : places_in numbers ≡ 6400 = rw (length-set, whole) refl in
        sound_of _ _ _ filled (day_after g.marks s d after segments hs g.day_end width) (each_after_put Small (standing_of g) s q (Some reading) g.readings (λ n e. let same : reading ≡ n = cc in omega arith)) (omega (arith, count_most (put (standing_of g) s q (Some reading))))

  module _ (turned : Turned (get_or g.marks s d) q false after) where
    pub emptied : standing_in g.cells.now (set g.marks s after) ≡ put (standing_of g) s q None
    emptied = standing_after g.marks s q d after false hs hq segments turned g.cells.now g.cells.now (λ i apart. refl)

    -- an emptied cell takes no place
    pub sound_emptied : ((get_or g.marks s d).late < 2 ^ 36 → after.late < 2 ^ 36) → Sound g.cells.now (set g.marks s after)
    sound_emptied width = sound_of _ _ _ emptied (day_after g.marks s d after segments hs g.day_end width) (each_after_put Small (standing_of g) s q None g.readings small_none) (omega (arith, count_put (standing_of g) s q None hs hq, g.housed))
