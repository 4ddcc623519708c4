-- What stands in a load book. Assumes nothing.
--     a cell      a segment (0 to 63) and a quarter hour (0 to 99)
--     standing    the reading that a cell holds, or none
use Rattle.std.specs.Prelude.{ℕ, ◌≤◌, Bool, cond, ◌&&◌, is_some, Some, None, sum_by, count_by, Option, ◌==◌}
use Rattle.std.specs.List.{range_with_len}

abbrev pub Standing : Type 0
Standing = ℕ → ℕ → Option ℕ

-- a book in which nothing stands
abbrev pub nothing : Standing
nothing s q = None

abbrev pub same_cell : ℕ → ℕ → ℕ → ℕ → Bool
same_cell s q t p = t == s && p == q

-- the cell of segment s and quarter hour q is given another content, every other cell keeps its own
unfoldable pub put : Standing → ℕ → ℕ → Option ℕ → Standing
put st s q content t p = cond (same_cell s q t p) content (st t p)

-- how many readings stand for one segment, and in the whole book
unfoldable pub count_of : Standing → ℕ → ℕ
count_of st s = count_by (λ q. is_some (st s q)) (range_with_len 0 100)

unfoldable pub count : Standing → ℕ
count st = sum_by (count_of st) (range_with_len 0 64)

-- a reading is at most 1,000,000 Wh
abbrev pub Readable : Option ℕ → Type 0
Readable None = Unit {0}
Readable (Some n) = n ≤ 1000000
