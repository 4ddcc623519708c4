-- A profiled reading laid over the quarter hours of one day. Assumes nothing.
--     K    the reading, in Wh: what was used over a whole span of days
--     P    the profile total: the weights of all quarter hours of the span
--     B    the part of P that belongs to the days of the span before this one
--     ws   the profile weights of this day's quarter hours
use Rattle.std.specs.Prelude.{ℕ, ◌+◌, ◌-◌, ◌*◌, ◌/◌, List, map, length, take, sum}
use Rattle.std.specs.List.{range_with_len}

-- quarter hour k gets what the span has used at its end, less what it had used at its start, both rounded down
unfoldable pub quarter_of : ℕ → ℕ → ℕ → List ℕ → ℕ → ℕ
quarter_of K P B ws k = K * (B + sum (take (k + 1) ws)) / P - K * (B + sum (take k ws)) / P

unfoldable pub day_of : ℕ → ℕ → ℕ → List ℕ → List ℕ
day_of K P B ws = map (quarter_of K P B ws) (range_with_len 0 (length ws))
