-- A pile of two loss adjustments over a load book, and its known figures. Assumes nothing.
--     g     what each cell of the book grosses to
--     st    what stands in the book
--     s, q  a cell: segment and quarter hour
use Rattle.std.specs.Prelude.{ℕ, List, map, set, replicate, Some, None, Ok, Err, Option, Result}
use Rattle.refusal.specs.declared.Refusal.{Refusal}
use Rattle.refusal.specs.declared.Refusal.TheVariants.{NoReading, NoFactor}
use Rattle.roll.specs.declared.row.Row.{Row}
use Rattle.book.specs.Answers.{load_answer}
use Rattle.book.specs.Cells.{Standing, put}
use Rattle.book.specs.Grossing.{Grossing, plainly}
use Rattle.book.specs.Tables.{blank, put_at}
use Rattle.losses.specs.Factors.{Factors}
use Rattle.losses.specs.Layers.{distributed, transmitted, roll_code, factor_answer}
use Rattle.walkthrough.specs.declared.pile.work.Climb.{Climb}
use Rattle.walkthrough.specs.declared.pile.work.Climbs.{Climbs}

-- the household and the mill on an empty roll
abbrev pub two_rows : List (Option Row)
two_rows =
    set (set (replicate 64 None) 0 (Some (record { qse = 1; point = 0; code = 65; meter = 1; noie = 0 })))
    2 (Some (record { qse = 2; point = 3; code = 84; meter = 0; noie = 0 }))

-- the three readings on top of what stood
abbrev pub with_readings : Standing → Standing
with_readings st = put (put (put st 0 48 (Some 1000)) 2 48 (Some 3000)) 0 49 (Some 900)

-- the one factor f, for quarter hour 48, in the first row of a table: distribution's for code A
abbrev pub at_noon : ℕ → Factors
at_noon f = put_at 0 48 (Some f) blank

abbrev pub over_distribution : List (Option Row) → Grossing → Grossing
over_distribution rows g = distributed (map roll_code rows) (at_noon 50000) g

abbrev pub over_transmission : ℕ → Grossing → Grossing
over_transmission f g = transmitted (at_noon f) g

abbrev pub answer_for : Grossing → Standing → ℕ → ℕ → Result ℕ Refusal
answer_for g st s q = load_answer s q (g s q (st s q))

-- the answers as the pile grows
abbrev pub climb_of : List (Option Row) → Grossing → Standing → ℕ → ℕ → Climb
climb_of rows g st s q = record {
  metered = answer_for g st s q;
  distributed = answer_for (over_distribution rows g) st s q;
  transmitted = answer_for (over_transmission 20000 (over_distribution rows g)) st s q;
}

-- an answer that is given only after something was taken
abbrev pub and_then : Result (Unit {0}) Refusal → Result ℕ Refusal → Result ℕ Refusal
and_then (Ok _) answer = answer
and_then (Err e) answer = Err e

-- the answer with one layer over the book, if it takes the factor
abbrev pub under_one : Grossing → Standing → ℕ → ℕ → Result ℕ Refusal
under_one g st s f = and_then (factor_answer (Some 0) 48 f) (answer_for (over_transmission f g) st s 48)

-- a reading is its own load
abbrev pub plain : Grossing
plain s q reading = plainly reading

-- what all of it comes to
abbrev pub known : Climbs
known = record {
  household = record { metered = Ok 1000; distributed = Ok 1050; transmitted = Ok 1071 };
  mill = record { metered = Ok 3000; distributed = Ok 3000; transmitted = Ok 3060 };
  unread = record { metered = Err (NoReading 5 0); distributed = Err (NoReading 5 1); transmitted = Err (NoReading 5 2) };
  unrated = record { metered = Ok 900; distributed = Err (NoFactor 0 0); transmitted = Err (NoFactor 0 1) };
  at_once = 1070;
}
