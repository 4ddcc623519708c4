-- The generation figures of a day, and what entering and striking one answers. Assumes nothing.
use Rattle.std.specs.Prelude.{ℕ, cond, ℤ, Ok, Err, Option, Result, nat_lt, unsigned_abs}
use Rattle.std.specs.Option.{ok_or}
use Rattle.refusal.specs.declared.Refusal.{Refusal}
use Rattle.refusal.specs.declared.Refusal.TheVariants.{QuarterHour, SiteNumber, Figure, NothingStands}
use Rattle.book.specs.Tables.{at}
use Rattle.balance.specs.declared.figures.Figures.{Figures}

-- the figure of a site and quarter hour, or none
abbrev pub figures_of : Figures → ℕ → ℕ → Option ℤ
figures_of f = at f.table

abbrev pub figure_answer : (ℕ → ℕ → Option ℤ) → ℕ → ℕ → ℤ → Result (Option ℤ) Refusal
figure_answer figures site q wh =
    cond (nat_lt 99 q) (Err QuarterHour) (
    cond (nat_lt 15 site) (Err SiteNumber) (
    cond (nat_lt 10000000 (unsigned_abs wh)) (Err Figure) (Ok (figures site q))))

abbrev pub strike_answer : (ℕ → ℕ → Option ℤ) → ℕ → ℕ → Result ℤ Refusal
strike_answer figures site q =
    cond (nat_lt 99 q) (Err QuarterHour) (
    cond (nat_lt 15 site) (Err SiteNumber) (ok_or (figures site q) NothingStands))
