-- What is gathered for a balance from the roll, the book and the figures. Assumes nothing.
use Rattle.std.specs.Prelude.{◌≡◌, ℕ, ◌<◌, ◌≤◌, Bool, false, List, length, get_or, ℤ, Some, None, Ok, Err, Option, Result, slice_index_or, unsigned_abs}
use Rattle.refusal.specs.declared.Refusal.{Refusal}
use Rattle.roll.specs.declared.roll.Roll.{Roll}
use Rattle.roll.specs.declared.row.Row.{Row}
use Rattle.roll.specs.Entries.{rows_of, sites_of}
use Rattle.book.specs.declared.LoadBook.{Ghosts}
use Rattle.book.specs.Cells.{Standing}
use Rattle.book.specs.Grossing.{Gross, Grossing}
use Rattle.balance.specs.declared.figures.Figures.{Figures}
use Rattle.balance.specs.declared.questions.QuarterHour.{QuarterHour}
use Rattle.balance.specs.declared.row.LoadedRow.{LoadedRow}
use Rattle.balance.specs.Quarter.{Quarter, load_in, fault_in, figure_in, site_fault, site_fault_in, segment_fault, figure_of}
use Rattle.balance.specs.Figures.{figures_of}
use Rattle.balance.specs.Totals.{first_of, total}

-- what stands in a book for a quarter hour, grossed
abbrev pub gross_at : Grossing → Standing → ℕ → ℕ → Gross
gross_at grossing standing q s = grossing s q (standing s q)

abbrev pub quarter_of : Roll → (ℕ → Gross) → Figures → ℕ → Quarter
quarter_of roll gross figures q =
    record { rows = rows_of roll; sites = sites_of roll; gross = gross; figure = λ i. figures_of figures i q }

-- a quarter hour by a roll, a book's grossing and what stands in it, and the figures
abbrev pub quarter_in : Roll → Grossing → Standing → Figures → ℕ → Quarter
quarter_in roll grossing standing figures q = quarter_of roll (gross_at grossing standing q) figures q

-- the quarter hour that is asked about
abbrev pub quarter : {B : Type 0} → Ghosts B → QuarterHour B → Quarter
quarter meaning x =
    quarter_in x.roll.now (meaning.grossing x.book.now) (meaning.standing x.book.now) x.figures.now x.quarter_hour

-- a row with its load, or the fault
abbrev pub LoadedAs : Result LoadedRow Refusal → ℕ → Option Row → Gross → Type 0
LoadedAs (Ok l) s row g = (l.row ≡ row) × (l.load ≡ load_in row g) × (fault_in s row g ≡ None)
LoadedAs (Err e) s row g = fault_in s row g ≡ Some e

abbrev pub LoadedUpTo : ℕ → List LoadedRow → List (Option Row) → (ℕ → Gross) → Type 0
LoadedUpTo n ls rows gross = (s : ℕ) (d : LoadedRow) → s < n → ((get_or ls s d).row ≡ slice_index_or rows s None) × ((get_or ls s d).load ≡ load_in (slice_index_or rows s None) (gross s))

-- all rows with their loads, or the first fault
abbrev pub GatheredAs : Result (List LoadedRow) Refusal → List (Option Row) → (ℕ → Gross) → Type 0
GatheredAs (Ok ls) rows gross = (length ls ≡ 64) × LoadedUpTo 64 ls rows gross × (first_of (segment_fault rows gross) 64 ≡ None)
GatheredAs (Err e) rows gross = first_of (segment_fault rows gross) 64 ≡ Some e

-- what one site brings in, or that it has no figure
abbrev pub SiteAs : Result ℤ Refusal → ℕ → List Bool → Option ℤ → Type 0
SiteAs (Ok g) i sites f =
    (g ≡ figure_in (slice_index_or sites i false) f) × (unsigned_abs g ≤ 10000000) × (site_fault_in i (slice_index_or sites i false) f ≡ None)
SiteAs (Err e) i sites f = site_fault_in i (slice_index_or sites i false) f ≡ Some e

-- what the listed sites generated, or the first of them without a figure
abbrev pub GeneratedAs : Result ℤ Refusal → List Bool → (ℕ → Option ℤ) → Type 0
GeneratedAs (Ok g) sites figure =
    (g ≡ total (figure_of sites figure) 16) × (unsigned_abs g ≤ 160000000) × (first_of (site_fault sites figure) 16 ≡ None)
GeneratedAs (Err e) sites figure = first_of (site_fault sites figure) 16 ≡ Some e
