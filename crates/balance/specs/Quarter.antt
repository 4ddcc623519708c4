-- A quarter hour: what is put in, and where it has no answers. Assumes nothing.
use Rattle.std.specs.Prelude.{ℕ, Bool, true, false, cond, not, ◌&&◌, List, ℤ, pos, is_some, Some, None, Option, slice_index_or}
use Rattle.std.specs.Option.{unwrap_or}
use Rattle.refusal.specs.declared.Refusal.{Refusal}
use Rattle.refusal.specs.declared.Refusal.TheVariants.{EmptyRoll, NoFigure}
use Rattle.roll.specs.declared.row.Row.{Row}
use Rattle.book.specs.Grossing.{Gross, load, fault, refusal_of}
use Rattle.balance.specs.Balance.{Sheet, stranded, unshared}
use Rattle.balance.specs.Totals.{total, or_else, first_of}

pub record Quarter : Type 0 where
  -- the roll: the row of each segment 0 to 63, or none, and whether each site 0 to 15 is listed
  pub rows : List (Option Row)
  pub sites : List Bool
  -- the grossed load of each segment, or why it has none
  pub gross : ℕ → Gross
  -- the generation figure of each site in Wh, or none
  pub figure : ℕ → Option ℤ

-- ---- what each segment and site brings in

abbrev pub load_in : Option Row → Gross → ℕ
load_in None g = 0
load_in (Some row) (load m) = m
load_in (Some row) (fault f h) = 0

abbrev pub figure_in : Bool → Option ℤ → ℤ
figure_in false f = pos 0
figure_in true f = unwrap_or f (pos 0)

-- what a site on the roll generated
unfoldable pub figure_of : List Bool → (ℕ → Option ℤ) → ℕ → ℤ
figure_of sites figure i = figure_in (slice_index_or sites i false) (figure i)

-- the sheet of a quarter hour: nothing for who is not on the roll
abbrev pub sheet_of : Quarter → Sheet
sheet_of x = record {
  row = λ s. slice_index_or x.rows s None;
  load = λ s. load_in (slice_index_or x.rows s None) (x.gross s);
  generation = total (figure_of x.sites x.figure) 16;
}

-- ---- where there are no answers

abbrev pub somebody : List (Option Row) → ℕ → Option Row
somebody rows s = slice_index_or rows s None

abbrev pub fault_in : ℕ → Option Row → Gross → Option Refusal
fault_in s None g = None
fault_in s (Some row) (load m) = None
fault_in s (Some row) (fault f h) = Some (refusal_of s f h)

-- a segment on the roll without a load
abbrev pub segment_fault : List (Option Row) → (ℕ → Gross) → ℕ → Option Refusal
segment_fault rows gross s = fault_in s (slice_index_or rows s None) (gross s)

abbrev pub site_fault_in : ℕ → Bool → Option ℤ → Option Refusal
site_fault_in i listed f = cond (listed && not (is_some f)) (Some (NoFigure i)) None

-- a site on the roll without a figure
abbrev pub site_fault : List Bool → (ℕ → Option ℤ) → ℕ → Option Refusal
site_fault sites figure i = site_fault_in i (slice_index_or sites i false) (figure i)

-- nobody is on the roll; or a segment has no load, the lowest number first; or a site has no figure, the lowest
-- first; or there is UFE and no weight to carry it
abbrev pub refusal_of_quarter : Quarter → Option Refusal
refusal_of_quarter x =
    or_else (cond (is_some (first_of (somebody x.rows) 64)) None (Some EmptyRoll)) (
    or_else (first_of (segment_fault x.rows x.gross) 64) (
    or_else (first_of (site_fault x.sites x.figure) 16) (
    stranded (sheet_of x))))

-- and shares need a total above 0
abbrev pub refusal_of_shares : Quarter → Option Refusal
refusal_of_shares x = or_else (refusal_of_quarter x) (unshared (sheet_of x))
