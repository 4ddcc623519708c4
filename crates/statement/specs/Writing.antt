-- What the program writes into a list of bytes. Assumes nothing.
use Rattle.std.specs.Prelude.{◌≡◌, ℕ, ◌+◌, ◌≤◌, cond, List, ◌++◌, length, take, drop, ℤ, pos, Some, None, Option, int_lt, unsigned_abs}
use Rattle.refusal.specs.declared.Refusal.{Refusal}
use Rattle.refusal.specs.declared.Refusal.TheVariants.{NoTotal}
use Rattle.roll.specs.declared.row.Row.{Row}
use Rattle.split.specs.Parts.{parts_of}
use Rattle.book.specs.Tables.{cell}
use Rattle.balance.specs.declared.settled.Balance.{Balance}
use Rattle.statement.specs.declared.page.Page.{Page}
use Rattle.statement.specs.Statement.{text_of}

-- a piece has room behind what is written
abbrev pub Fits : Page → List ℕ → Type 0
Fits page piece = page.at + length piece ≤ length page.text.now

-- a piece went behind what was written, and nothing else of the list changed
pub record Appends (old : Page) (piece : List ℕ) (new : Page) : Type 0 where
  pub list : new.text.ghost_name ≡ old.text.ghost_name
  pub text : new.text.now ≡ take old.at old.text.now ++ (piece ++ drop (old.at + length piece) old.text.now)
  pub ends : new.at ≡ old.at + length piece

-- ---- what a balance holds

abbrev pub loads_of : Balance → ℕ → ℕ → ℤ
loads_of b qse point = cell (pos 0) b.pairs qse point

abbrev pub lack_of : Balance → Option Refusal
lack_of b = cond (int_lt (pos 0) b.generation) None (Some NoTotal)

abbrev pub shares_of : Balance → List ℤ
shares_of b = parts_of (pos 1000000000) (unsigned_abs b.generation) 0 b.qse_loads

abbrev pub balance_text : List (Option Row) → Balance → List ℕ
balance_text rows b = text_of rows b.generation b.ufe (loads_of b) (lack_of b) (shares_of b)
