-- What a reader of a statement relies on. Assumes nothing.
use Rattle.std.specs.Prelude.{◌≡◌, ℕ, ◌<◌, None}
use Rattle.balance.specs.Balance.{ufe, rtaml, shares}
use Rattle.balance.specs.Quarter.{Quarter, sheet_of, refusal_of_quarter, refusal_of_shares}
use Rattle.statement.specs.Statement.{statement_of}

pub record SameBalance (x y : Quarter) : Type 0 where
  pub generation : (sheet_of x).generation ≡ (sheet_of y).generation
  pub ufe : ufe (sheet_of x) ≡ ufe (sheet_of y)
  -- of every pair, on the roll or not
  pub rtaml : (qse point : ℕ) → qse < 16 → point < 8 → rtaml (sheet_of x) qse point ≡ rtaml (sheet_of y) qse point
  -- both have shares or both lack them
  pub unshared : refusal_of_shares x ≡ refusal_of_shares y
  pub shares : shares (sheet_of x) ≡ shares (sheet_of y)

-- the text leaves nothing out: a quarter hour with the same segments on its roll and the same text has the same
-- balance, where both have answers
abbrev pub LeavesNothingOut : Quarter → Type 0
LeavesNothingOut x =
    (y : Quarter) → y.rows ≡ x.rows → refusal_of_quarter x ≡ None → refusal_of_quarter y ≡ None → statement_of x ≡ statement_of y → SameBalance x y
