-- What a reader of a balance relies on. Assumes nothing.
use Rattle.std.specs.Prelude.{◌≡◌, ℕ, ◌<◌, false, pos, ◌+ℤ◌, ◌-ℤ◌, ◌*ℤ◌, ◌<ℤ◌, is_some, unsigned_abs}
use Rattle.split.specs.Parts.{sum_of}
use Rattle.balance.specs.Balance.{Sheet, weight_of, weighted, ufe, adjusted, rtaml, rtamltot, shares}
use Rattle.balance.specs.Totals.{total}

pub record Balanced (y : Sheet) : Type 0 where
  -- the adjusted loads of all segments add up to the generation
  pub loads_add_up : total (adjusted y) 64 ≡ y.generation
  -- and so do those of all pairs, by QSE and by settlement point
  pub pairs_add_up : rtamltot y ≡ y.generation
  pub points_add_up : total (λ point. total (λ qse. rtaml y qse point) 16) 8 ≡ y.generation
  -- where that is positive, the shares add up to one
  pub shares_add_up : pos 0 <ℤ y.generation → sum_of (shares y) ≡ pos 1000000000
  -- every segment is less than 1 Wh from its load and its exact part of the UFE
  pub near : (s : ℕ) → s < 64 → 0 < weighted y → unsigned_abs (adjusted y s *ℤ pos (weighted y) -ℤ (pos (y.load s) *ℤ pos (weighted y) +ℤ ufe y *ℤ pos (weight_of y s))) < weighted y
  -- where no load has a weight, each is its own adjusted load
  pub unweighted : weighted y ≡ 0 → (s : ℕ) → s < 64 → adjusted y s ≡ pos (y.load s)
  -- a segment that is not on the roll has none
  pub off_roll : (s : ℕ) → s < 64 → is_some (y.row s) ≡ false → adjusted y s ≡ pos 0
