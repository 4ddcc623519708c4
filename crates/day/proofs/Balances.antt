-- Every quarter hour with answers is in balance, whatever stands. Assumes nothing.
use Rattle.std.proofs.Common.{◌≡◌, ℕ, Bool, true, false, cond, map, get_or, ℤ, pos, ◌<ℤ◌, Some, None, refl, ◌∙◌, subst, arith}
use lib.Signed.{lt_z}
use borrow.Author.Differences.{ints}
use Rattle.std.specs.List.{range_with_len}
use Rattle.refusal.specs.declared.Refusal.TheVariants.{NoTotal}
use Rattle.roll.specs.Ranges.{ranged}
use Rattle.split.specs.Parts.{sum_of}
use Rattle.balance.specs.Balance.{adjusted, rtamltot, unshared, shares}
use Rattle.balance.specs.Laws.{Balanced}
use Rattle.balance.specs.Quarter.{Quarter, sheet_of, refusal_of_quarter, refusal_of_shares}
use Rattle.balance.proofs.Answering.{unlisted_load, carried_in}
use Rattle.balance.proofs.Balanced.{balanced}
use Rattle.balance.proofs.Totals.{sum_of_counting, none_first, none_later}

-- shares were not refused for want of a total
positive : (b : Bool) → cond b None (Some NoTotal) ≡ None → b ≡ true
positive true h = refl
positive false h = cc

above : (z : ℤ) → lt_z (pos 0) z ≡ true → pos 0 <ℤ z
above z h = omega (arith, ints)

module _ (x : Quarter) (in_table : (s : ℕ) → ranged (get_or x.rows s None) ≡ true) where
  pub quarter_balanced : refusal_of_quarter x ≡ None → Balanced (sheet_of x)
  quarter_balanced h =
      balanced (sheet_of x) (carried_in x h) in_table (λ s e. unlisted_load (get_or x.rows s None) (x.gross s) e)

  pub loads_come_to : refusal_of_quarter x ≡ None → sum_of (map (adjusted (sheet_of x)) (range_with_len 0 64)) ≡ (sheet_of x).generation
  loads_come_to h = sum_of_counting (adjusted (sheet_of x)) 64 ∙ (quarter_balanced h).loads_add_up

  pub shares_come_to : refusal_of_shares x ≡ None → sum_of (shares (sheet_of x)) ≡ pos 1000000000
  shares_come_to h =
      let law = quarter_balanced (none_first (refusal_of_quarter x) (unshared (sheet_of x)) h) in
      let total = positive (lt_z (pos 0) (rtamltot (sheet_of x))) (none_later (refusal_of_quarter x) (unshared (sheet_of x)) h) in
      law.shares_add_up (subst (λ (z : ℤ). pos 0 <ℤ z) law.pairs_add_up (above (rtamltot (sheet_of x)) total))
