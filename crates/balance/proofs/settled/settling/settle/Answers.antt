use Rattle.std.proofs.Common.{◌≡◌, ℕ, List, map, length, ℤ, pos, ◌-ℤ◌, Some, None, sum_by, Option, sym, ap, ◌∙◌, subst, arith, rules, w64, to_z, of_z}
use borrow.Author.Differences.{ints, abs_is}
use Rattle.std.proofs.lemmas.Int.{to_z-of_z}
use Rattle.std.proofs.lemmas.Result.{err_from_is_err_and}
use Rattle.refusal.specs.declared.Refusal.{Refusal}
use Rattle.split.specs.Parts.{parts_of}
use Rattle.balance.specs.declared.row.LoadedRow.{LoadedRow}
use Rattle.balance.specs.Balance.{ufe, weighted, weights, uncarried, stranded}
use Rattle.balance.specs.Settling.{Holds, sheet_in}
use Rattle.balance.specs.Sheets.{row_load, weight_of_row, row_weight_z}
use Rattle.balance.proofs.Settling.{metered_is, weighted_is, weights_are}
use Rattle.balance.proofs.settled.settling.settle.Goals as goal

-- the numbers that the program has are those of the sheet
module _ (rows : List LoadedRow) (g u : ℤ) (l w : ℕ) (many : length rows ≡ 64) (el : l ≡ sum_by row_load rows) (ew : w ≡ sum_by weight_of_row rows) (eu : u ≡ g -ℤ pos l) where
  ufe_same : u ≡ ufe (sheet_in rows g)
  ufe_same = eu ∙ ap (λ (n : ℕ). g -ℤ pos n) (el ∙ metered_is rows g many)

  stranded_same : (o : Option Refusal) → uncarried u w ≡ o → stranded (sheet_in rows g) ≡ o
  stranded_same o e =
      sym (ap (λ (z : ℤ). uncarried z w) ufe_same ∙ ap (uncarried (ufe (sheet_in rows g))) (ew ∙ weighted_is rows g many)) ∙ e

  parts_same : (ps : List ℤ) → ps ≡ parts_of u w 0 (map row_weight_z rows) → ps ≡ parts_of (ufe (sheet_in rows g)) (weighted (sheet_in rows g)) 0 (weights (sheet_in rows g))
  parts_same ps e =
      e ∙ ap (λ (z : ℤ). parts_of z w 0 (map row_weight_z rows)) ufe_same
      ∙ ap (λ (n : ℕ). parts_of (ufe (sheet_in rows g)) n 0 (map row_weight_z rows)) (ew ∙ weighted_is rows g many)
      ∙ ap (parts_of (ufe (sheet_in rows g)) (weighted (sheet_in rows g)) 0) (weights_are rows g many)

pub carry-requires : goal.carry-requires
carry-requires c =
    let rows = c.args.rows.now in
    let g : ℤ = to_z w64 (of_z w64 c.args.generation) in
    let u : ℤ = to_z w64 (of_z w64 (g -ℤ to_z w64 (of_z w64 c.from.result))) in
    let l : ℕ = c.sum_loads.result in
    let w : ℕ = c.sum_weights.result in
    let eu : u ≡ g -ℤ pos l = omega (arith, ints, c.from.ensures, c.sum_loads.ensures.bound, c.requires, abs_is c.args.generation) in
    let got = c.in_ok-parts.ensures in
    let many : length rows ≡ 64 = search rules in
    let el = c.sum_loads.ensures.value in
    let ew = c.sum_weights.ensures in
    record {
      generation = omega (arith, ints, c.requires, abs_is c.args.generation);
      ufe = ufe_same rows g u l w many el ew eu;
      carried = stranded_same rows g u l w many el ew eu None got.0;
      parts = parts_same rows g u l w many el ew eu c.in_ok-parts.parts got.1;
    }

pub returns : goal.returns
returns c =
    let rows = c.args.rows.now in
    let g : ℤ = to_z w64 (of_z w64 c.args.generation) in
    let u : ℤ = to_z w64 (of_z w64 (g -ℤ to_z w64 (of_z w64 c.from.result))) in
    let l : ℕ = c.sum_loads.result in
    let many : length rows ≡ 64 = search rules in
    let eu : u ≡ g -ℤ pos l = omega (arith, ints, c.from.ensures, c.sum_loads.ensures.bound, c.requires, abs_is c.args.generation) in
    let read = to_z-of_z w64 c.args.generation c.ranges.generation in
    let none = stranded_same rows g u l c.sum_weights.result many c.sum_loads.ensures.value c.sum_weights.ensures eu None c.in_ok-parts.ensures.0 in (
      subst (λ (z : ℤ). stranded (sheet_in rows z) ≡ None) read none,
      subst (λ (z : ℤ). Holds (sheet_in rows z) c.carry.result) read c.carry.ensures,
    )

pub returns-in_err-parts : goal.returns-in_err-parts
returns-in_err-parts c =
    let rows = c.args.rows.now in
    let g : ℤ = to_z w64 (of_z w64 c.args.generation) in
    let u : ℤ = to_z w64 (of_z w64 (g -ℤ to_z w64 (of_z w64 c.from.result))) in
    let l : ℕ = c.sum_loads.result in
    let e = c.in_err-parts.field-0.0 in
    let many : length rows ≡ 64 = search rules in
    let eu : u ≡ g -ℤ pos l = omega (arith, ints, c.from.ensures, c.sum_loads.ensures.bound, c.requires, abs_is c.args.generation) in
    let read = to_z-of_z w64 c.args.generation c.ranges.generation in
    let p = err_from_is_err_and c.from_residual.result c.from_residual.ensures.1 in
    rw (p.1, p.2)
    (subst (λ (z : ℤ). stranded (sheet_in rows z) ≡ Some e) read
    (stranded_same rows g u l c.sum_weights.result many c.sum_loads.ensures.value c.sum_weights.ensures eu (Some e) c.in_err-parts.ensures))
