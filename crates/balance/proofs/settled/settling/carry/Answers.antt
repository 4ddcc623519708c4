use Rattle.std.proofs.Common.{◌≡◌, ℕ, ◌<◌, ◌≤◌, List, length, get_or, ℤ, pos, ◌+ℤ◌, nat_abs, sym, ap, ◌∙◌, subst, rules, w64}
use Rattle.std.proofs.lemmas.Int.{to_z-of_z}
use Rattle.balance.specs.declared.row.LoadedRow.{LoadedRow}
use Rattle.balance.specs.Sheets.{row_load}
use Rattle.balance.proofs.Settling.{parts_most, adjusted_are, adjusted_most, pairs_are, pairs_most, qse_most, qse_are}
use Rattle.balance.proofs.settled.settling.carry.Goals as goal

-- the adjusted loads by the parts as they are defined
by_parts : (rows : List LoadedRow) (A ps qs : List ℤ) → ps ≡ qs → ((s : ℕ) (d : LoadedRow) → s < 64 → get_or A s (pos 0) ≡ pos (row_load (get_or rows s d)) +ℤ get_or ps s (pos 0)) → (s : ℕ) (d : LoadedRow) → s < 64 → get_or A s (pos 0) ≡ pos (row_load (get_or rows s d)) +ℤ get_or qs s (pos 0)
by_parts rows A ps qs e f s d h = f s d h ∙ ap (λ (xs : List ℤ). pos (row_load (get_or rows s d)) +ℤ get_or xs s (pos 0)) e

pub add_parts-adjusted-requires : goal.add_parts-adjusted-requires
add_parts-adjusted-requires c =
    let rows = c.args.rows.now in
    let many : length rows ≡ 64 = search rules in
    subst (λ (ps : List ℤ). (s : ℕ) → nat_abs (get_or ps s (pos 0)) ≤ 416000000) (sym c.requires.parts) (parts_most rows c.args.generation many c.requires.generation c.requires.carried)

pub pair_up-pairs-requires : goal.pair_up-pairs-requires
pair_up-pairs-requires c =
    let rows = c.args.rows.now in
    let A = c.add_parts-adjusted.result in
    let many : length rows ≡ 64 = search rules in
    let long : length A ≡ 64 = search rules in
    adjusted_most rows c.args.generation many c.requires.generation c.requires.carried A long (by_parts rows A _ _ c.requires.parts c.add_parts-adjusted.ensures)

pub add_points-qse_loads-requires : goal.add_points-qse_loads-requires
add_points-qse_loads-requires c =
    let rows = c.args.rows.now in
    let g = c.args.generation in
    let A = c.add_parts-adjusted.result in
    let P = c.pair_up-pairs.result in
    let many : length rows ≡ 64 = search rules in
    let long : length A ≡ 64 = search rules in
    let sums = by_parts rows A _ _ c.requires.parts c.add_parts-adjusted.ensures in
    record {
      small = pairs_most rows g many c.requires.generation c.requires.carried A long sums P c.pair_up-pairs.ensures.value;
      sums = λ q _. qse_most rows g many c.requires.generation c.requires.carried A long sums P c.pair_up-pairs.ensures.value q;
    }

pub returns : goal.returns
returns c =
    let rows = c.args.rows.now in
    let g = c.args.generation in
    let A = c.add_parts-adjusted.result in
    let P = c.pair_up-pairs.result in
    let Q = c.add_points-qse_loads.result in
    let many : length rows ≡ 64 = search rules in
    let long : length A ≡ 64 = search rules in
    let all : length Q ≡ 16 = search rules in
    let sums = by_parts rows A _ _ c.requires.parts c.add_parts-adjusted.ensures in
    record {
      generation = to_z-of_z w64 g c.ranges.generation;
      ufe = to_z-of_z w64 c.args.ufe c.ranges.ufe ∙ c.requires.ufe;
      adjusted = adjusted_are rows g many c.requires.generation c.requires.carried A long sums;
      pairs = λ q p _ _. pairs_are rows g many c.requires.generation c.requires.carried A long sums P c.pair_up-pairs.ensures.value q p;
      qse_loads_are = qse_are rows g many c.requires.generation c.requires.carried A long sums P c.pair_up-pairs.ensures.value Q all c.add_points-qse_loads.ensures;
    }
