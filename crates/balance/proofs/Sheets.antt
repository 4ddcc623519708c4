-- Sums over rows, one row at a time, and how heavy a row can be. Assumes nothing.
use Rattle.std.proofs.Common.{◌≡◌, ℕ, ◌*◌, ◌<◌, ◌≤◌, Bool, true, false, cond, ◌&&◌, eqb, List, [], ◌∷◌, length, get_or, set, ℤ, pos, ◌+ℤ◌, Some, None, sum_by, Option, sym, refl, ap, ◌∙◌, subst, zero-le, arith}
use lib.IntN.{+ℤ_idr}
use Rattle.std.proofs.lemmas.Nat.{mul-le}
use Rattle.std.specs.List.{All, AllByRecursion}
use Rattle.std.proofs.lemmas.List.Elements.{All-from_recursion}
use Rattle.std.proofs.lemmas.List.Sums.{sum_by-le}
use Rattle.std.proofs.lemmas.Bool.{cond_both, and_parts, eqb-true}
use Rattle.roll.specs.declared.row.Row.{Row}
use Rattle.roll.specs.Segments.{plain_weight}
use Rattle.book.specs.Tables.{cell}
use Rattle.book.proofs.Tables.{put_at_cell}
use Rattle.balance.specs.declared.row.LoadedRow.{LoadedRow}
use Rattle.balance.specs.Balance.{weight_in}
use Rattle.balance.specs.Sheets.{row_load, weight_of_row}

plain_weight_most : (row : Row) → plain_weight row ≤ 10
plain_weight_most row =
    cond_both (eqb row.noie 1) 0 _ (λ n. n ≤ 10) (λ _. zero-le)
    (λ _. cond_both (eqb row.meter 1) 10 _ (λ n. n ≤ 10) (λ _. omega arith) (λ _. cond_both (eqb row.code 84) 1 5 (λ n. n ≤ 10) (λ _. omega arith) (λ _. omega arith)))

pub weight_in_most : (row : Option Row) (m : ℕ) → m ≤ 4000000 → weight_in row m ≤ 40000000
weight_in_most None m h = zero-le
weight_in_most (Some row) m h = mul-le (plain_weight row) m 10 4000000 (plain_weight_most row) h

each : (f : LoadedRow → ℕ) (m : ℕ) → ((l : LoadedRow) → f l ≤ m) → (rows : List LoadedRow) → AllByRecursion (λ l. f l ≤ m) rows
each f m small [] = tt
each f m small (l ∷ rows) = (small l, each f m small rows)

most : (f : LoadedRow → ℕ) (m : ℕ) → ((l : LoadedRow) → f l ≤ m) → (rows : List LoadedRow) → length rows ≡ 64 → sum_by f rows ≤ 64 * m
most f m small rows many =
    let all : All (λ l. f l ≤ m) rows = All-from_recursion (λ l. f l ≤ m) rows (each f m small rows) in
    subst (λ (n : ℕ). sum_by f rows ≤ n * m) many (sum_by-le f m rows all)

pub loads_most : (rows : List LoadedRow) → length rows ≡ 64 → sum_by row_load rows ≤ 256000000
loads_most = most row_load 4000000 (λ l. l.small)

pub weights_most : (rows : List LoadedRow) → length rows ≡ 64 → sum_by weight_of_row rows ≤ 2560000000
weights_most = most weight_of_row 40000000 (λ l. weight_in_most l.row l.load l.small)

-- ---- pairs
-- an amount added in one place of a table
pub added_cell : (pairs : List (List ℤ)) (a b : ℕ) (x : ℤ) → a < length pairs → b < length (get_or pairs a []) → (q p : ℕ) → cell (pos 0) (set pairs a (set (get_or pairs a []) b (cell (pos 0) pairs a b +ℤ x))) q p ≡ cell (pos 0) pairs q p +ℤ cond (eqb q a && eqb p b) x (pos 0)
added_cell pairs a b x ha hb q p =
    put_at_cell (pos 0) pairs a b (cell (pos 0) pairs a b +ℤ x) ha hb q p ∙ by_place (eqb q a && eqb p b) refl
  where
    by_place : (t : Bool) → (eqb q a && eqb p b) ≡ t → cond t (cell (pos 0) pairs a b +ℤ x) (cell (pos 0) pairs q p) ≡ cell (pos 0) pairs q p +ℤ cond t x (pos 0)
    by_place true e =
        let both = and_parts (eqb q a) (eqb p b) e in
        let eq = eqb-true q a both.0 in
        let ep = eqb-true p b both.1 in
        ap (λ (z : ℤ). z +ℤ x) (ap (λ (k : ℕ). cell (pos 0) pairs k b) (sym eq) ∙ ap (λ (k : ℕ). cell (pos 0) pairs q k) (sym ep))
    by_place false e = sym (+ℤ_idr (cell (pos 0) pairs q p))
