-- How long the lines of the pairs get: each of at most 64 segments has one pair. Assumes nothing.
use Rattle.std.proofs.Common.{◌≡◌, ℕ, zero, suc, ◌<◌, ◌≤◌, Bool, true, false, cond, List, [], ◌∷◌, length, get_or, ℤ, pos, nat_abs, is_some, Some, None, Option, sym, refl, ap, ◌∙◌, ⊎_elim, arith}
use borrow.Author.Differences.{ints}
use Rattle.std.proofs.lemmas.Bool.{or_cases, cond-true, cond-false, cases_Bool, false≢true}
use Rattle.roll.specs.declared.row.Row.{Row}
use Rattle.roll.specs.Ranges.{ranged}
use Rattle.balance.specs.Balance.{belongs}
use Rattle.balance.specs.Totals.{total, count}
use Rattle.balance.proofs.Balanced.{pair_once}
use Rattle.balance.proofs.Totals.{total_same, total_swap, total_pos, count_most}
use Rattle.statement.specs.Statement.{some, lists_pair, pair_line, point_lines, pair_lines}
use Rattle.statement.specs.Text.{line}
use Rattle.statement.proofs.Pieces.{numeral_most, numeral_plain, line_three, lines_count}

count_less : (f g : ℕ → ℕ) (n : ℕ) → ((j : ℕ) → j < n → f j ≤ g j) → count f n ≤ count g n
unfolding count
count_less f g zero h = omega arith
count_less f g (suc n) h = omega (arith, count_less f g n (λ j l. h j (omega arith)), h n (omega arith))

-- where one holds, its number is counted
counted : (f : ℕ → Bool) (m n : ℕ) → some f n ≡ true → m ≤ count (λ s. cond (f s) m 0) n
unfolding some count
counted f m zero e = absurd (false≢true e)
counted f m (suc n) e =
    ⊎_elim (λ (t : some f n ≡ true). omega (arith, counted f m n t)) (λ (t : f n ≡ true). omega (arith, cond-true (f n) m 0 t)) (or_cases (some f n) (f n) e)

module _ (rows : List (Option Row)) where
  abbrev row : ℕ → Option Row
  row s = get_or rows s None

  -- 18 bytes for a segment on the roll
  abbrev room : ℕ → ℕ
  room s = cond (is_some (row s)) 18 0

  abbrev term : ℕ → ℕ → ℕ → ℤ
  term s q p = cond (belongs (row s) q p) (pos (room s)) (pos 0)

  own_room : (o : Option Row) (q p : ℕ) → pos (cond (belongs o q p) 18 0) ≡ cond (belongs o q p) (pos (cond (is_some o) 18 0)) (pos 0)
  own_room None q p = refl
  own_room (Some r) q p = by_cases (belongs (Some r) q p)
    where
      by_cases : (b : Bool) → pos (cond b 18 0) ≡ cond b (pos 18) (pos 0)
      by_cases true = refl
      by_cases false = refl

  no_room : (o : Option Row) → is_some o ≡ false → pos (cond (is_some o) 18 0) ≡ pos 0
  no_room o e = ap (λ (b : Bool). pos (cond b 18 0)) e

  abbrev bytes : ℕ → ℕ → ℕ
  bytes q p = count (λ s. cond (belongs (row s) q p) 18 0) 64

  bytes_are : (q p : ℕ) → pos (bytes q p) ≡ total (λ s. term s q p) 64
  bytes_are q p = sym (total_pos (λ s. cond (belongs (row s) q p) 18 0) 64) ∙ total_same _ (λ s. term s q p) 64 (λ s _. own_room (row s) q p)

  module _ (in_table : (s : ℕ) → ranged (row s) ≡ true) where
    all_bytes : pos (count (λ q. count (λ p. bytes q p) 8) 16) ≡ pos (count room 64)
    all_bytes =
        sym (total_pos (λ q. count (λ p. bytes q p) 8) 16)
        ∙ total_same _ (λ q. total (λ s. total (λ p. term s q p) 8) 64) 16
        (λ q _. sym (total_pos (λ p. bytes q p) 8) ∙ total_same _ (λ p. total (λ s. term s q p) 64) 8 (λ p _. bytes_are q p) ∙ total_swap (λ p s. term s q p) 8 64)
        ∙ total_swap (λ q s. total (λ p. term s q p) 8) 16 64
        ∙ total_same (λ s. total (λ q. total (λ p. term s q p) 8) 16) (λ s. pos (room s)) 64 (λ s _. pair_once (row s) (pos (room s)) (in_table s) (no_room (row s)))
        ∙ total_pos room 64

    room_most : (b : Bool) → cond b 18 0 ≤ 18
    room_most true = omega arith
    room_most false = omega arith

    bytes_most : count (λ q. count (λ p. bytes q p) 8) 16 ≤ 1152
    bytes_most = omega (arith, ints, all_bytes, count_most room 18 64 (λ s _. room_most (is_some (row s))))

    module _ (loads : ℕ → ℕ → ℤ) (small : (q p : ℕ) → q < 16 → p < 8 → nat_abs (loads q p) ≤ 672000000) where
      pair_most : (q p : ℕ) → q < 16 → p < 8 → length (pair_line rows loads q p) ≤ bytes q p
      unfolding pair_line lists_pair
      pair_most q p hq hp =
          ⊎_elim
          (λ (e : lists_pair rows q p ≡ true).
          let shown : pair_line rows loads q p ≡ line 65 (pos q ∷ pos p ∷ loads q p ∷ []) = cond-true (lists_pair rows q p) _ [] e in
          omega (arith, ap length shown, line_three 65 (pos q) (pos p) (loads q p), numeral_plain 2 q (omega arith) (omega arith), numeral_plain 1 p (omega arith) (omega arith), numeral_most 9 (loads q p) (omega arith) (omega (arith, small q p hq hp)), counted (λ s. belongs (row s) q p) 18 64 e))
          (λ (e : lists_pair rows q p ≡ false).
          let none : pair_line rows loads q p ≡ [] = cond-false (lists_pair rows q p) _ [] e in
          omega (arith, ap length none))
          (cases_Bool (lists_pair rows q p))

      pub pairs_most : length (pair_lines rows loads) ≤ 1152
      unfolding pair_lines point_lines
      pairs_most =
          let points : (q : ℕ) → q < 16 → length (point_lines rows loads q) ≤ count (λ p. bytes q p) 8 =
          λ q hq. omega (arith, lines_count (λ p. pair_line rows loads q p) 8, count_less (λ p. length (pair_line rows loads q p)) (λ p. bytes q p) 8 (λ p hp. pair_most q p hq hp)) in
          omega (arith, bytes_most, lines_count (λ q. point_lines rows loads q) 16, count_less (λ q. length (point_lines rows loads q)) (λ q. count (λ p. bytes q p) 8) 16 points)
