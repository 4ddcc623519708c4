-- Sums of weights, and one step of the split. Assumes nothing.
use Rattle.std.proofs.Common.{◌≡◌, ℕ, ◌+◌, ◌<◌, List, [], ◌∷◌, ◌++◌, length, get_or, take, ℤ, pos, ◌+ℤ◌, ◌*ℤ◌, sym, ap, ◌∙◌, arith}
use lib.IntN.{+ℤ_assoc, +ℤ_idl, +ℤ_idr}
use borrow.Author.Differences.{ints}
use Rattle.std.proofs.lemmas.List.{take_more}
use Rattle.split.specs.Floor.{floor, rest}
use Rattle.split.specs.Parts.{sum_of, running, share, part_at}
use Rattle.split.proofs.Integers.{*ℤ-distrib-left}
use Rattle.split.proofs.Floor.{floor_carries}

pub sum_of_append : (xs ys : List ℤ) → sum_of (xs ++ ys) ≡ sum_of xs +ℤ sum_of ys
sum_of_append [] ys = sym (+ℤ_idl (sum_of ys))
sum_of_append (x ∷ xs) ys = ap (λ (z : ℤ). x +ℤ z) (sum_of_append xs ys) ∙ sym (+ℤ_assoc x (sum_of xs) (sum_of ys))

pub running_none : (before : ℕ) (ws : List ℤ) → running before ws 0 ≡ pos before
unfolding running
running_none before ws = +ℤ_idr (pos before)

pub running_more : (before : ℕ) (ws : List ℤ) (k : ℕ) → k < length ws → running before ws (k + 1) ≡ running before ws k +ℤ get_or ws k (pos 0)
unfolding running
running_more before ws k h =
    let e : sum_of (take (k + 1) ws) ≡ sum_of (take k ws) +ℤ (get_or ws k (pos 0) +ℤ pos 0) =
    ap sum_of (take_more ws k (pos 0) h) ∙ sum_of_append (take k ws) (get_or ws k (pos 0) ∷ []) in
    ap (λ (z : ℤ). pos before +ℤ z) e ∙ omega (arith, ints)

-- what falls due at place k: its exact part times the whole, and the remainder that came to it
abbrev pub due : ℤ → ℕ → ℕ → List ℤ → ℕ → ℤ
due amount whole before ws k = amount *ℤ get_or ws k (pos 0) +ℤ pos (rest (amount *ℤ running before ws k) whole)

-- the floor of what falls due is the part, and its rest the next remainder
module _ (amount : ℤ) (whole before : ℕ) (ws : List ℤ) (k : ℕ) (some : 0 < whole) (within : k < length ws) where
  stepped : amount *ℤ running before ws (k + 1) ≡ amount *ℤ running before ws k +ℤ amount *ℤ get_or ws k (pos 0)
  stepped =
      ap (λ (z : ℤ). amount *ℤ z) (running_more before ws k within)
      ∙ *ℤ-distrib-left amount (running before ws k) (get_or ws k (pos 0))

  carries : (floor (amount *ℤ running before ws (k + 1)) whole ≡ floor (amount *ℤ running before ws k) whole +ℤ floor (due amount whole before ws k) whole) × (rest (amount *ℤ running before ws (k + 1)) whole ≡ rest (due amount whole before ws k) whole)
  carries = rw stepped (floor_carries (amount *ℤ running before ws k) (amount *ℤ get_or ws k (pos 0)) whole some)

  pub part_carried : floor (due amount whole before ws k) whole ≡ part_at amount whole before ws k
  unfolding part_at share
  part_carried = omega (arith, ints, carries.0)

  pub rest_carried : rest (due amount whole before ws k) whole ≡ rest (amount *ℤ running before ws (k + 1)) whole
  rest_carried = sym carries.1
