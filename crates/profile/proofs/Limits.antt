-- A list that is looked through for a number above its limit. Assumes nothing.
use Rattle.std.proofs.Common.{◌≡◌, ℕ, ◌+◌, ◌<◌, ◌≤◌, Bool, true, false, ◌&&◌, leb, List, [], ◌∷◌, map, length, get_or, drop, ℤ, pos, nat_abs, ◌≤ℤ◌, ap, ◌∙◌, arith}
use lib.ListN.{length-map}
use borrow.Author.Differences.{ints, abs_is}
use Rattle.std.specs.List.{AllByRecursion}
use Rattle.std.proofs.ByRecursion.{All-get_or}
use Rattle.std.proofs.lemmas.List.{at_drop_more, at_drop_all, get_or-map}
use Rattle.std.proofs.lemmas.Bool.{and_parts, le-leb, lt-leb, leb-true}
use Rattle.profile.specs.Answer.{up_to}

module _ (limit : ℕ) (xs : List ℕ) (i : ℕ) where
  looked : i < length xs → (b : Bool) → leb (get_or xs i 0) limit ≡ b → up_to limit (drop i xs) ≡ (b && up_to limit (drop (i + 1) xs))
  looked h b e = at_drop_more (up_to limit) xs i 0 h ∙ ap (λ t. t && up_to limit (drop (i + 1) xs)) e

  -- one above the limit settles it, one that is not leaves it to the rest, and nothing left is none above
  pub up_to_over : i < length xs → limit < get_or xs i 0 → up_to limit (drop i xs) ≡ false
  up_to_over h over = looked h false (lt-leb (get_or xs i 0) limit over)

  pub up_to_more : i < length xs → get_or xs i 0 ≤ limit → up_to limit (drop i xs) ≡ up_to limit (drop (i + 1) xs)
  up_to_more h under = looked h true (le-leb (get_or xs i 0) limit under)

  pub up_to_end : length xs ≤ i → up_to limit (drop i xs) ≡ true
  up_to_end h = at_drop_all (up_to limit) xs i h

pub all_up_to : (limit : ℕ) (xs : List ℕ) → up_to limit xs ≡ true → AllByRecursion (λ x. x ≤ limit) xs
all_up_to limit [] e = tt
all_up_to limit (x ∷ xs) e =
    let b = and_parts (leb x limit) (up_to limit xs) e in
    (leb-true x limit b.0, all_up_to limit xs b.1)

-- a part that is not negative, and the same part as a plain number
module _ (ps : List ℤ) (i : ℕ) (within : i < length ps) (low : AllByRecursion (λ p. pos 0 ≤ℤ p) ps) where
  pub plain_within : i < length (map nat_abs ps)
  plain_within = simp length-map within

  pub plain_part : pos (get_or (map nat_abs ps) i 0) ≡ get_or ps i (pos 0)
  plain_part =
      let at : get_or (map nat_abs ps) i 0 ≡ nat_abs (get_or ps i (pos 0)) = get_or-map nat_abs ps i (pos 0) 0 within in
      let here : pos 0 ≤ℤ get_or ps i (pos 0) = All-get_or (λ p. pos 0 ≤ℤ p) ps i (pos 0) within low in
      omega (arith, ints, at, abs_is (get_or ps i (pos 0)))
