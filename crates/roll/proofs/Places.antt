-- What a list of places keeps when one of them is written. Assumes nothing.
use Rattle.std.proofs.Common.{◌≡◌, ℕ, zero, suc, false, List, [], ◌∷◌, get_or, set, replicate, is_some, Some, None, Option, sym, refl, ap, ◌∙◌, ⊎_elim, get_or-set_other}
use Rattle.std.proofs.lemmas.Bool.{cases_eq, both_ways}

-- where every place holds the default, so does any place that is asked for
pub slice_index_or_blank : {A : Type 0} (n k : ℕ) (d : A) → get_or (replicate n d) k d ≡ d
slice_index_or_blank zero k d = refl
slice_index_or_blank (suc n) zero d = refl
slice_index_or_blank (suc n) (suc k) d = slice_index_or_blank n k d

-- what holds of each place and of the new value holds of each place after the write
pub each_after_set : {A : Type 0} (P : A → Type 0) (xs : List A) (i : ℕ) (v d : A) → ((k : ℕ) → P (get_or xs k d)) → P v → (k : ℕ) → P (get_or (set xs i v) k d)
each_after_set P [] i v d each new k = each k
each_after_set P (x ∷ xs) zero v d each new zero = new
each_after_set P (x ∷ xs) zero v d each new (suc k) = each (suc k)
each_after_set P (x ∷ xs) (suc i) v d each new zero = each zero
each_after_set P (x ∷ xs) (suc i) v d each new (suc k) = each_after_set P xs i v d (λ t. each (suc t)) new k

-- a write to a free place leaves what stands in the others
pub kept_after_set : {A : Type 0} (xs : List (Option A)) (i : ℕ) (v : Option A) → is_some (get_or xs i None) ≡ false → (k : ℕ) (old : A) → get_or xs k None ≡ Some old → get_or (set xs i v) k None ≡ Some old
kept_after_set xs i v free k old stood =
    ⊎_elim
    (λ e. absurd (both_ways (is_some (get_or xs i None)) free (ap (λ j. is_some (get_or xs j None)) (sym e) ∙ ap is_some stood)))
    (λ other. get_or-set_other xs i k v None other ∙ stood)
    (cases_eq k i)
