-- Whether one of several holds. Assumes nothing.
use Rattle.std.proofs.Common.{◌≡◌, ℕ, zero, suc, ◌<◌, ◌≤◌, Bool, false, ◌||◌, List, [], ◌∷◌, length, get_or, take, None, Option, sym, refl, ap, ◌∙◌, subst, ⊎_elim, arith}
use Rattle.std.proofs.lemmas.Bool.{cases_eq, or_parts}
use Rattle.std.specs.List.{list_any}
use Rattle.std.proofs.Math.Bool.{or-false}
use Rattle.std.proofs.Math.Seq.{take-suc}
use Rattle.std.proofs.lemmas.List.{take_all}
use Rattle.std.proofs.lemmas.List.Folds.{list_any-append}
use Rattle.roll.specs.declared.row.Row.{Row}
use Rattle.statement.specs.Statement.{some}

-- one by one or as a list
taken : (f : Option Row → Bool) (rows : List (Option Row)) (n : ℕ) → n ≤ length rows → list_any f (take n rows) ≡ some (λ s. f (get_or rows s None)) n
unfolding some
taken f rows zero h = refl
taken f rows (suc n) h =
    ap (list_any f) (take-suc rows n None h) ∙ list_any-append f (take n rows) (get_or rows n None ∷ [])
    ∙ ap (λ (b : Bool). list_any f (take n rows) || b) (or-false (f (get_or rows n None))) ∙ ap (λ (b : Bool). b || f (get_or rows n None)) (taken f rows n (omega arith))

pub some_listed : (f : Option Row → Bool) (rows : List (Option Row)) → length rows ≡ 64 → list_any f rows ≡ some (λ s. f (get_or rows s None)) 64
some_listed f rows long = ap (list_any f) (sym (take_all 64 rows (omega arith))) ∙ taken f rows 64 (omega arith)

-- where none holds, each one fails
pub some_failed : (f : ℕ → Bool) (k n : ℕ) → k < n → some f n ≡ false → f k ≡ false
unfolding some
some_failed f k zero h e = absurd (omega arith)
some_failed f k (suc n) h e =
    let both = or_parts (some f n) (f n) e in
    ⊎_elim (λ (same : k ≡ n). subst (λ (m : ℕ). f m ≡ false) (sym same) both.1)
    (λ (ne : k ≡ n → ⊥). some_failed f k n (omega arith) both.0) (cases_eq k n)
