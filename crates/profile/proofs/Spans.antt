-- The days of a span add up to its reading. Assumes nothing.
use Rattle.std.proofs.Common.{◌≡◌, ℕ, ◌+◌, ◌*◌, ◌/◌, ◌<◌, List, [], ◌∷◌, sum, ap, ◌∙◌, add-zero, add_assoc, mul-zero, mul-div_cancel, arith}
use native.Mathlib.Nat.{zero-div}
use Rattle.profile.specs.Quarters.{day_of}
use Rattle.profile.specs.Spans.{sum_all, days_of}
use Rattle.profile.proofs.Quarters.{used_mono, day_sum}

-- a chain of days gets what lies between its two ends
chain_sum : (K P b : ℕ) (days : List (List ℕ)) → days_of K P b days + K * b / P ≡ K * (b + sum_all days) / P
chain_sum K P b [] = rw add-zero (omega arith)
chain_sum K P b (d ∷ ds) =
    let later = chain_sum K P (b + sum d) ds in
    let ends : K * (b + sum d + sum_all ds) / P ≡ K * (b + (sum d + sum_all ds)) / P = ap (λ (n : ℕ). K * n / P) (add_assoc b (sum d) (sum_all ds)) in
    omega (arith, day_sum K P b d, used_mono K P b (b + sum d) (omega arith), later, ends)

pub span_sum : (K P B : ℕ) (ws : List ℕ) → 0 < P → (earlier later : List (List ℕ)) → sum_all earlier ≡ B → B + sum ws + sum_all later ≡ P → days_of K P 0 earlier + sum (day_of K P B ws) + days_of K P (B + sum ws) later ≡ K
span_sum K P B ws some earlier later before whole =
    let none : K * 0 / P ≡ 0 = ap (λ (n : ℕ). n / P) (mul-zero K) ∙ zero-div P in
    let start : K * (0 + sum_all earlier) / P ≡ K * B / P = ap (λ (n : ℕ). K * n / P) (omega arith) in
    let all : K * (B + sum ws + sum_all later) / P ≡ K = ap (λ (n : ℕ). K * n / P) whole ∙ mul-div_cancel K some in
    omega (arith, chain_sum K P 0 earlier, day_sum K P B ws, used_mono K P B (B + sum ws) (omega arith), chain_sum K P (B + sum ws) later)
