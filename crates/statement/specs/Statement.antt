-- The statement of a quarter hour. Assumes nothing.
use Rattle.std.specs.Prelude.{ℕ, zero, suc, Bool, false, cond, ◌||◌, List, [], ◌∷◌, ◌++◌, ℤ, pos, Some, None, Option, ◌==◌, slice_index_or}
use Rattle.refusal.specs.declared.Answer.{Answer}
use Rattle.refusal.specs.declared.Refusal.{Refusal}
use Rattle.refusal.specs.Table.{answer_of}
use Rattle.roll.specs.declared.row.Row.{Row}
use Rattle.balance.specs.Balance.{ufe, belongs, rtaml, shares}
use Rattle.balance.specs.Quarter.{Quarter, sheet_of, refusal_of_quarter, refusal_of_shares}
use Rattle.statement.specs.Text.{line, lines}

-- ---- who is on the roll

-- whether one of f 0, f 1, .. f (n - 1) holds
unfoldable pub some : (ℕ → Bool) → ℕ → Bool
some f zero = false
some f (suc n) = some f n || f n

-- a segment on the roll is the QSE's, at the settlement point
unfoldable pub lists_pair : List (Option Row) → ℕ → ℕ → Bool
lists_pair rows qse point = some (λ s. belongs (slice_index_or rows s None) qse point) 64

abbrev pub of_qse : Option Row → ℕ → Bool
of_qse None qse = false
of_qse (Some row) qse = qse == row.qse

-- a segment on the roll is the QSE's, wherever it stands
unfoldable pub lists_qse : List (Option Row) → ℕ → Bool
lists_qse rows qse = some (λ s. of_qse (slice_index_or rows s None) qse) 64

-- ---- the lines: G 71, A 65, S 83, R 82

abbrev pub answer_line : Answer → List ℕ
answer_line a = line 82 (pos a.number ∷ pos a.subject ∷ pos a.height ∷ [])

unfoldable pub pair_line : List (Option Row) → (ℕ → ℕ → ℤ) → ℕ → ℕ → List ℕ
pair_line rows loads qse point =
    cond (lists_pair rows qse point) (line 65 (pos qse ∷ pos point ∷ loads qse point ∷ [])) []

-- upward by settlement point, and by QSE
unfoldable pub point_lines : List (Option Row) → (ℕ → ℕ → ℤ) → ℕ → List ℕ
point_lines rows loads qse = lines (λ point. pair_line rows loads qse point) 8

unfoldable pub pair_lines : List (Option Row) → (ℕ → ℕ → ℤ) → List ℕ
pair_lines rows loads = lines (λ qse. point_lines rows loads qse) 16

unfoldable pub share_line : List (Option Row) → List ℤ → ℕ → List ℕ
share_line rows shares qse = cond (lists_qse rows qse) (line 83 (pos qse ∷ slice_index_or shares qse (pos 0) ∷ [])) []

unfoldable pub share_lines : List (Option Row) → List ℤ → List ℕ
share_lines rows shares = lines (λ qse. share_line rows shares qse) 16

-- a refusal has its line in the place of what it refuses
abbrev pub or_refusal : Option Refusal → List ℕ → List ℕ
or_refusal None text = text
or_refusal (Some refusal) text = answer_line (answer_of refusal)

-- ---- the text

-- generation and UFE, the RTAML of the pairs on the roll, and the shares or why there are none
unfoldable pub text_of : List (Option Row) → ℤ → ℤ → (ℕ → ℕ → ℤ) → Option Refusal → List ℤ → List ℕ
text_of rows generation ufe loads unshared shares =
    line 71 (generation ∷ ufe ∷ []) ++ (pair_lines rows loads ++ or_refusal unshared (share_lines rows shares))

unfoldable pub statement_of : Quarter → List ℕ
statement_of x =
    or_refusal (refusal_of_quarter x) (text_of x.rows (sheet_of x).generation (ufe (sheet_of x)) (rtaml (sheet_of x)) (refusal_of_shares x) (shares (sheet_of x)))
