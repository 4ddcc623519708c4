-- Whole statements, computed from the definition that the contract cites. Assumes nothing.
use Rattle.std.specs.Prelude.{ℕ, true, List, [], ◌∷◌, ◌++◌, map, length, ℤ, pos, neg_ℤ, Some, None, codes, Option, slice_index_or}
use Rattle.book.specs.Grossing.{load, plainly}
use Rattle.losses.specs.Layers.{transmitted, distributed}
use Rattle.balance.specs.Quarter.{Quarter}
use Rattle.statement.specs.Statement.{statement_of}
use Rattle.worked_figures.specs.Table.{row, four, four_codes, distribution, transmission}

-- the day of four segments through its pile, by its readings and the figures of its two sites
abbrev day : List (Option ℕ) → List (Option ℤ) → Quarter
day readings figures = record {
  rows = four;
  sites = true ∷ true ∷ [];
  gross = λ s. transmitted transmission (distributed four_codes distribution (λ t q o. plainly o)) s 0 (slice_index_or readings s None);
  figure = λ i. slice_index_or figures i None;
}

abbrev readings : List (Option ℕ)
readings = Some 1000 ∷ Some 2000 ∷ Some 3000 ∷ Some 4000 ∷ []

abbrev lone : Quarter
lone = record {
  rows = row 3 0 84 0 1 ∷ [];
  sites = true ∷ [];
  gross = λ _. load 500;
  figure = λ _. Some (pos 600);
}

abbrev empty : Quarter
empty = record { rows = []; sites = []; gross = λ _. load 0; figure = λ _. None }

abbrev pub computed_texts : List (List ℕ)
computed_texts =
    statement_of (day readings (Some (pos 11000) ∷ Some (neg_ℤ (pos 300)) ∷ []))
    ∷ statement_of (day readings (Some (pos 10300) ∷ Some (neg_ℤ (pos 300)) ∷ []))
    ∷ statement_of (day (Some 0 ∷ Some 0 ∷ Some 0 ∷ Some 0 ∷ []) (Some (pos 0) ∷ Some (pos 0) ∷ []))
    ∷ statement_of (day (Some 1000 ∷ Some 2000 ∷ None ∷ Some 4000 ∷ []) (Some (pos 11000) ∷ Some (neg_ℤ (pos 300)) ∷ []))
    ∷ statement_of (day readings (Some (pos 11000) ∷ None ∷ []))
    ∷ statement_of empty
    ∷ statement_of lone
    ∷ []

-- lines with their ends
abbrev text : List (List ℕ) → List ℕ
text [] = []
text (line ∷ lines) = line ++ (10 ∷ text lines)

abbrev pub expected_texts : List (List ℕ)
expected_texts =
    text (codes "G 10700 398" ∷ codes "A 1 0 1246" ∷ codes "A 1 1 3111" ∷ codes "A 2 0 2263" ∷ codes "A 3 1 4080" ∷ codes "S 1 407196261" ∷ codes "S 2 211495327" ∷ codes "S 3 381308412" ∷ [])
    ∷ text (codes "G 10000 -302" ∷ codes "A 1 0 937" ∷ codes "A 1 1 3022" ∷ codes "A 2 0 1961" ∷ codes "A 3 1 4080" ∷ codes "S 1 395900000" ∷ codes "S 2 196100000" ∷ codes "S 3 408000000" ∷ [])
    ∷ text (codes "G 0 0" ∷ codes "A 1 0 0" ∷ codes "A 1 1 0" ∷ codes "A 2 0 0" ∷ codes "A 3 1 0" ∷ codes "R 23 0 0" ∷ [])
    ∷ text (codes "R 18 2 2" ∷ [])
    ∷ text (codes "R 21 1 0" ∷ [])
    ∷ text (codes "R 17 0 0" ∷ [])
    ∷ text (codes "R 22 0 0" ∷ [])
    ∷ []

abbrev pub computed_lengths : List ℕ
computed_lengths = map length computed_texts

abbrev pub expected_lengths : List ℕ
expected_lengths = 98 ∷ 98 ∷ 47 ∷ 9 ∷ 9 ∷ 9 ∷ 9 ∷ []
