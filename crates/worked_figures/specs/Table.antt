-- Worked figures, computed from the definitions that the contracts cite. Assumes nothing.
use Rattle.std.specs.Prelude.{ℕ, List, [], ◌∷◌, ◌++◌, map, take, ℤ, pos, negsuc, neg_ℤ, Some, None, Option, slice_index, slice_index_or}
use Rattle.refusal.specs.declared.Refusal.{Refusal}
use Rattle.refusal.specs.Table.{answer_of}
use Rattle.roll.specs.declared.row.LossCode.{LossCode}
use Rattle.roll.specs.declared.row.LossCode.TheVariants as code
use Rattle.roll.specs.declared.row.Row.{Row}
use Rattle.split.specs.Parts.{part_at}
use Rattle.profile.specs.Quarters.{day_of}
use Rattle.book.specs.Grossing.{Gross, load, fault, plainly}
use Rattle.losses.specs.Adjusting.{grossed_up}
use Rattle.losses.specs.Layers.{transmitted, distributed}
use Rattle.balance.specs.Balance.{Sheet, ufe, weighted, weights, stranded, unshared, adjusted, rtaml, shares}

abbrev pub row : ℕ → ℕ → ℕ → ℕ → ℕ → Option Row
row qse point letter meter noie = Some (record { qse = qse; point = point; code = letter; meter = meter; noie = noie })

abbrev sheet : List (Option Row) → List ℕ → ℤ → Sheet
sheet rows loads g = record { row = λ s. slice_index_or rows s None; load = λ s. slice_index loads s; generation = g }

-- ---- the day of four segments
abbrev pub four : List (Option Row)
four = row 1 0 65 1 0 ∷ row 2 0 66 0 0 ∷ row 1 1 84 0 0 ∷ row 3 1 84 0 1 ∷ []

abbrev pub four_codes : List (Option LossCode)
four_codes = Some code.A ∷ Some code.B ∷ Some code.T ∷ Some code.T ∷ []

-- distribution factors 50,000 for A and 25,000 for B; transmission 20,000
abbrev pub distribution : ℕ → ℕ → Option ℕ
distribution k q = slice_index_or (Some 50000 ∷ Some 25000 ∷ []) k None

abbrev pub transmission : ℕ → ℕ → Option ℕ
transmission k q = Some 20000

-- what a reading comes to through the pile, transmission on top of distribution
abbrev load_in : Gross → ℤ
load_in (load m) = pos m
load_in (fault f h) = negsuc h

abbrev through_pile : ℕ → ℕ → ℤ
through_pile s reading = load_in (transmitted transmission (distributed four_codes distribution (λ t q o. plainly o)) s 0 (Some reading))

abbrev day_s : ℤ → Sheet
day_s g = sheet four (1071 ∷ 2091 ∷ 3060 ∷ 4080 ∷ []) g

-- a part of the UFE
abbrev part : Sheet → ℕ → ℤ
part y s = part_at (ufe y) (weighted y) 0 (weights y) s

-- ---- a negative sum, a lone NOIE load, no loads
abbrev negative : Sheet
negative = sheet (row 1 0 65 1 0 ∷ row 3 0 65 0 1 ∷ []) (100 ∷ 1000 ∷ []) (pos 900)

abbrev lone : ℤ → Sheet
lone g = sheet (row 3 0 84 0 1 ∷ []) (500 ∷ []) g

abbrev nothing : Sheet
nothing = sheet four [] (pos 0)

-- the number of a refusal, 0 for none
abbrev number : Option Refusal → ℤ
number None = pos 0
number (Some r) = pos (answer_of r).number

-- the shares of QSE 0 to 3
abbrev first_shares : Sheet → List ℤ
first_shares y = take 4 (shares y)

abbrev pub computed : List ℤ
computed =
    (through_pile 0 1000 ∷ through_pile 1 2000 ∷ through_pile 2 3000 ∷ through_pile 3 4000 ∷ [])
    ++ (ufe (day_s (pos 10700)) ∷ part (day_s (pos 10700)) 0 ∷ part (day_s (pos 10700)) 1 ∷ part (day_s (pos 10700)) 2 ∷ part (day_s (pos 10700)) 3 ∷ [])
    ++ (rtaml (day_s (pos 10700)) 1 0 ∷ rtaml (day_s (pos 10700)) 1 1 ∷ rtaml (day_s (pos 10700)) 2 0 ∷ rtaml (day_s (pos 10700)) 3 1 ∷ [])
    ++ first_shares (day_s (pos 10700))
    ++ (adjusted (day_s (pos 10000)) 0 ∷ adjusted (day_s (pos 10000)) 1 ∷ adjusted (day_s (pos 10000)) 2 ∷ adjusted (day_s (pos 10000)) 3 ∷ [])
    ++ (pos (grossed_up 50000 10) ∷ map pos (day_of 100 3 0 (1 ∷ 1 ∷ 1 ∷ 0 ∷ 0 ∷ [])))
    ++ (adjusted negative 0 ∷ adjusted negative 1 ∷ []) ++ first_shares negative
    ++ (number (stranded (lone (pos 500))) ∷ number (stranded (lone (pos 600))) ∷ [])
    ++ (adjusted nothing 0 ∷ adjusted nothing 1 ∷ adjusted nothing 2 ∷ adjusted nothing 3 ∷ number (stranded nothing) ∷ number (unshared nothing) ∷ [])

abbrev pub expected : List ℤ
expected =
    (pos 1071 ∷ pos 2091 ∷ pos 3060 ∷ pos 4080 ∷ [])
    ++ (pos 398 ∷ pos 175 ∷ pos 172 ∷ pos 51 ∷ pos 0 ∷ [])
    ++ (pos 1246 ∷ pos 3111 ∷ pos 2263 ∷ pos 4080 ∷ [])
    ++ (pos 0 ∷ pos 407196261 ∷ pos 211495327 ∷ pos 381308412 ∷ [])
    ++ (pos 937 ∷ pos 1961 ∷ pos 3022 ∷ pos 4080 ∷ [])
    ++ (pos 11 ∷ pos 33 ∷ pos 33 ∷ pos 34 ∷ pos 0 ∷ pos 0 ∷ [])
    ++ (neg_ℤ (pos 100) ∷ pos 1000 ∷ []) ++ (pos 0 ∷ neg_ℤ (pos 111111112) ∷ pos 0 ∷ pos 1111111112 ∷ [])
    ++ (pos 0 ∷ pos 22 ∷ [])
    ++ (pos 0 ∷ pos 0 ∷ pos 0 ∷ pos 0 ∷ pos 0 ∷ pos 23 ∷ [])
