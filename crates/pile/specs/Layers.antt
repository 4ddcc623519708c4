-- What the layers of a pile mean, and what filling one answers and leaves. Assumes nothing.
use Rattle.std.specs.Prelude.{ℕ, ◌-◌, Bool, true, false, cond, List, map, Some, None, Option, Result, ◌==◌, slice_index_or}
use Rattle.std.specs.Option.{option_map}
use Rattle.refusal.specs.declared.Refusal.{Refusal}
use Rattle.roll.specs.Marks.{code_of}
use Rattle.roll.specs.declared.row.Row.{Row}
use Rattle.book.specs.Grossing.{Gross, Grossing}
use Rattle.book.specs.Tables.{at}
use Rattle.losses.specs.Factors.{Factors}
use Rattle.losses.specs.Layered.{layered, maybe}
use Rattle.losses.specs.Layers.{Codes, distributed_cell, transmitted_cell, roll_code, letter_row, factor_answer, after_giving}
use Rattle.pile.specs.declared.layers.Layer.{Layer}
use Rattle.pile.specs.declared.layers.Layer.TheVariants as layer
use Rattle.pile.specs.declared.layers.Layers.{Layers}

-- a layer by what its grossing depends on
pub data Meaning : Type 0 where
  distribution : Codes → Factors → Meaning
  transmission : Factors → Meaning

abbrev pub meaning_of : Layer → Meaning
meaning_of (layer.Distribution t) = distribution t.codes (at t.factors.rows)
meaning_of (layer.Transmission t) = transmission (at t.factors.rows)

-- what a layer makes of one cell
abbrev pub adjusted_by : Meaning → ℕ → ℕ → Gross → Gross
adjusted_by (distribution codes factors) s q g = distributed_cell codes factors s q g
adjusted_by (transmission factors) s q g = transmitted_cell factors s q g

-- the grossing under a layer, or under none
abbrev pub raised : Option Meaning → Grossing → Grossing
raised layer below = layered (maybe adjusted_by) layer below

-- the layers from the lowest, and how many there are
abbrev pub layers_of : Layers → List (Option Meaning)
layers_of l = map (option_map meaning_of) l.layers

abbrev pub height_of : Layers → ℕ
height_of l = l.height

-- layers are numbered from 1
abbrev pub layer_at : List (Option Meaning) → ℕ → Option Meaning
layer_at layers n = cond (n == 0) None (slice_index_or layers (n - 1) None)

-- ---- filling a layer: none where there is no layer, or one of the other kind
abbrev pub distribution_answer : Option Meaning → ℕ → ℕ → ℕ → Option (Result (Unit {0}) Refusal)
distribution_answer None letter q f = None
distribution_answer (Some (distribution codes factors)) letter q f = Some (factor_answer (letter_row (code_of letter)) q f)
distribution_answer (Some (transmission factors)) letter q f = None

abbrev pub distribution_after : Option Meaning → ℕ → ℕ → ℕ → Option Meaning
distribution_after None letter q f = None
distribution_after (Some (distribution codes factors)) letter q f =
    Some (distribution codes (after_giving (factor_answer (letter_row (code_of letter)) q f) (letter_row (code_of letter)) q f factors))
distribution_after (Some (transmission factors)) letter q f = Some (transmission factors)

abbrev pub transmission_answer : Option Meaning → ℕ → ℕ → Option (Result (Unit {0}) Refusal)
transmission_answer None q f = None
transmission_answer (Some (distribution codes factors)) q f = None
transmission_answer (Some (transmission factors)) q f = Some (factor_answer (Some 0) q f)

abbrev pub transmission_after : Option Meaning → ℕ → ℕ → Option Meaning
transmission_after None q f = None
transmission_after (Some (distribution codes factors)) q f = Some (distribution codes factors)
transmission_after (Some (transmission factors)) q f = Some (transmission (after_giving (factor_answer (Some 0) q f) (Some 0) q f factors))

-- the codes of a roll go into a distribution layer only
abbrev pub codes_given : Option Meaning → Bool
codes_given None = false
codes_given (Some (distribution codes factors)) = true
codes_given (Some (transmission factors)) = false

abbrev pub codes_after : Option Meaning → List (Option Row) → Option Meaning
codes_after None rows = None
codes_after (Some (distribution codes factors)) rows = Some (distribution (map roll_code rows) factors)
codes_after (Some (transmission factors)) rows = Some (transmission factors)
