-- A layer keeps the bounds of a load book. Assumes nothing.
use Rattle.std.specs.Prelude.{ℕ, None, slice_index_or}
use Rattle.book.specs.Grossing.{Gross, Bounded}
use Rattle.losses.specs.Adjusting.{given}
use Rattle.losses.specs.Bounds.{adjusted_bounded}
use Rattle.losses.specs.Layers.{loss_by_code}
use Rattle.pile.specs.Layers.{Meaning, distribution, transmission, adjusted_by}

pub layer_bounded : (layer : Meaning) (s q : ℕ) (g : Gross) → Bounded g → Bounded (adjusted_by layer s q g)
layer_bounded (distribution codes factors) s q g h = adjusted_bounded (loss_by_code factors q (slice_index_or codes s None)) g h
layer_bounded (transmission factors) s q g h = adjusted_bounded (given (factors 0 q)) g h
