-- What a line on a draft is answered. Assumes nothing.
use Rattle.std.specs.Prelude.{◌≡◌, ℕ, ◌+◌, cond, replicate, Some, None, Ok, Err, Option, Result, nat_lt}
use Rattle.refusal.specs.declared.Refusal.{Refusal}
use Rattle.roll.specs.Drafts.{Contents, contents_of, begun, roll_of}
use Rattle.roll.specs.Entries.{rows_of, sites_of, segment_entry, site_entry}
use Rattle.pile.specs.Layers.{layers_of, height_of, layer_at, distribution_answer, transmission_answer, codes_given}
use Rattle.desk.specs.declared.order.Order.{Order}
use Rattle.desk.specs.declared.order.Order.TheVariants as order
use Rattle.desk.specs.declared.reply.Reply.{Reply}
use Rattle.desk.specs.declared.reply.Reply.TheVariants as reply
use Rattle.desk.specs.declared.reply.Rejection.{Rejection}
use Rattle.desk.specs.declared.reply.Rejection.TheVariants.{NoLayer, Unlawful, Refused}
use Rattle.desk.specs.declared.reply.Untaken.TheVariants as untaken
use Rattle.desk.specs.declared.setup.Bottom.TheVariants.{Grid}
use Rattle.desk.specs.declared.setup.Setup.{Setup}

-- a day is begun with an empty roll, over a grid, without a layer; or is refused
abbrev pub BegunAs : ℕ → Result Setup Refusal → Type 0
BegunAs n (Ok s) = (Ok (contents_of s.draft) ≡ begun n) × (s.bottom ≡ Grid) × (layers_of s.layers ≡ replicate 4 None) × (height_of s.layers ≡ 0)
BegunAs n (Err e) = Err e ≡ begun n

abbrev pub begun_reply : ℕ → Result Contents Refusal → Result Reply Rejection
begun_reply n (Ok c) = Ok (reply.Begun n)
begun_reply n (Err e) = Err (Refused e)

abbrev pub done_reply : Reply → Result (Unit {0}) Refusal → Result Reply Rejection
done_reply said (Ok u) = Ok said
done_reply said (Err e) = Err (Refused e)

-- the layer is looked for before anything is refused
abbrev pub filled_reply : Option (Result (Unit {0}) Refusal) → Result Reply Rejection
filled_reply None = Err NoLayer
filled_reply (Some r) = done_reply reply.FactorGiven r

-- a fifth layer is not taken
abbrev pub layer_reply : (ℕ → Reply) → ℕ → Result Reply Rejection
layer_reply said height = cond (nat_lt height 4) (Ok (said (height + 1))) (Err (Unlawful untaken.FourLayers))

abbrev pub draft_reply : Setup → Order → Result Reply Rejection
draft_reply s (order.Day n) = begun_reply n (begun n)
draft_reply s (order.Segment n row) = done_reply reply.OnRoll (segment_entry (rows_of (roll_of s.draft)) n row)
draft_reply s (order.Site n) = done_reply reply.OnRoll (site_entry (sites_of (roll_of s.draft)) n)
draft_reply s order.Grid = Ok reply.Grid
draft_reply s (order.Slips n) = Ok (reply.Slips n)
draft_reply s order.Distribution = layer_reply (λ n. reply.Distribution n) (height_of s.layers)
draft_reply s order.Transmission = layer_reply (λ n. reply.Transmission n) (height_of s.layers)
draft_reply s (order.DistributionFactor n letter q f) = filled_reply (distribution_answer (layer_at (layers_of s.layers) n) letter q f)
draft_reply s (order.TransmissionFactor n q f) = filled_reply (transmission_answer (layer_at (layers_of s.layers) n) q f)
draft_reply s (order.Codes n) = cond (codes_given (layer_at (layers_of s.layers) n)) (Ok reply.CodesTakenOver) (Err NoLayer)
draft_reply s order.Open = Err (Unlawful untaken.Draft)
draft_reply s (order.Profile g reading) = Err (Unlawful untaken.Draft)
draft_reply s (order.Statement q) = Err (Unlawful untaken.Draft)
draft_reply s (order.Call c) = Err (Unlawful untaken.Draft)
