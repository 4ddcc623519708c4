use Rattle.std.proofs.Common.{◌≡◌, ℕ, ◌<◌, map, length, get_or, ℤ, pos, ◌*ℤ◌, sym, ap, ◌∙◌, arith, w32, w64, to_z, of_z, rules}
use lib.IntN.{+ℤ_idr}
use lib.ListN.{length-map}
use Rattle.std.specs.List.{range_with_len}
use Rattle.std.proofs.lemmas.List.FromFn.{fill_by_all}
use Rattle.std.proofs.lemmas.List.Edits.{fill_by_more}
use Rattle.std.proofs.lemmas.List.{get_or-map}
use Rattle.std.proofs.lemmas.Int.{to_z-of_z}
use Rattle.split.specs.Floor.{rest}
use Rattle.split.specs.Parts.{part_at, parts_of}
use Rattle.split.proofs.Parts.{part_carried, rest_carried, running_none, due}
use Rattle.split.proofs.fill_parts.Goals as goal

pub loop-i-init : goal.loop-i-init
loop-i-init g c =
    let amount : ℤ = to_z w32 (of_z w32 c.args.amount) in
    let read = to_z-of_z w64 c.owed.result (search rules) in
    let cast = to_z-of_z w64 c.from.result (search rules) in
    let start : c.owed.result ≡ amount *ℤ pos c.args.before =
    c.owed.ensures ∙ +ℤ_idr _ ∙ ap (λ (z : ℤ). amount *ℤ z) (cast ∙ c.from.ensures) in
    let none = running_none c.args.before (map g.T.Weighted.weight c.args.items.now) in (
      c.divide-carried.ensures.remainder
          ∙ ap (λ (z : ℤ). rest z c.args.whole) (read ∙ start ∙ ap (λ (z : ℤ). amount *ℤ z) (sym none)),
      λ k h. absurd (omega arith),
    )

pub loop-i-preserved : goal.loop-i-preserved
loop-i-preserved g c =
    let amount : ℤ = to_z w32 (of_z w32 c.args.amount) in
    let whole = c.args.whole in
    let before = c.args.before in
    let i = c.loop-i.i in
    let ws = map g.T.Weighted.weight c.args.items.now in
    let within : i < length ws = simp length-map (omega arith) in
    let at : get_or ws i (pos 0) ≡ c.weight.result =
    get_or-map g.T.Weighted.weight c.args.items.now i c.index-items-i.result (pos 0) (omega arith)
    ∙ ap g.T.Weighted.weight (sym c.index-items-i.is) ∙ sym c.weight.ensures.value in
    let cast = to_z-of_z w64 c.weight.result (search rules) in
    let owes = c.owed-in-loop-i.ensures in
    let carried = c.loop-i.invariant.0 in
    let falls : c.owed-in-loop-i.result ≡ due amount whole before ws i = cc in
    let read = to_z-of_z w64 c.owed-in-loop-i.result (search rules) in
    let out = to_z-of_z w64 c.divide-part.result.0 (search rules) in
    let quotient = c.divide-part.ensures.quotient in
    let remainder = c.divide-part.ensures.remainder in
    let part = part_carried amount whole before ws i c.requires.some within in
    let left = rest_carried amount whole before ws i c.requires.some within in
    let written : to_z w64 (of_z w64 c.divide-part.result.0) ≡ part_at amount whole before ws i = cc in
    let more = fill_by_more (part_at amount whole before ws) c.loop-i.parts i (pos 0) (omega arith) c.loop-i.invariant.1 in (
      cc,
      rw written more,
    )

pub returns : goal.returns
unfolding parts_of
returns g c =
    let amount : ℤ = to_z w32 (of_z w32 c.args.amount) in
    let ws = map g.T.Weighted.weight c.args.items.now in
    let many : c.loop-i.i ≡ length ws = simp length-map (omega arith) in
    let all = fill_by_all (part_at amount c.args.whole c.args.before ws) c.loop-i.parts c.loop-i.i (pos 0) (omega arith) c.loop-i.invariant.1 in
    let read = to_z-of_z w32 c.args.amount c.ranges.amount in
    all
    ∙ ap (λ (n : ℕ). map (part_at amount c.args.whole c.args.before ws) (range_with_len 0 n)) many
    ∙ ap (λ (z : ℤ). parts_of z c.args.whole c.args.before ws) read
