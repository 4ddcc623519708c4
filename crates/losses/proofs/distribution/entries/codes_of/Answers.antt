use Rattle.std.proofs.Common.{◌≡◌, map, length, get_or, None, sym, ◌∙◌, arith, length-set}
use lib.ListN.{length-map}
use Rattle.std.proofs.lemmas.List.Edits.{fill_by_more}
use Rattle.std.proofs.lemmas.List.{ext_get_or, get_or-map}
use Rattle.roll.specs.Entries.{rows_of}
use Rattle.losses.specs.Layers.{roll_code}
use Rattle.losses.proofs.distribution.entries.codes_of.Goals as goal

pub loop-segment-preserved : goal.loop-segment-preserved
loop-segment-preserved c =
    let s = c.loop-segment.segment in
    let codes = c.loop-segment.codes in
    let rows = rows_of c.args.roll.now in
    record {
      many = length-set codes s _ ∙ c.loop-segment.invariant.many;
      below = rw (c.code_in.ensures, c.rows-row-items.ensures) (fill_by_more (λ k. roll_code (get_or rows k None)) codes s None (omega arith) c.loop-segment.invariant.below);
    }

pub returns : goal.returns
returns c =
    let codes = c.loop-segment.codes in
    let rows = rows_of c.args.roll.now in
    let many : length codes ≡ length rows = omega arith in
    ext_get_or None codes (map roll_code rows) (many ∙ sym (length-map rows roll_code))
    (λ i h. c.loop-segment.invariant.below i (omega arith) ∙ sym (get_or-map roll_code rows i None None (omega arith)))
