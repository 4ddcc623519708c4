use Rattle.std.proofs.Common.{length, ap, ◌∙◌, arith}
use Rattle.statement.proofs.Appending.{appends_then, appends_same, left}
use Rattle.statement.proofs.Pieces.{numeral_printed}
use Rattle.statement.proofs.page.Page.put_field.Goals as goal

pub put-requires-2 : goal.put-requires-2
put-requires-2 c =
    let printed = c.as_bytes.ensures.value ∙ c.format.ensures.text ∙ numeral_printed c.args.n c.ranges.n in
    left 1 (length c.as_bytes.result.now) (omega (arith, c.requires, ap length printed)) (omega arith) c.put.ensures

pub returns : goal.returns
returns c =
    let printed = c.as_bytes.ensures.value ∙ c.format.ensures.text ∙ numeral_printed c.args.n c.ranges.n in
    appends_then (omega (arith, c.requires)) c.put.ensures (appends_same printed c.put-2.ensures)
