use Rattle.std.proofs.Common.{length, pos, ap, arith, w8, w64, Fits, SFits, rules}
use Rattle.statement.specs.Text.{line}
use Rattle.statement.proofs.Passing.{three_passed}
use Rattle.statement.proofs.Pieces.{line_three, numeral_plain}
use Rattle.statement.proofs.page.Page.put_refusal.Goals as goal

pub put_line-requires : goal.put_line-requires
put_line-requires c =
    let a = c.answer-answer.result in
    let number : Fits w8 a.number = search rules in
    let subject : Fits w8 a.subject = search rules in
    let height : Fits w8 a.height = search rules in
    let f1 : SFits w64 c.from.result = search rules in
    let f2 : SFits w64 c.from-2.result = search rules in
    let f3 : SFits w64 c.from-3.result = search rules in
    let e = ap (line 82) (three_passed c.from.result c.from-2.result c.from-3.result (pos a.number) (pos a.subject) (pos a.height) f1 f2 f3 c.from.ensures c.from-2.ensures c.from-3.ensures) in
    omega (arith, c.requires, ap length e, line_three 82 (pos a.number) (pos a.subject) (pos a.height), numeral_plain 3 a.number (omega arith) (omega (arith, number.fits)), numeral_plain 3 a.subject (omega arith) (omega (arith, subject.fits)), numeral_plain 3 a.height (omega arith) (omega (arith, height.fits)))
