-- A marked cell has its number in the list.
use Rattle.std.proofs.Common.{Some, sym, ap, ◌∙◌, arith, get_or}
use Rattle.grid.proofs.Cells.{marked_in_list, standing_marked, standing_unmarked}
use Rattle.grid.proofs.grid.Grid.held.Goals as goal

pub bounds-self-place : goal.bounds-self-place
bounds-self-place c =
    let g = c.args.self.now in
    let whole = marked_in_list g.cells.now g.marks c.args.segment c.args.quarter_hour _ (omega arith) (omega arith) (omega arith) g.housed (sym c.if-has.ensures) in
    omega (arith, c.place.ensures)

pub returns-then-has : goal.returns-then-has
returns-then-has c =
    let g = c.args.self.now in
    ap (λ i. Some (get_or g.cells.now i 0)) c.place.ensures ∙ sym (standing_marked g.cells.now g.marks c.args.segment c.args.quarter_hour _ (omega arith) (omega arith) (omega arith) (sym c.if-has.ensures))

pub returns-else-has : goal.returns-else-has
returns-else-has c =
    let g = c.args.self.now in
    sym (standing_unmarked g.cells.now g.marks c.args.segment c.args.quarter_hour _ (omega arith) (omega arith) (omega arith) (sym c.if-has.ensures))
