-- A slip of another cell leaves the cell free, and a slip of the cell has the reading that stands there.
use Rattle.slips.proofs.Arranging.{found}
use Rattle.slips.proofs.list.SlipBook.find.Goals as goal

pub returns : goal.returns
returns c =
    let b = c.args.self.now in
    found b.slips.now b.used c.args.segment c.args.quarter_hour c.first_of.result b.arranged c.first_of.ensures
