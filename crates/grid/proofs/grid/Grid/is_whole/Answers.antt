-- Never more readings stand than there are places.
use Rattle.grid.specs.Grids.{standing_of}
use Rattle.grid.proofs.Cells.{full_by_length}
use Rattle.grid.proofs.grid.Grid.is_whole.Goals as goal

pub returns-clause-room : goal.returns-clause-room
returns-clause-room c s q hs hq = let g = c.args.self.now in full_by_length g.cells.now (standing_of g) s q hs hq g.housed
