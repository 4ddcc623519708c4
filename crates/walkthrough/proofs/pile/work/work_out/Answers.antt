use Rattle.std.proofs.Common.{ap, ◌∙◌}
use Rattle.book.specs.Cells.{put}
use Rattle.losses.specs.Adjusting.{grossed_up}
use Rattle.roll.specs.Entries.{rows_of}
use Rattle.roll.specs.declared.roll.Roll.{Roll}
use Rattle.walkthrough.proofs.Piles.{known_climb, climbs_same}
use Rattle.walkthrough.proofs.pile.work.work_out.Goals as goal

-- the definitions, computed at the cells that are asked for
pub returns : goal.returns
unfolding put grossed_up
returns c =
    let rows = ap (λ (x : Roll). rows_of x) c.roll-roll.ensures ∙ c.in_ok-draft.ensures in
    climbs_same
    (known_climb _ _ 0 48 rows c.in_ok-climb_from_grid.ensures)
    (known_climb _ _ 2 48 rows c.in_ok-climb_from_grid-2.ensures)
    (known_climb _ _ 5 48 rows c.in_ok-climb_from_grid-3.ensures)
    (known_climb _ _ 0 49 rows c.in_ok-climb_from_grid-4.ensures)
    c.in_ok-at_once.ensures
