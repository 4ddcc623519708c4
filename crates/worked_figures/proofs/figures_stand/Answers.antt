use Rattle.std.proofs.Common.{refl}
use Rattle.split.specs.Floor.{floor}
use Rattle.split.specs.Parts.{running, share, part_at, parts_of}
use Rattle.profile.specs.Quarters.{quarter_of, day_of}
use Rattle.losses.specs.Adjusting.{grossed_up}
use Rattle.balance.specs.Balance.{adjusted, rtaml, qse_load}
use Rattle.balance.specs.Totals.{total, count}
use Rattle.worked_figures.proofs.figures_stand.Goals as goal

pub returns : goal.returns
unfolding floor running share part_at parts_of quarter_of day_of grossed_up adjusted rtaml qse_load total count
returns c = refl
