use Rattle.std.proofs.Common.{refl}
use Rattle.split.specs.Floor.{floor}
use Rattle.split.specs.Parts.{running, share, part_at, parts_of}
use Rattle.losses.specs.Adjusting.{grossed_up}
use Rattle.balance.specs.Balance.{adjusted, rtaml, qse_load}
use Rattle.balance.specs.Quarter.{figure_of}
use Rattle.balance.specs.Totals.{total, count, first_of}
use Rattle.statement.specs.Statement.{some, lists_pair, lists_qse, pair_line, point_lines, pair_lines, share_line, share_lines, text_of, statement_of}
use Rattle.statement.specs.Text.{places_in, places, unsigned, numeral, fields, line, lines}
use Rattle.worked_figures.proofs.texts_stand.Goals as goal

pub returns : goal.returns
unfolding floor running share part_at parts_of grossed_up adjusted rtaml qse_load figure_of total count first_of some lists_pair lists_qse pair_line point_lines pair_lines share_line share_lines text_of statement_of places_in places unsigned numeral fields line lines
returns c = record { texts = refl; lengths = refl }
