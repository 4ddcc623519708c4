use Rattle.statement.proofs.Telling.{leaves_nothing_out}
use Rattle.day.specs.Holding.{day_quarter}
use Rattle.day.proofs.states.Day.statement.Goals as goal

pub returns-in_err-quarter_hour-clause-law : goal.returns-in_err-quarter_hour-clause-law
returns-in_err-quarter_hour-clause-law g c = leaves_nothing_out (day_quarter g.B.LoadBook c.args.self.now c.args.quarter_hour)
