use Rattle.statement.proofs.Telling.{leaves_nothing_out}
use Rattle.statement.proofs.whole.write_statement.Goals as goal

pub returns-then-quarter_hour-gt99-clause-law : goal.returns-then-quarter_hour-gt99-clause-law
returns-then-quarter_hour-gt99-clause-law g c = leaves_nothing_out _

pub returns-then-text-ne-ROOM-clause-law : goal.returns-then-text-ne-ROOM-clause-law
returns-then-text-ne-ROOM-clause-law g c = leaves_nothing_out _

pub returns-clause-law : goal.returns-clause-law
returns-clause-law g c = leaves_nothing_out _
