use Rattle.std.proofs.Common.{rules}
use Rattle.walkthrough.proofs.Thousands.{three_places}
use Rattle.walkthrough.proofs.figures.GroupedDisplay.fmt.Goals as goal

pub returns-then-n-lt1000000-clause-writes : goal.returns-then-n-lt1000000-clause-writes
returns-then-n-lt1000000-clause-writes g c = search (rules, three_places)

pub returns-then-n-lt1000000000-clause-writes : goal.returns-then-n-lt1000000000-clause-writes
returns-then-n-lt1000000000-clause-writes g c = search (rules, three_places)

pub returns-else-n-lt1000000000-clause-writes : goal.returns-else-n-lt1000000000-clause-writes
returns-else-n-lt1000000000-clause-writes g c = search (rules, three_places)
