use Rattle.std.proofs.Common.{rules}
use Rattle.balance.proofs.figures.Figures.at.Goals as goal

pub returns-clause-within : goal.returns-clause-within
returns-clause-within c = search (rules, c.args.self.now.within c.args.site c.args.quarter_hour)
