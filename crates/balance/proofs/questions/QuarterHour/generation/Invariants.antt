use Rattle.std.proofs.Common.{◌≡◌, ℕ, ◌*◌, ◌≤◌, ℤ, nat_abs, None, Option}
use Rattle.roll.specs.Entries.{sites_of}
use Rattle.balance.specs.Quarter.{figure_of, site_fault}
use Rattle.balance.specs.Figures.{figures_of}
use Rattle.balance.specs.Totals.{first_of, total}
use Rattle.balance.proofs.questions.QuarterHour.generation.Given as goal

-- the figures below the site, none of which was missing
abbrev pub invariant-loop-site : goal.invariant-loop-site
invariant-loop-site g l =
    let figure : ℕ → Option ℤ = λ i. figures_of l.self.figures.now i l.self.quarter_hour in
    (l.generation ≡ total (figure_of (sites_of l.self.roll.now) figure) l.site)
    × (nat_abs l.generation ≤ l.site * 10000000)
    × (first_of (site_fault (sites_of l.self.roll.now) figure) l.site ≡ None)
