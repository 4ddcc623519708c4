use Rattle.std.proofs.Common.{ℕ, ◌*◌, ◌≤◌, ℤ, nat_abs, Option, refl, subst, zero-le, add-mul, arith}
use borrow.Author.Differences.{ints}
use Rattle.std.proofs.lemmas.Result.{err_from_is_err_and}
use Rattle.roll.specs.Entries.{sites_of}
use Rattle.balance.specs.Quarter.{figure_of, site_fault}
use Rattle.balance.specs.Figures.{figures_of}
use Rattle.balance.specs.Totals.{total}
use Rattle.balance.proofs.Totals.{first_none, first_passed, first_found, total_more}
use Rattle.balance.proofs.questions.QuarterHour.generation.Goals as goal

pub loop-site-init : goal.loop-site-init
unfolding total
loop-site-init g c = (refl, zero-le, first_none _)

pub loop-site-preserved : goal.loop-site-preserved
unfolding figure_of
loop-site-preserved g c =
    let sites = sites_of c.args.self.now.roll.now in
    let figure : ℕ → Option ℤ = λ i. figures_of c.args.self.now.figures.now i c.args.self.now.quarter_hour in
    let site = c.loop-site.site in
    let inv = c.loop-site.invariant in
    let got = c.in_ok-site_generation.ensures in
    let more = total_more (figure_of sites figure) site in
    let before : nat_abs c.loop-site.generation ≤ site * 10000000 = subst (λ (z : ℤ). nat_abs z ≤ site * 10000000) c.loop-site.generation-is inv.1 in (
      omega (arith, ints, more, got.0, inv.0),
      omega (arith, ints, before, got.1, add-mul site 1 10000000),
      first_passed (site_fault sites figure) site inv.2 got.2,
    )

pub returns-in_err-site_generation : goal.returns-in_err-site_generation
returns-in_err-site_generation g c =
    let figure : ℕ → Option ℤ = λ i. figures_of c.args.self.now.figures.now i c.args.self.now.quarter_hour in
    let p = err_from_is_err_and c.from_residual.result c.from_residual.ensures.1 in
    rw (p.1, p.2) (first_found (site_fault (sites_of c.args.self.now.roll.now) figure) _ c.loop-site.site 16 c.loop-site-test.true c.loop-site.invariant.2 c.in_err-site_generation.ensures)
