use Rattle.std.proofs.Common.{◌≡◌, ℕ, ◌<◌, true, List, [], ◌∷◌, length, ℤ, pos, Ok, Option, sym, ap, ◌∙◌, arith, w64, SFits, rules}
use Rattle.std.proofs.lemmas.Bool.{cond-true, cond-false}
use Rattle.std.proofs.lemmas.Bool.Decides.{nat_tests}
use Rattle.roll.specs.declared.row.Row.{Row}
use Rattle.roll.specs.Entries.{rows_of}
use Rattle.balance.specs.Questions.{ok_unless, nowhere}
use Rattle.statement.specs.Statement.{lists_pair, pair_line}
use Rattle.statement.specs.Text.{line}
use Rattle.statement.specs.Writing.{loads_of}
use Rattle.statement.proofs.Appending.{appends_none, appends_same}
use Rattle.statement.proofs.Passing.{passed, three_passed}
use Rattle.statement.proofs.account.Account.put_pair.Goals as goal

-- a QSE and a settlement point in range have their RTAML
in_table : (qse point : ℕ) (z v : ℤ) → qse < 16 → point < 8 → Ok z ≡ ok_unless (nowhere qse point) v → z ≡ v
in_table qse point z v hq hp e = grind (arith, nat_tests)

-- the line as its numbers are handed over
handed : {a b d : ℤ} (rows : List (Option Row)) (loads : ℕ → ℕ → ℤ) (qse point : ℕ) → true ≡ lists_pair rows qse point → a ≡ pos qse → b ≡ pos point → d ≡ loads qse point → SFits w64 a → SFits w64 b → SFits w64 d → line 65 (passed a ∷ passed b ∷ passed d ∷ []) ≡ pair_line rows loads qse point
unfolding pair_line
handed {a} {b} {d} rows loads qse point on ea eb ed fa fb fd =
    ap (line 65) (three_passed a b d (pos qse) (pos point) (loads qse point) fa fb fd ea eb ed) ∙ sym (cond-true _ _ [] (sym on))

pub put_line-requires : goal.put_line-requires
put_line-requires c =
    let load = in_table c.args.qse c.args.point c.unwrap-load.result (loads_of c.args.self.now.balance c.args.qse c.args.point) c.requires.qse c.requires.point (sym c.unwrap-load.ensures ∙ c.rtaml.ensures) in
    omega (arith, c.requires.room, ap length (handed (rows_of c.args.self.now.roll.now) (loads_of c.args.self.now.balance) c.args.qse c.args.point c.if-has_pair.ensures c.from.ensures c.from-then-has_pair.ensures load (search rules) (search rules) (search rules)))

pub returns-then-has_pair : goal.returns-then-has_pair
returns-then-has_pair c =
    let load = in_table c.args.qse c.args.point c.unwrap-load.result (loads_of c.args.self.now.balance c.args.qse c.args.point) c.requires.qse c.requires.point (sym c.unwrap-load.ensures ∙ c.rtaml.ensures) in
    appends_same (handed (rows_of c.args.self.now.roll.now) (loads_of c.args.self.now.balance) c.args.qse c.args.point c.if-has_pair.ensures c.from.ensures c.from-then-has_pair.ensures load (search rules) (search rules) (search rules)) c.put_line.ensures

pub returns-else-has_pair : goal.returns-else-has_pair
unfolding pair_line
returns-else-has_pair c =
    appends_same (sym (cond-false _ _ [] (sym c.if-has_pair.ensures))) (appends_none c.args.page.now)
