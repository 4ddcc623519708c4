use Rattle.std.proofs.Common.{◌≡◌, ℕ, ◌<◌, ◌≤◌, true, List, [], ◌∷◌, length, get_or, ℤ, pos, Option, sym, ap, ◌∙◌, arith, w64, SFits, rules, to_z}
use Rattle.std.proofs.lemmas.Bool.{cond-true, cond-false}
use Rattle.std.proofs.lemmas.Int.{to_z-of_z}
use Rattle.roll.specs.declared.row.Row.{Row}
use Rattle.roll.specs.Entries.{rows_of}
use Rattle.statement.specs.Statement.{lists_qse, share_line, share_lines}
use Rattle.statement.specs.Text.{line, lines}
use Rattle.statement.specs.Writing.{Appends}
use Rattle.statement.proofs.Appending.{appends_none, appends_same, appends_line, kept}
use Rattle.statement.proofs.Passing.{passed}
use Rattle.statement.proofs.Pieces.{abs_most, line_two, numeral_most, numeral_plain}
use Rattle.statement.proofs.account.Account.put_shares.Goals as goal
use Rattle.statement.proofs.account.Account.put_shares.Goals.{then-has_qse, else-has_qse}

pub loop-qse-init : goal.loop-qse-init
unfolding lines
loop-qse-init c = record { lines_below = appends_none c.args.page.now; most = omega arith }

handed_most : (qse : ℕ) (z : ℤ) → qse < 16 → SFits w64 z → length (line 83 (pos qse ∷ z ∷ [])) ≤ 26
handed_most qse z h fits =
    omega (arith, line_two 83 (pos qse) z, numeral_plain 2 qse (omega arith) (omega arith), numeral_most 19 z (omega arith) (omega (arith, abs_most z, fits.sfits)))

-- the line of a QSE as its numbers are handed over, and its most bytes
handed : (rows : List (Option Row)) (shares : List ℤ) (qse : ℕ) → qse < 16 → SFits w64 (get_or shares qse (pos 0)) → true ≡ lists_qse rows qse → (line 83 (to_z w64 qse ∷ passed (get_or shares qse (pos 0)) ∷ []) ≡ share_line rows shares qse) × (length (share_line rows shares qse) ≤ 26)
unfolding share_line
handed rows shares qse h fits on =
    let q : to_z w64 qse ≡ pos qse = search rules in
    let z = to_z-of_z w64 (get_or shares qse (pos 0)) fits in
    let numbers : ◌≡◌ {A = List ℤ} (to_z w64 qse ∷ passed (get_or shares qse (pos 0)) ∷ []) (pos qse ∷ get_or shares qse (pos 0) ∷ []) = cc in
    let shown : share_line rows shares qse ≡ line 83 (pos qse ∷ get_or shares qse (pos 0) ∷ []) = cond-true _ _ [] (sym on) in
    let most = handed_most qse (get_or shares qse (pos 0)) h fits in (
      ap (line 83) numbers ∙ sym shown,
      omega (arith, ap length shown, most),
    )

pub put_line-requires : goal.put_line-requires
put_line-requires c =
    let rows = rows_of c.args.self.now.roll.now in
    let shares = c.args.shares.now in
    let qse = c.loop-qse.qse in
    let fits : SFits w64 (get_or shares qse (pos 0)) = search rules in
    let line = handed rows shares qse c.loop-qse-test.true fits c.if-has_qse.ensures in
    omega (arith, c.requires, c.loop-qse.invariant.most, kept (omega (arith, c.requires, c.loop-qse.invariant.most, c.loop-qse.invariant.lines_below.ends)) c.loop-qse.invariant.lines_below, ap length line.0, line.1)

pub loop-qse-preserved : goal.loop-qse-preserved
unfolding share_line
loop-qse-preserved c =
    let rows = rows_of c.args.self.now.roll.now in
    let shares = c.args.shares.now in
    let qse = c.loop-qse.qse in
    let here : Appends c.loop-qse.page (share_line rows shares qse) c.if-has_qse.page × (length (share_line rows shares qse) ≤ 26) =
    elim c.if-has_qse.branch [
      | then-has_qse w ↦ let line = handed rows shares qse c.loop-qse-test.true (search rules) w.if-has_qse.ensures in rw w.page-is (appends_same line.0 w.put_line.ensures, line.1)
      | else-has_qse w ↦ let none : share_line rows shares qse ≡ [] = cond-false _ _ [] (sym w.if-has_qse.ensures) in rw w.page-is (appends_same (sym none) (appends_none c.loop-qse.page), omega (arith, ap length none))
    ] in
    record {
      lines_below = appends_line (share_line rows shares) qse (omega (arith, c.requires)) c.loop-qse.invariant.lines_below here.0;
      most = omega (arith, here.0.ends, here.1, c.loop-qse.invariant.most);
    }

pub returns : goal.returns
unfolding share_lines
returns c =
    appends_same (ap (lines (share_line (rows_of c.args.self.now.roll.now) c.args.shares.now)) (omega arith)) c.loop-qse.invariant.lines_below
