use Rattle.std.proofs.Common.{◌≡◌, ℕ, List, [], ◌∷◌, ◌++◌, length, get_or, ℤ, pos, sym, ap, subst, arith, length-append, w64, SFits, rules, to_z, of_z}
use Rattle.std.proofs.lemmas.Int.{to_z-of_z}
use Rattle.statement.specs.declared.page.Page.{Page}
use Rattle.statement.specs.Text.{numeral, line, lines}
use Rattle.statement.specs.Writing.{Appends, Fits}
use Rattle.statement.proofs.Appending.{appends_none, appends_then, appends_same, appends_line, fits_then, fits_line}
use Rattle.statement.proofs.Pieces.{field, line_is}
use Rattle.statement.proofs.page.Page.put_line.Goals as goal

-- the fields and the line's end have room behind the letter
room : {old mid : Page} (letter : ℕ) (ns : List ℤ) → Fits old (line letter ns) → Appends old (letter ∷ []) mid → Fits mid (lines (field ns) (length ns) ++ (10 ∷ []))
room {old} letter ns fits w =
    fits_then (lines (field ns) (length ns) ++ (10 ∷ [])) (subst (λ (xs : List ℕ). Fits old xs) (line_is letter ns) fits) w

-- a number as it is handed over
passed : (ns : List ℤ) (i : ℕ) → SFits w64 (get_or ns i (pos 0)) → 32 ∷ numeral (to_z w64 (of_z w64 (get_or ns i (pos 0)))) ≡ field ns i
passed ns i fits = ap (λ (z : ℤ). 32 ∷ numeral z) (to_z-of_z w64 (get_or ns i (pos 0)) fits)

pub put-requires : goal.put-requires
put-requires c = omega (arith, c.requires, ap length (line_is c.args.letter c.args.numbers.now))

pub loop-n-init : goal.loop-n-init
unfolding lines
loop-n-init c = appends_none c.put.new.self

pub put_field-requires : goal.put_field-requires
put_field-requires c =
    let ns = c.args.numbers.now in
    let i = c.loop-n.n-index in
    let all : Fits c.put.new.self (lines (field ns) (length ns)) = omega (arith, room c.args.letter ns c.requires c.put.ensures, length-append (lines (field ns) (length ns)) (10 ∷ [])) in
    omega (arith, fits_line (field ns) i (length ns) c.loop-n-test.true all c.loop-n.invariant, ap length (passed ns i (search rules)))

pub loop-n-preserved : goal.loop-n-preserved
loop-n-preserved c =
    let ns = c.args.numbers.now in
    let i = c.loop-n.n-index in
    appends_line (field ns) i (omega (arith, room c.args.letter ns c.requires c.put.ensures)) c.loop-n.invariant (appends_same (passed ns i (search rules)) c.put_field.ensures)

pub put-requires-2 : goal.put-requires-2
put-requires-2 c =
    let ns = c.args.numbers.now in
    let all = appends_same (ap (lines (field ns)) (omega arith)) c.loop-n.invariant in
    fits_then (10 ∷ []) (room c.args.letter ns c.requires c.put.ensures) all

pub returns : goal.returns
returns c =
    let ns = c.args.numbers.now in
    let all : Appends c.put.new.self (lines (field ns) (length ns)) c.loop-n.self = appends_same (ap (lines (field ns)) (omega arith)) c.loop-n.invariant in
    let behind = appends_then (omega (arith, room c.args.letter ns c.requires c.put.ensures)) all c.put-2.ensures in
    appends_same (sym (line_is c.args.letter ns)) (appends_then (omega (arith, c.requires)) c.put.ensures behind)
