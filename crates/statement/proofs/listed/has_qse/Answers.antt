use Rattle.std.proofs.Common.{◌≡◌, Bool, Option, ◌∙◌, rules, tests}
use Rattle.std.specs.List.{list_any}
use Rattle.std.proofs.lemmas.Iterator.{YieldsList-from_slice}
use Rattle.std.proofs.lemmas.Iterator.Search.{any_from_yields_List}
use Rattle.roll.specs.declared.row.Row.{Row}
use Rattle.roll.specs.Entries.{rows_of}
use Rattle.statement.specs.Statement.{lists_qse, of_qse}
use Rattle.statement.proofs.Listing.{some_listed}
use Rattle.statement.proofs.listed.has_qse.Goals as goal

pub returns : goal.returns
unfolding lists_qse
returns c =
    let test : Option Row → Bool = λ row. of_qse row c.args.qse in
    let found : c.any.result ≡ list_any test (rows_of c.args.roll.now) =
    any_from_yields_List test _ _ _ c.any.ensures.ran (YieldsList-from_slice (rows_of c.args.roll.now) (cc)) (λ x b q k. search (rules, tests)) in
    found ∙ some_listed test (rows_of c.args.roll.now) c.args.roll.now.places.0
