use Rattle.std.proofs.Common.{◌≡◌, ℕ, Some, None, Option, ◌∙◌, rules}
use Rattle.desk.specs.Fields.{whole_of}
use Rattle.desk.proofs.Reading.{whole_read}
use Rattle.desk.proofs.field.Field.whole.Goals as goal

pub returns-in-Whole-clause-text : goal.returns-in-Whole-clause-text
returns-in-Whole-clause-text c =
    let self = c.args.self.now in
    let field : ◌≡◌ {A = Option ℕ} (Some c.in-Whole.value) (whole_of self) = search rules in
    λ bytes e. field ∙ whole_read self bytes e

pub returns-in_default : goal.returns-in_default
returns-in_default c =
    let self = c.args.self.now in
    let field : ◌≡◌ {A = Option ℕ} None (whole_of self) = search rules in
    record { field = field; text = λ bytes e. field ∙ whole_read self bytes e }
