-- A row that is refused is out of range. One that is read is in range, and its place was free: the new list keeps every other
-- row, and each row in range.
use Rattle.std.proofs.Common.{◌≡◌, true, None, length-set, ◌∙◌}
use Rattle.roll.specs.Ranges.{ranged}
use Rattle.roll.proofs.Places.{each_after_set}
use Rattle.roll.proofs.Records.{read_in_range}
use Rattle.roll.proofs.roll.Roll.enter_segment.Goals as goal

pub invariant_of-self : goal.invariant_of-self
invariant_of-self c =
    let roll = c.args.self.now in record {
      places = (length-set roll.segments _ _ ∙ roll.places.0, roll.places.1);
      rows_in_range = each_after_set (λ o. ranged o ≡ true) roll.segments _ _ None roll.rows_in_range (read_in_range c.in_ok-try_from.field-0 c.args.row.now c.in_ok-try_from.ensures);
    }
