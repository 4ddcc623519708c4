use Rattle.std.proofs.Common.{◌+◌, ◌*◌, ◌≤◌}
use Rattle.roll.specs.Entries.{rows_of}
use Rattle.statement.specs.Statement.{share_line}
use Rattle.statement.specs.Text.{lines}
use Rattle.statement.specs.Writing.{Appends}
use Rattle.statement.proofs.account.Account.put_shares.Given as goal

-- the lines of the QSEs below stand, in at most 26 bytes each
abbrev pub invariant-loop-qse : goal.invariant-loop-qse
invariant-loop-qse l =
    record {
      lines_below : Appends l.fn.page (lines (λ q. share_line (rows_of l.self.roll.now) l.shares q) l.qse) l.page;
      most : l.page.at ≤ l.fn.page.at + 26 * l.qse;
    }
