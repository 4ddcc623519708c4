-- An answer that says only that a list was filled, and the list. Assumes nothing.
use Rattle.std.proofs.Common.{◌≡◌, cond, is_ok, Some, None, Ok, Err, Option, Result, ap}
use Rattle.refusal.specs.declared.Refusal.{Refusal}
use Rattle.balance.specs.Questions.{ok_unless}
use Rattle.day.specs.Entries.{why_not}

pub filled : {X : Type 0} (o : Option Refusal) (x old list : X) (r : Result (Unit {0}) Refusal) → r ≡ ok_unless o tt → list ≡ cond (is_ok r) x old → ok_unless (why_not r) list ≡ ok_unless o x
filled None x old list (Ok u) h e = ap Ok e
filled None x old list (Err f) h e = cc
filled (Some f) x old list (Ok u) h e = cc
filled (Some f) x old list (Err d) h e = cc
