-- When a balance has shares. Assumes nothing.
use Rattle.std.proofs.Common.{◌≡◌, ℕ, ◌<◌, true, cond, eqb, ℤ, pos, nat_abs, ◌<ℤ◌, Some, None, Ok, Err, Option, sym, refl, ap, ◌∙◌, arith}
use lib.Signed.{lt_z}
use borrow.Author.Differences.{ints, abs_is}
use Rattle.std.proofs.lemmas.Bool.{cond-true, cond-false, eq-eqb, ne_eqb, and_left}
use Rattle.std.proofs.lemmas.Bool.Decides.{nat_tests}
use Rattle.refusal.specs.declared.Refusal.{Refusal}
use Rattle.refusal.specs.declared.Refusal.TheVariants.{ListLength, NoWeight, NoTotal}
use Rattle.split.specs.Answer.{split_answer}
use Rattle.balance.specs.Questions.{ok_unless, misfit, nowhere}
use Rattle.balance.specs.Totals.{or_else}

pub positive_is : (gen : ℤ) → pos 0 <ℤ gen → lt_z (pos 0) gen ≡ true
positive_is gen h = grind (arith, ints)

-- a positive total over 16 QSEs is always split
pub shares_answered : (gen : ℤ) (n m : ℕ) → n ≡ 16 → m ≡ 16 → pos 0 <ℤ gen → split_answer (pos 1000000000) (nat_abs gen) m n ≡ ok_unless (or_else (misfit 16 n) (cond (lt_z (pos 0) gen) None (Some NoTotal))) tt
shares_answered gen n m en em h =
    let some : nat_abs gen ≡ 0 → ⊥ = λ z. omega (arith, ints, abs_is gen) in
    let split : split_answer (pos 1000000000) (nat_abs gen) m n ≡ Ok tt =
    cond-true (eqb n m) _ (Err ListLength) (eq-eqb n m (en ∙ sym em))
    ∙ cond-false _ (Err NoWeight) (Ok tt) (and_left (eqb (nat_abs gen) 0) _ (ne_eqb (nat_abs gen) 0 some)) in
    let fits : misfit 16 n ≡ None = cond-true (eqb n 16) None (Some ListLength) (eq-eqb n 16 en) in
    let shared : cond (lt_z (pos 0) gen) None (Some NoTotal) ≡ None = cond-true (lt_z (pos 0) gen) None (Some NoTotal) (positive_is gen h) in
    split
    ∙ sym (ap (λ (o : Option Refusal). ok_unless (or_else o (cond (lt_z (pos 0) gen) None (Some NoTotal))) tt) fits ∙ ap (λ (o : Option Refusal). ok_unless o tt) shared)

-- a pair that was let through
pub pair_is : (qse point : ℕ) (t : Unit {0}) → Ok t ≡ ok_unless (nowhere qse point) tt → (qse < 16) × (point < 8)
pair_is qse point t h = (grind (arith, nat_tests), grind (arith, nat_tests))

-- ---- one more thing to look at, where nothing else is amiss
pub none_between : (a m r : Option Refusal) → or_else a r ≡ None → or_else a (or_else m r) ≡ m
none_between None None r h = h
none_between None (Some e) r h = refl
none_between (Some e) m r h = cc
