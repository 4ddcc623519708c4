-- An adjusted load keeps the bounds of a load book. Assumes nothing.
use Rattle.std.specs.Prelude.{nat_le}
use Rattle.std.proofs.Common.{zero-le, arith}
use Rattle.std.proofs.lemmas.Bool.{cond_both, leb-true}
use Rattle.book.specs.Grossing.{Gross, load, fault, too_large, Bounded}
use Rattle.losses.specs.declared.adjust.Loss.{Loss}
use Rattle.losses.specs.declared.adjust.Loss.TheVariants.{Unchanged, Missing, Factor}
use Rattle.losses.specs.Adjusting.{adjusted, grossed_up}

pub adjusted_bounded : (l : Loss) (g : Gross) → Bounded g → Bounded (adjusted l g)
adjusted_bounded l (fault f h) b = omega arith
adjusted_bounded Unchanged (load m) b = b
adjusted_bounded Missing (load m) b = zero-le
adjusted_bounded (Factor f) (load m) b =
    cond_both (nat_le (grossed_up f m) 4000000) (load (grossed_up f m)) (fault too_large 0) Bounded
    (λ e. leb-true (grossed_up f m) 4000000 e) (λ _. zero-le)
