-- What an accepted split tells. Assumes nothing.
use Rattle.std.proofs.Common.{◌≡◌, ℕ, ℤ, pos, nat_abs, Ok, arith}
use borrow.Author.Differences.{ints, abs_is}
use Rattle.std.proofs.lemmas.Bool.Decides.{nat_tests}
use Rattle.split.specs.Answer.{split_answer}

pub accepted_lengths : (amount : ℤ) (whole n m : ℕ) (u : Unit {0}) → Ok u ≡ split_answer amount whole n m → m ≡ n
accepted_lengths amount whole n m u e = grind (arith, nat_tests)

pub accepted_amount : (amount : ℤ) (whole n m : ℕ) (u : Unit {0}) → Ok u ≡ split_answer amount whole n m → whole ≡ 0 → amount ≡ pos 0
accepted_amount amount whole n m u e z =
    let none : nat_abs amount ≡ 0 = grind (arith, nat_tests) in
    omega (arith, ints, abs_is amount)
