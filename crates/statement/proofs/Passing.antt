-- Numbers that are handed over in a list, and so read from their bits. Assumes nothing.
use Rattle.std.proofs.Common.{◌≡◌, List, [], ◌∷◌, ℤ, w64, SFits, to_z, of_z}
use Rattle.std.proofs.lemmas.Int.{to_z-of_z}

abbrev pub passed : ℤ → ℤ
passed z = to_z w64 (of_z w64 z)

pub two_passed : (a b a' b' : ℤ) → SFits w64 a → SFits w64 b → a ≡ a' → b ≡ b' → ◌≡◌ {A = List ℤ} (passed a ∷ passed b ∷ []) (a' ∷ b' ∷ [])
two_passed a b a' b' fa fb ea eb =
    let x = to_z-of_z w64 a fa in
    let y = to_z-of_z w64 b fb in
    cc

pub three_passed : (a b d a' b' d' : ℤ) → SFits w64 a → SFits w64 b → SFits w64 d → a ≡ a' → b ≡ b' → d ≡ d' → ◌≡◌ {A = List ℤ} (passed a ∷ passed b ∷ passed d ∷ []) (a' ∷ b' ∷ d' ∷ [])
three_passed a b d a' b' d' fa fb fd ea eb ed =
    let x = to_z-of_z w64 a fa in
    let y = to_z-of_z w64 b fb in
    let z = to_z-of_z w64 d fd in
    cc
