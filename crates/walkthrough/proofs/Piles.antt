-- What a layer of a pile answers, by equals for what it is made of.
use Rattle.std.proofs.Common.{◌≡◌, ℕ, true, false, cond, eqb, List, Some, None, Ok, Option, Result, refl, ap, ◌∙◌}
use Rattle.refusal.specs.declared.Refusal.{Refusal}
use Rattle.roll.specs.declared.row.Row.{Row}
use Rattle.book.specs.Cells.{Standing, nothing}
use Rattle.book.specs.Grossing.{Gross, Grossing}
use Rattle.book.specs.Tables.{blank, put_at}
use Rattle.losses.specs.Adjusting.{adjusted, given}
use Rattle.losses.specs.Factors.{Factors}
use Rattle.losses.specs.Layers.{Codes, distributed, transmitted}
use Rattle.walkthrough.specs.declared.pile.work.Climb.{Climb}
use Rattle.walkthrough.specs.declared.pile.work.Climbs.{Climbs}
use Rattle.walkthrough.specs.Piles.{two_rows, with_readings, answer_for, climb_of, plain}

pub answer_same : (x y : Grossing) (a b : Standing) (s q : ℕ) → x ≡ y → a ≡ b → answer_for x a s q ≡ answer_for y b s q
answer_same x y a b s q h i = cc

pub distribution_same : (cs ds : Codes) (t u : Factors) (x y : Grossing) → cs ≡ ds → t ≡ u → x ≡ y → distributed cs t x ≡ distributed ds u y
distribution_same cs ds t u x y h i j = rw (h, i, j)

-- the first factor given to a layer that treated a cell as if it had none
first_given : (t : Factors) (k f q : ℕ) (m : Gross) → adjusted (given (t 0 q)) m ≡ adjusted (given None) m → adjusted (given (put_at 0 k (Some f) t 0 q)) m ≡ adjusted (given (put_at 0 k (Some f) blank 0 q)) m
first_given t k f q m none =
    elim (eqb q k) as (λ v. adjusted (given (cond v (Some f) (t 0 q))) m ≡ adjusted (given (cond v (Some f) None)) m)
    [ true ↦ refl | false ↦ none ]

pub transmission_same : (t u : Factors) (w x y : Grossing) (a b : Standing) (k f s q : ℕ) → transmitted t w ≡ transmitted blank y → u ≡ put_at 0 k (Some f) t → w ≡ y → x ≡ y → a ≡ b → answer_for (transmitted u x) a s q ≡ answer_for (transmitted (put_at 0 k (Some f) blank) y) b s q
transmission_same t u w x y a b k f s q none more h i j =
    let before = ap (λ (z : Grossing). z s q (b s q)) none in
    let after = first_given t k f q (y s q (b s q)) (cc) in
    cc

pub climb_same : {a b m n t u : Result ℕ Refusal} → a ≡ b → m ≡ n → t ≡ u → ◌≡◌ {A = Result Climb Refusal} (Ok (record { metered = a; distributed = m; transmitted = t })) (Ok (record { metered = b; distributed = n; transmitted = u }))
climb_same h i j = cc

-- the climbs of cells under the rows of a roll that are known
pub known_climb : (rows : List (Option Row)) (x : Climb) (s q : ℕ) → rows ≡ two_rows → x ≡ climb_of rows plain (with_readings nothing) s q → x ≡ climb_of two_rows plain (with_readings nothing) s q
known_climb rows x s q h e = e ∙ ap (λ (r : List (Option Row)). climb_of r plain (with_readings nothing) s q) h

pub climbs_same : {a b d e i j u v : Climb} {m n : ℕ} → a ≡ b → d ≡ e → i ≡ j → u ≡ v → ◌≡◌ {A = Result ℕ Refusal} (Ok m) (Ok n) → ◌≡◌ {A = Climbs} (record { household = a; mill = d; unread = i; unrated = u; at_once = m }) (record { household = b; mill = e; unread = j; unrated = v; at_once = n })
climbs_same h k l o p = cc
