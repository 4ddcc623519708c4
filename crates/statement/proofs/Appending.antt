-- Pieces that go onto a page one behind another. Assumes nothing.
use Rattle.std.proofs.Common.{◌≡◌, ℕ, ◌+◌, ◌<◌, ◌≤◌, List, [], ◌++◌, length, take, drop, sym, refl, ap, ◌∙◌, subst, append_assoc, add-zero, arith, length-append}
use Rattle.std.proofs.lemmas.List.{take-append-drop, take_at, drop_at, drop-drop, length-take-le, length-drop}
use Rattle.statement.specs.declared.page.Page.{Page}
use Rattle.statement.specs.Text.{lines}
use Rattle.statement.specs.Writing.{Appends, Fits}
use Rattle.statement.proofs.Pieces.{lines_more, lines_room}

pub appends_none : (page : Page) → Appends page [] page
appends_none page =
    let start = page.at in
    record { list = refl; text = rw add-zero (sym (take-append-drop start page.text.now)); ends = sym (add-zero start) }

-- a list keeps its length
pub kept : {old new : Page} {p : List ℕ} → Fits old p → Appends old p new → length new.text.now ≡ length old.text.now
kept {old} {new} {p} fits w =
    let text = old.text.now in
    omega (arith, ap length w.text, length-append (take old.at text) (p ++ drop (old.at + length p) text), length-append p (drop (old.at + length p) text), length-take-le old.at text (omega arith), length-drop (old.at + length p) text)

-- the room that a short piece leaves
pub left : {old new : Page} {p : List ℕ} (most more : ℕ) → old.at + (most + more) ≤ length old.text.now → length p ≤ most → Appends old p new → new.at + more ≤ length new.text.now
left most more room short w = omega (arith, w.ends, kept (omega arith) w)

-- what has room behind a piece, where both together have it
pub fits_then : {old mid : Page} {p : List ℕ} (q : List ℕ) → Fits old (p ++ q) → Appends old p mid → Fits mid q
fits_then {old} {mid} {p} q fits w = omega (arith, length-append p q, w.ends, kept (omega (arith, length-append p q)) w)

-- one piece behind another is both as one piece
pub appends_then : {old mid new : Page} {p q : List ℕ} → old.at ≤ length old.text.now → Appends old p mid → Appends mid q new → Appends old (p ++ q) new
appends_then {old} {mid} {new} {p} {q} inside first then =
    let start = old.at in
    let text = old.text.now in
    let m = mid.at in
    let front = take start text ++ p in
    let n : length front ≡ m = length-append (take start text) p ∙ ap (λ (k : ℕ). k + length p) (length-take-le start text inside) ∙ sym first.ends in
    let split : mid.text.now ≡ front ++ drop (start + length p) text = first.text ∙ sym (append_assoc (take start text) p (drop (start + length p) text)) in
    let before : take m mid.text.now ≡ front = ap (take m) split ∙ take_at front (drop (start + length p) text) m n in
    let rest : drop m mid.text.now ≡ drop (start + length p) text = ap (drop m) split ∙ drop_at front (drop (start + length p) text) m n in
    let far : start + length p + length q ≡ start + length (p ++ q) = omega (arith, length-append p q) in
    let behind : drop (m + length q) mid.text.now ≡ drop (start + length (p ++ q)) text =
    sym (drop-drop (length q) m mid.text.now) ∙ ap (drop (length q)) rest ∙ drop-drop (length q) (start + length p) text ∙ ap (λ (k : ℕ). drop k text) far in
    let whole : new.text.now ≡ front ++ (q ++ drop (start + length (p ++ q)) text) =
    then.text ∙ ap (λ (xs : List ℕ). xs ++ (q ++ drop (m + length q) mid.text.now)) before ∙ ap (λ (xs : List ℕ). front ++ (q ++ xs)) behind in
    record {
      list = then.list ∙ first.list;
      text =
          whole ∙ append_assoc (take start text) p (q ++ drop (start + length (p ++ q)) text)
          ∙ ap (λ (xs : List ℕ). take start text ++ xs) (sym (append_assoc p q (drop (start + length (p ++ q)) text)));
      ends = then.ends ∙ ap (λ (k : ℕ). k + length q) first.ends ∙ far;
    }

-- a piece of the same bytes
pub appends_same : {old new : Page} {p q : List ℕ} → p ≡ q → Appends old p new → Appends old q new
appends_same {old} {new} same w = subst (λ (xs : List ℕ). Appends old xs new) same w

-- ---- texts one after another
pub fits_line : {old mid : Page} (g : ℕ → List ℕ) (k n : ℕ) → k < n → Fits old (lines g n) → Appends old (lines g k) mid → Fits mid (g k)
fits_line {old} g k n h fits w =
    let both : Fits old (lines g k ++ g k) = omega (arith, fits, lines_room g k n h, length-append (lines g k) (g k)) in
    fits_then (g k) both w

pub appends_line : {old mid new : Page} (g : ℕ → List ℕ) (k : ℕ) → old.at ≤ length old.text.now → Appends old (lines g k) mid → Appends mid (g k) new → Appends old (lines g (k + 1)) new
appends_line g k inside before here = appends_same (sym (lines_more g k)) (appends_then inside before here)
