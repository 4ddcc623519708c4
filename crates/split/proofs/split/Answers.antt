use Rattle.std.proofs.Common.{◌≡◌, ℕ, map, length, replicate, ℤ, pos, Ok, sym, ap, ◌∙◌, subst, w32}
use lib.ListN.{length-map}
use Rattle.std.proofs.lemmas.Int.{to_z-of_z}
use Rattle.split.specs.Answer.{split_answer}
use Rattle.split.specs.Laws.{Fair}
use Rattle.split.specs.Parts.{parts_of}
use Rattle.split.proofs.Answer.{accepted_lengths, accepted_amount}
use Rattle.split.proofs.Fair.{fair, parts_of_none}
use Rattle.split.proofs.split.Goals as goal

pub returns-then-whole-eq0 : goal.returns-then-whole-eq0
returns-then-whole-eq0 g c =
    let amount : ℤ = c.args.amount in
    let whole : ℕ = c.args.whole in
    let before : ℕ = c.args.before in
    let n : ℕ = length c.args.items.now in
    let m : ℕ = length c.args.parts.now in
    let ws = map g.T.Weighted.weight c.args.items.now in
    let ok : Ok tt ≡ split_answer amount whole n m = c.in_ok-checked.ensures ∙ ap (λ (a : ℤ). split_answer a whole n m) (to_z-of_z w32 amount c.ranges.amount) in
    let none = accepted_amount amount whole n m tt ok in
    let many : m ≡ length ws = accepted_lengths amount whole n m tt ok ∙ sym (length-map c.args.items.now g.T.Weighted.weight) in
    let zeros : c.fill.new.self ≡ parts_of amount whole before ws =
    c.fill.ensures.after (λ y e. e)
    ∙ ap (λ (k : ℕ). replicate k (pos 0)) many
    ∙ sym (ap (λ (a : ℤ). parts_of a whole before ws) (none c.if-whole-eq0.true) ∙ parts_of_none whole before ws) in
    record { answer = ok; after = zeros; fair = λ _. subst (Fair amount whole before ws) (sym zeros) (fair amount whole before ws none) }

pub returns-else-whole-eq0 : goal.returns-else-whole-eq0
returns-else-whole-eq0 g c =
    let amount : ℤ = c.args.amount in
    let whole : ℕ = c.args.whole in
    let before : ℕ = c.args.before in
    let n : ℕ = length c.args.items.now in
    let m : ℕ = length c.args.parts.now in
    let ws = map g.T.Weighted.weight c.args.items.now in
    let read = to_z-of_z w32 amount c.ranges.amount in
    let ok : Ok tt ≡ split_answer amount whole n m = c.in_ok-checked.ensures ∙ ap (λ (a : ℤ). split_answer a whole n m) read in
    let filled : c.fill_parts.new.parts ≡ parts_of amount whole before ws = c.fill_parts.ensures ∙ ap (λ (a : ℤ). parts_of a whole before ws) read in
    record { answer = ok; after = filled; fair = λ _. subst (Fair amount whole before ws) (sym filled) (fair amount whole before ws (accepted_amount amount whole n m tt ok)) }
