use Rattle.std.proofs.Common.{◌≡◌, ℕ, ◌<◌, ◌≤◌, true, cond, length, get_or, is_ok, Some, sym, refl, ap, ◌∙◌, arith}
use Rattle.std.proofs.ByRecursion.{All-get_or}
use Rattle.std.proofs.lemmas.Bool.{cond-true}
use Rattle.book.specs.Answers.{post_answer}
use Rattle.book.specs.Cells.{Standing, put}
use Rattle.posting.specs.Rows.{put_first}
use Rattle.posting.proofs.Placing.{put_first_none, put_first_more, next_taken}
use Rattle.posting.proofs.row.post_each.Goals as goal

pub loop-q-init : goal.loop-q-init
loop-q-init g c = (sym (put_first_none (g.B.LoadBook.standing c.args.book.now) c.args.segment c.args.readings.now), refl, refl)

pub loop-q-preserved : goal.loop-q-preserved
loop-q-preserved g c =
    let s = c.args.segment in
    let q = c.loop-q.q in
    let rs = c.args.readings.now in
    let st : Standing = g.B.LoadBook.standing c.args.book.now in
    let places : ℕ = g.B.LoadBook.places c.args.book.now in
    let now-st : Standing = g.B.LoadBook.standing c.loop-q.book in
    let inv = c.loop-q.invariant in
    let below : q < length rs = omega arith in
    let answer : c.post.result ≡ post_answer now-st (g.B.LoadBook.places c.loop-q.book) s q (get_or rs q 0) = c.post.ensures.answer in
    let small = All-get_or (λ r. r ≤ 1000000) rs q 0 below c.requires.readable in
    let taken : is_ok c.post.result ≡ true =
    ap is_ok answer
    ∙ ap (λ (x : Standing). is_ok (post_answer x (g.B.LoadBook.places c.loop-q.book) s q (get_or rs q 0))) inv.0
    ∙ ap (λ (p : ℕ). is_ok (post_answer (put_first st s rs q) p s q (get_or rs q 0))) inv.1
    ∙ next_taken st places s (length rs) rs c.requires.segment c.requires.places q (get_or rs q 0) below (omega (arith, c.requires.quarter_hours)) small in
    let after : g.B.LoadBook.standing c.post.new.self ≡ cond (is_ok c.post.result) (put now-st s q (Some (get_or rs q 0))) now-st = c.post.ensures.after in (
      after ∙ cond-true (is_ok c.post.result) (put now-st s q (Some (get_or rs q 0))) now-st taken
          ∙ ap (λ (x : Standing). put x s q (Some (get_or rs q 0))) inv.0 ∙ put_first_more st s rs q,
      c.post.ensures.places_kept ∙ inv.1,
      c.post.ensures.grossing_kept ∙ inv.2,
    )

pub returns : goal.returns
returns g c =
    let all : c.loop-q.q ≡ length c.args.readings.now = omega arith in
    record {
      after = c.loop-q.invariant.0 ∙ ap (put_first (g.B.LoadBook.standing c.args.book.now) c.args.segment c.args.readings.now) all;
      places_kept = c.loop-q.invariant.1;
      grossing_kept = c.loop-q.invariant.2;
    }
