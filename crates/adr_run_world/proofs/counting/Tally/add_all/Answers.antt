use Rattle.std.proofs.Common.{◌≡◌, ◌<◌, ◌+◌, ℕ, suc, List, ◌∷◌, get_or, drop, drop-cons, length, sym, ap, ◌∙◌, arith}
use Rattle.adr_call.specs.declared.answer.Answer.{Answer}
use Rattle.adr_run_world.specs.declared.counting.Tally.{Tally}
use Rattle.adr_run_world.specs.Counted.{counted, with_answer}
use Rattle.adr_run_world.proofs.counting.Tally.add_all.Goals as goal

one_more : (now next before : Tally) (answers all : List Answer) (i j : ℕ) (a : Answer) → i < length answers → a ≡ get_or answers i a → j ≡ suc i → next ≡ with_answer now a
    → counted now (drop i answers) ≡ counted before all → counted next (drop j answers) ≡ counted before all
one_more now next before answers all i j a within is more step so_far =
    let here : drop i answers ≡ a ∷ drop j answers = drop-cons answers i a within ∙ (ap (λ x. x ∷ drop (suc i) answers) (sym is) ∙ ap (λ n. a ∷ drop n answers) (sym more)) in
    ap (λ t. counted t (drop j answers)) step ∙ (ap (counted now) (sym here) ∙ so_far)

pub loop-answer-preserved : goal.loop-answer-preserved
loop-answer-preserved c =
    one_more c.loop-answer.self c.add.new.self c.args.self.now c.args.answers.now c.args.answers.now c.loop-answer.answer-index (c.loop-answer.answer-index + 1) c.answer-item.result c.loop-answer-test.true c.answer-item.is (omega arith)
    c.in_ok-add.ensures c.loop-answer.invariant
