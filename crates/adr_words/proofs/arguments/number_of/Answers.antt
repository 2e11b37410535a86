use Rattle.std.proofs.Common.{◌∙◌, ℕ, ap, subst, sym, arith}
use Rattle.std.specs.Prelude.{Result, Err}
use Rattle.adr_values.specs.declared.failure.Failure.{Failure}
use Rattle.adr_token.specs.declared.stop.Bad.{Bad}
use Rattle.adr_token.specs.Gives.{Answers}
use Rattle.adr_words.proofs.Forms.{any_number, number_bad, number_kept, number_read, number_unread}
use Rattle.adr_words.proofs.arguments.number_of.Goals as goal

pub returns-then-not-is_one_word-clause-value : goal.returns-then-not-is_one_word-clause-value
returns-then-not-is_one_word-clause-value c = sym (number_unread c.args.most c.args.word.now (omega arith) (sym c.is_one_word.ensures ∙ c.if-not-is_one_word.true))

pub returns-in-Ok-clause-value : goal.returns-in-Ok-clause-value
returns-in-Ok-clause-value c =
    let read = number_read c.args.word.now c.new.result c.number.new.self c.number.result (sym c.is_one_word.ensures ∙ c.if-not-is_one_word.false) c.new.ensures c.number.ensures in
    let is = subst (λ (r : Result ℕ (Failure Bad)). Answers r (any_number c.args.word.now)) c.in-Ok.is read in
    c.within.ensures.value ∙ sym (number_kept c.args.most c.args.word.now c.in-Ok.number (omega arith) is)

pub returns-in-Err-Refused-clause-value : goal.returns-in-Err-Refused-clause-value
returns-in-Err-Refused-clause-value c =
    let read = number_read c.args.word.now c.new.result c.number.new.self c.number.result (sym c.is_one_word.ensures ∙ c.if-not-is_one_word.false) c.new.ensures c.number.ensures in
    let is = subst (λ (r : Result ℕ (Failure Bad)). Answers r (any_number c.args.word.now)) (c.in-Err-Refused.is ∙ ap Err c.in-Err-Refused.field-0-is) read in
    sym (number_bad c.args.most c.args.word.now (omega arith) is)
