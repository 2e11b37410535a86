use Rattle.std.proofs.Common.{◌∙◌, ℕ, List, ap, subst, sym}
use Rattle.std.specs.Prelude.{Result, Err}
use Rattle.adr_values.specs.declared.failure.Failure.{Failure}
use Rattle.adr_token.specs.declared.stop.Bad.{Bad}
use Rattle.adr_token.specs.Gives.{Answers}
use Rattle.adr_token.specs.Identifiers.{identifier_of}
use Rattle.adr_words.proofs.Forms.{identifier_read, identifier_unread}
use Rattle.adr_words.proofs.arguments.identifier_of.Goals as goal

pub returns-then-not-is_one_word : goal.returns-then-not-is_one_word
returns-then-not-is_one_word c = sym (identifier_unread c.args.word.now (sym c.is_one_word.ensures ∙ c.if-not-is_one_word.true))

pub returns-in-Ok : goal.returns-in-Ok
returns-in-Ok c =
    let read = identifier_read c.args.word.now c.new.result c.identifier.new.self c.identifier.result (sym c.is_one_word.ensures ∙ c.if-not-is_one_word.false) c.new.ensures c.identifier.ensures in
    sym (subst (λ (r : Result (List ℕ) (Failure Bad)). Answers r (identifier_of c.args.word.now)) c.in-Ok.is read)

pub returns-in-Err-Refused : goal.returns-in-Err-Refused
returns-in-Err-Refused c =
    let read = identifier_read c.args.word.now c.new.result c.identifier.new.self c.identifier.result (sym c.is_one_word.ensures ∙ c.if-not-is_one_word.false) c.new.ensures c.identifier.ensures in
    sym (subst (λ (r : Result (List ℕ) (Failure Bad)). Answers r (identifier_of c.args.word.now)) (c.in-Err-Refused.is ∙ ap Err c.in-Err-Refused.field-0-is) read)
