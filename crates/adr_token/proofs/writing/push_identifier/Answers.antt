use Rattle.std.proofs.Common.{◌++◌, ap, ◌∙◌, append_assoc}
use Rattle.std.specs.Prelude.{codes}
use Rattle.std.proofs.lemmas.Result.{on_ok_weaker}
use Rattle.adr_token.specs.Spelling.{identifier_text, identifier_token}
use Rattle.adr_token.proofs.writing.push_identifier.Goals as goal

pub returns-clause-items : goal.returns-clause-items
unfolding identifier_token
returns-clause-items c =
    on_ok_weaker c.push_identifier_text.result
    (λ e. e ∙ ap (λ out. out ++ identifier_text c.args.id) c.in_ok-push.ensures.items ∙ append_assoc c.args.out.now.items (codes "#") (identifier_text c.args.id))
    c.push_identifier_text.ensures.items
