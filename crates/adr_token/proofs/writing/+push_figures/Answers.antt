use Rattle.std.proofs.Common.{◌++◌, ◌∷◌, [], ◌/◌, ◌%◌, false, sym, ap, ◌∙◌, append_assoc, arith}
use Rattle.std.specs.Fmt.{digits}
use Rattle.std.proofs.lemmas.Result.{on_ok_weaker}
use Rattle.uuid.specs.Text.{hex_digit, lower}
use Rattle.adr_token.proofs.Figures.{more_figures}
use Rattle.adr_token.proofs.writing.+push_figures.Goals as goal

pub returns-clause-items : goal.returns-clause-items
returns-clause-items t c =
    let n = c.args.number in
    let out = c.args.out.now.items in
    on_ok_weaker c.push-2.result
    (λ e. e ∙ ap (λ d. c.push_figures.new.out.items ++ (d ∷ [])) c.figure-2.ensures ∙ ap (λ xs. xs ++ (hex_digit lower (n % 16) ∷ [])) c.in_ok-push_figures.ensures.items
    ∙ append_assoc out (digits 16 false (n / 16)) (hex_digit lower (n % 16) ∷ [])
    ∙ ap (λ xs. out ++ xs) (sym (more_figures n (omega arith) (omega arith))))
    c.push-2.ensures.items
