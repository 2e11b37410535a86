use Rattle.std.proofs.Common.{◌≡◌, ◌+◌, List, [], ◌∷◌, ◌++◌, map, flat_map, take, refl, sym, ap, ◌∙◌, append_assoc}
use Rattle.std.specs.Prelude.{codes}
use Rattle.adr_token.proofs.Lists.{added}
use Rattle.adr_run_print.specs.declared.printing.Token.{Token}
use Rattle.adr_run_print.specs.Printed.{spaced, token_of, token_text}
use Rattle.adr_run_print.proofs.printing.push_tokens.Goals as goal

-- a space before each token
spaced_each : (tokens : List Token) → spaced (map (λ token. token_text (token_of token)) tokens) ≡ flat_map (λ token. codes " " ++ token_text (token_of token)) tokens
spaced_each [] = refl
spaced_each (token ∷ tokens) = ap (λ bytes. (codes " " ++ token_text (token_of token)) ++ bytes) (spaced_each tokens)

pub loop-token-preserved : goal.loop-token-preserved
loop-token-preserved c =
    let token = c.token-item.result in
    let front = c.args.out.now.items in
    let out = c.loop-token.out.items in
    let step = c.in_ok-push_token.ensures ∙ ap (λ bytes. bytes ++ token_text (token_of token)) c.in_ok-push.ensures.items ∙ append_assoc out (codes " ") (token_text (token_of token)) in
    added (λ (token : Token). codes " " ++ token_text (token_of token)) front out c.push_token.new.out.items c.args.tokens.now c.loop-token.token-index token token
    c.loop-token-test.true c.token-item.is (c.loop-token.invariant ∙ ap (λ bytes. front ++ bytes) (spaced_each (take c.loop-token.token-index c.args.tokens.now))) step
    ∙ ap (λ bytes. front ++ bytes) (sym (spaced_each (take (c.loop-token.token-index + 1) c.args.tokens.now)))
