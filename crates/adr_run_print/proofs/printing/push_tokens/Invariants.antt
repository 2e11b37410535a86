use Rattle.std.proofs.Common.{◌≡◌, ◌++◌, map, take}
use Rattle.adr_run_print.specs.Printed.{spaced, token_of, token_text}
use Rattle.adr_run_print.proofs.printing.push_tokens.Given as goal

-- what is written is that of the tokens so far
abbrev pub invariant-loop-token : goal.invariant-loop-token
invariant-loop-token l = l.out.items ≡ l.fn.out.items ++ spaced (map (λ token. token_text (token_of token)) (take l.token-index l.tokens))
