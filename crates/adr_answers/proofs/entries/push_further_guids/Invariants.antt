use Rattle.std.proofs.Common.{◌≡◌, ◌++◌, ℕ, List, take, flat_map}
use Rattle.std.specs.Prelude.{codes}
use Rattle.adr_token.specs.Spelling.{identifier_token}
use Rattle.adr_answers.proofs.entries.push_further_guids.Given as goal

-- those so far are written
abbrev pub invariant-loop-guid : goal.invariant-loop-guid
invariant-loop-guid l = l.out.items ≡ l.fn.out.items ++ flat_map (λ (i : List ℕ). codes "," ++ identifier_token i) (take l.guid-index l.guids)
