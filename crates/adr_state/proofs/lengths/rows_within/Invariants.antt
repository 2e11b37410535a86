use Rattle.std.proofs.Common.{◌≡◌, ◌+◌, fold, min, take}
use Rattle.adr_model.specs.Update.{Update}
use Rattle.adr_model.specs.Serve.{content_length}
use Rattle.adr_state.proofs.lengths.rows_within.Given as goal

-- the sum is that of the rows so far
abbrev pub invariant-loop-row : goal.invariant-loop-row
invariant-loop-row l = l.sum ≡ min l.limit (fold (λ n (u : Update). n + 38 + content_length u.said) 0 (take l.row-index l.rows))
