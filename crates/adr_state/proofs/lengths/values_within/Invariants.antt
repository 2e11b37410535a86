use Rattle.std.proofs.Common.{◌≡◌, ◌+◌, fold, min, take}
use Rattle.adr_model.specs.Serve.{value_length}
use Rattle.adr_state.proofs.lengths.values_within.Given as goal

-- the sum is that of the values so far
abbrev pub invariant-loop-value : goal.invariant-loop-value
invariant-loop-value l = l.sum ≡ min l.limit (fold (λ n v. n + value_length v) 0 (take l.value-index l.values))
