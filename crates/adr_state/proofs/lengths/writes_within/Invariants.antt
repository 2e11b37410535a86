use Rattle.std.proofs.Common.{◌≡◌, ◌+◌, fold, min, take}
use Rattle.adr_model.specs.Change.{Written}
use Rattle.adr_model.specs.Serve.{item_length}
use Rattle.adr_state.proofs.lengths.writes_within.Given as goal

-- the sum is that of the writes so far
abbrev pub invariant-loop-written : goal.invariant-loop-written
invariant-loop-written l = l.sum ≡ min l.limit (fold (λ n (w : Written). n + 8 + item_length w.item) 0 (take l.written-index l.writes))
