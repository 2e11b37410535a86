use Rattle.std.proofs.Common.{◌≡◌, ◌+◌, ◌<◌, ℕ, [], get_or, map}
use Rattle.std.specs.declared.cmp.Ordering.TheVariants.{Less}
use Rattle.adr_values.specs.Order.{identifier_order}
use Rattle.adr_call.specs.declared.directory.Entry.{Entry}
use Rattle.adr_test_filters.proofs.directories.is_rising.Given as goal

-- those before rise
abbrev pub invariant-loop-place : goal.invariant-loop-place
invariant-loop-place l = (k : ℕ) → k + 1 < l.place → identifier_order (get_or (map (λ (e : Entry). e.guid) l.entries) k []) (get_or (map (λ (e : Entry). e.guid) l.entries) (k + 1) []) ≡ Less
