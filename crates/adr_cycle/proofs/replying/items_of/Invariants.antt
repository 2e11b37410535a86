use Rattle.std.proofs.Common.{◌≡◌, ◌++◌, ℕ, map}
use Rattle.adr_model.specs.Change.{Item}
use Rattle.adr_cycle.proofs.replying.items_of.Given as goal

-- the items so far and those that are left are the whole
abbrev pub invariant-loop-item : goal.invariant-loop-item
invariant-loop-item l = l.items.items ++ map (λ (c : ℕ × Item). c.1) l.item-iterator.rest.items ≡ map (λ (c : ℕ × Item). c.1) l.fn.sent.items
