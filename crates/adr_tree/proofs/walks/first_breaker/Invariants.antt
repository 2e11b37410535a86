use Rattle.std.proofs.Common.{◌≡◌}
use Rattle.adr_law_tree.specs.Opening.{first_breaker}
use Rattle.adr_tree.specs.Slots.{looks, flagged}
use Rattle.adr_tree.proofs.walks.first_breaker.Given as goal

abbrev pub invariant-loop-left : goal.invariant-loop-left
invariant-loop-left l = first_breaker (looks l.slots) (flagged l.flags) l.left l.guid ≡ first_breaker (looks l.slots) (flagged l.flags) l.steps l.fn.from

abbrev pub decreases-loop-left : goal.decreases-loop-left
decreases-loop-left l = l.left
