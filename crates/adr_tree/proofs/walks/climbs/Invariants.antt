use Rattle.std.proofs.Common.{◌≡◌, false}
use Rattle.adr_law_tree.specs.Opening.{climbs}
use Rattle.adr_tree.specs.Slots.{looks, flagged}
use Rattle.adr_tree.proofs.walks.climbs.Given as goal

abbrev pub invariant-loop-left : goal.invariant-loop-left
invariant-loop-left l = climbs (looks l.slots) (flagged l.flags) l.target l.seen l.left l.guid ≡ climbs (looks l.slots) (flagged l.flags) l.target false l.steps l.fn.from

abbrev pub decreases-loop-left : goal.decreases-loop-left
decreases-loop-left l = l.left
