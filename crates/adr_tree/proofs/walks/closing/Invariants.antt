use Rattle.std.proofs.Common.{◌≡◌}
use Rattle.adr_law_tree.specs.Closing.{closing}
use Rattle.adr_tree.specs.Slots.{looks, flagged}
use Rattle.adr_tree.proofs.walks.closing.Given as goal

abbrev pub invariant-loop-left : goal.invariant-loop-left
invariant-loop-left l =
    closing (looks l.slots) (flagged l.flags) l.new.object.guid l.left l.guid l.best ≡ closing (looks l.slots) (flagged l.flags) l.new.object.guid l.steps l.new.parent l.new

abbrev pub decreases-loop-left : goal.decreases-loop-left
decreases-loop-left l = l.left
