use Rattle.std.proofs.Common.{◌≡◌}
use Rattle.adr_model.specs.Store.{updates_of}
use Rattle.adr_model.specs.Write.{nodes_held}
use Rattle.adr_law_tree.specs.Walk.{climb, free}
use Rattle.adr_revival.proofs.WaysUp.{names}
use Rattle.adr_revival.proofs.climbing.climbs_to.Given as goal

-- what is met from here on tells the whole
abbrev pub invariant-loop-left : goal.invariant-loop-left
invariant-loop-left l = names l.target (climb (free (nodes_held (updates_of l.rows))) l.left l.guid) ≡ names l.target (climb (free (nodes_held (updates_of l.rows))) l.steps l.fn.from)

abbrev pub decreases-loop-left : goal.decreases-loop-left
decreases-loop-left l = l.left
