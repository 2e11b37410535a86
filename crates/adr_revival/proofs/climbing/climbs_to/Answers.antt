use Rattle.std.proofs.Common.{sym}
use Rattle.adr_model.specs.Store.{updates_of}
use Rattle.adr_model.specs.Write.{nodes_held}
use Rattle.adr_law_tree.specs.Walk.{free}
use Rattle.adr_revival.proofs.WaysUp.{one_on}
use Rattle.adr_revival.proofs.climbing.climbs_to.Goals as goal

pub loop-left-preserved : goal.loop-left-preserved
loop-left-preserved c =
    one_on (free (nodes_held (updates_of c.args.rows.now))) c.args.target c.loop-left.left c.loop-left.guid c.in-Some.node.now _ _ c.loop-left-test.true
    (sym c.in-Some.ensures) (cc) c.parent-guid.ensures c.loop-left.invariant
