use Rattle.std.proofs.Common.{refl, subst}
use Rattle.adr_update.specs.Referents.{referents}
use Rattle.adr_table.specs.Slots.{rows_seen, seen}
use Rattle.adr_table.proofs.Reading.{AreRead, added}
use Rattle.adr_table.proofs.slots.Slots.to_vec.Goals as goal

pub loop-row-preserved : goal.loop-row-preserved
loop-row-preserved c =
    let all = rows_seen c.args.self.now in
    added all (referents c.loop-row.rows.items) (referents c.push_row.new.rows.items) _ _ _ c.in_ok-push_row.ensures refl
    (subst (λ es. AreRead all (referents c.loop-row.rows.items) (seen es)) c.in-Some.ensures.some c.loop-row.invariant)
