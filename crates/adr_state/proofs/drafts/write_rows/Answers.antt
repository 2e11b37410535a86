use Rattle.std.proofs.Common.{take, fold, sym, subst}
use Rattle.adr_model.specs.Change.{put}
use Rattle.adr_model.specs.Formed.{AreRising}
use Rattle.adr_law_knowledge.proofs.RisingHeld.{put_rises}
use Rattle.adr_table.specs.Table.{rows_in}
use Rattle.adr_state.specs.Drafts.{AreDrafts}
use Rattle.adr_state.proofs.Drafting.{folded_more}
use Rattle.adr_state.proofs.drafts.write_rows.Goals as goal

pub loop-row-preserved : goal.loop-row-preserved
loop-row-preserved c =
    let rows = rows_in c.args.table.now in
    let seen = fold put rows (take c.loop-row.row-index c.args.rows.now) in
    let more = folded_more put rows c.args.rows.now c.loop-row.row-index c.row-item.result c.loop-row-test.true c.row-item.is in
    record {
      risen = subst AreRising (sym more) (put_rises seen c.row-item.result c.loop-row.invariant.risen);
      drafted = subst (λ s. AreDrafts rows s c.write_row.new.drafts) (sym more) (c.in_ok-write_row.ensures seen c.loop-row.invariant.risen c.loop-row.invariant.drafted);
    }
