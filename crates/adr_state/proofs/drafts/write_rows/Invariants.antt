use Rattle.std.proofs.Common.{take, fold}
use Rattle.adr_model.specs.Change.{put}
use Rattle.adr_model.specs.Formed.{AreRising}
use Rattle.adr_table.specs.Table.{rows_in}
use Rattle.adr_state.specs.Drafts.{AreDrafts}
use Rattle.adr_state.proofs.drafts.write_rows.Given as goal

-- the rows so far are drafted
abbrev pub invariant-loop-row : goal.invariant-loop-row
invariant-loop-row l = record {
  risen : AreRising (fold put (rows_in l.table) (take l.row-index l.rows));
  drafted : AreDrafts (rows_in l.table) (fold put (rows_in l.table) (take l.row-index l.rows)) l.drafts;
}
