use Rattle.std.proofs.Common.{◌∙◌, arith}
use Rattle.adr_run_disk.proofs.Writes.{tear_more, tear_fits, no_entry}
use Rattle.adr_run_disk.proofs.platter.tear.Goals as goal

pub put_torn-requires-clause-room : goal.put_torn-requires-clause-room
put_torn-requires-clause-room c = omega (arith, tear_fits c.args.log.now c.args.bytes.now.items c.writes.bytes.items c.args.entries.now c.writes.entry-index no_entry (omega arith) c.writes.invariant.items, c.requires.room)

pub writes-preserved : goal.writes-preserved
writes-preserved c = record {
  items = c.put_torn.ensures.items ∙ tear_more c.args.log.now c.args.bytes.now.items c.writes.bytes.items c.args.entries.now c.writes.entry-index no_entry (omega arith) c.writes.invariant.items;
  capacity = omega arith;
}
