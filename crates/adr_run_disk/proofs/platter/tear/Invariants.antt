use Rattle.std.proofs.Common.{◌≡◌, ◌≤◌, map, take, vec_capacity}
use Rattle.adr_disk.specs.Memory.{over, torn_write}
use Rattle.adr_run_disk.specs.Entries.{write_of}
use Rattle.adr_run_disk.proofs.platter.tear.Given as goal

abbrev pub invariant-writes : goal.invariant-writes
invariant-writes l = record {
  items : l.bytes.items ≡ over l.fn.bytes.items (map torn_write (map (write_of l.log) (take l.entry-index l.entries)));
  capacity : vec_capacity l.fn.bytes ≤ vec_capacity l.bytes;
}
