use Rattle.std.proofs.Common.{◌≡◌, ◌≤◌, drop, vec_capacity}
use Rattle.adr_run_disk.specs.Entries.{without_all}
use Rattle.adr_run_disk.proofs.platter.undo_all.Given as goal

abbrev pub invariant-writes : goal.invariant-writes
invariant-writes l = record {
  items : l.bytes.items ≡ without_all l.covered (drop l.index l.entries) l.fn.bytes.items;
  capacity : vec_capacity l.fn.bytes ≤ vec_capacity l.bytes;
}
