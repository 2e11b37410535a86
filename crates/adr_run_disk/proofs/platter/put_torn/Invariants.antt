use Rattle.std.proofs.Common.{◌≡◌, ◌≤◌, vec_capacity}
use Rattle.adr_disk.specs.Disk.{put}
use Rattle.adr_run_disk.proofs.Writes.{filled}
use Rattle.adr_run_disk.proofs.platter.put_torn.Given as goal

abbrev pub invariant-rest : goal.invariant-rest
invariant-rest l = record {
  items : l.bytes.items ≡ put l.fn.bytes.items l.at (filled l.half l.place l.new);
  capacity : vec_capacity l.fn.bytes ≤ vec_capacity l.bytes;
}
