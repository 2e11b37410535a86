use Rattle.std.proofs.Common.{◌≡◌, ◌++◌, length, take}
use Rattle.std.specs.List.{flat_map}
use Rattle.adr_image.specs.Changes.{written_bytes}
use Rattle.adr_wire.specs.Fields.{u32}
use Rattle.adr_image.proofs.bodies.write_writes.Given as goal

abbrev pub invariant-loop-written : goal.invariant-loop-written
invariant-loop-written l = l.writer ≡ (l.fn.writer ++ u32 (length l.writes)) ++ flat_map written_bytes (take l.written-index l.writes)
