use Rattle.std.proofs.Common.{◌≡◌, ◌++◌, length, take}
use Rattle.std.specs.List.{flat_map}
use Rattle.adr_wire.specs.Composites.{oid}
use Rattle.adr_wire.specs.Fields.{u32}
use Rattle.adr_image.proofs.bodies.write_removed.Given as goal

abbrev pub invariant-loop-object : goal.invariant-loop-object
invariant-loop-object l = l.writer ≡ (l.fn.writer ++ u32 (length l.removed)) ++ flat_map oid (take l.object-index l.removed)
