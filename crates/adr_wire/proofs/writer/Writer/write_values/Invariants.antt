use Rattle.std.proofs.Common.{◌≡◌, ◌++◌, length, take}
use Rattle.std.specs.List.{flat_map}
use Rattle.adr_wire.specs.Fields.{u8}
use Rattle.adr_wire.specs.Composites.{value}
use Rattle.adr_wire.proofs.writer.Writer.write_values.Given as goal

abbrev pub invariant-loop-value : goal.invariant-loop-value
invariant-loop-value l = l.self ≡ (l.fn.self ++ u8 (length l.values)) ++ flat_map value (take l.value-index l.values)
