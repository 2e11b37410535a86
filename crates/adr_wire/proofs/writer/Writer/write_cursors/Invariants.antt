use Rattle.std.proofs.Common.{◌≡◌, ◌++◌, take}
use Rattle.std.specs.List.{flat_map}
use Rattle.adr_wire.specs.Composites.{cursor}
use Rattle.adr_wire.proofs.writer.Writer.write_cursors.Given as goal

abbrev pub invariant-loop-cursor : goal.invariant-loop-cursor
invariant-loop-cursor l = l.self ≡ l.fn.self ++ flat_map cursor (take l.cursor-index l.cursors)
