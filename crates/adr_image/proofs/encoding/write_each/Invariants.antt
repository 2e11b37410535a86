use Rattle.std.proofs.Common.{◌≡◌, ◌++◌, take}
use Rattle.std.specs.List.{flat_map}
use Rattle.adr_update.specs.Referents.{referents}
use Rattle.adr_image.specs.Written.{held}
use Rattle.adr_image.proofs.encoding.write_each.Given as goal

abbrev pub invariant-loop-row : goal.invariant-loop-row
invariant-loop-row l = l.writer ≡ l.fn.writer ++ flat_map held (referents (take l.row-index l.rows))
