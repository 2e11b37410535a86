use Rattle.std.proofs.Common.{◌≡◌, ◌++◌, take}
use Rattle.std.specs.List.{flat_map}
use Rattle.adr_image.specs.Changes.{update_bytes}
use Rattle.adr_image.proofs.bodies.write_updates.Given as goal

abbrev pub invariant-loop-update : goal.invariant-loop-update
invariant-loop-update l = l.writer ≡ l.fn.writer ++ flat_map update_bytes (take l.update-index l.updates)
