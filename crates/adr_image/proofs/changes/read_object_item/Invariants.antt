use Rattle.std.proofs.Common.{◌≡◌, map}
use Rattle.adr_law_lengths.specs.Written.{update_of}
use Rattle.adr_image.proofs.changes.read_object_item.Given as goal

abbrev pub invariant-loop-row : goal.invariant-loop-row
invariant-loop-row l = l.updates.items ≡ map (update_of l.object) l.yielded
