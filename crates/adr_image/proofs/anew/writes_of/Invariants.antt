use Rattle.std.proofs.Common.{◌≡◌}
use Rattle.adr_model.specs.Change.{held_of}
use Rattle.adr_image.proofs.anew.writes_of.Given as goal

abbrev pub invariant-loop-row : goal.invariant-loop-row
invariant-loop-row l = held_of l.writes.items ≡ l.yielded
