use Rattle.std.proofs.Common.{◌≡◌, ◌++◌, map}
use Rattle.adr_image.specs.Stored.{held_of}
use Rattle.adr_image.proofs.gathered.push_rows.Given as goal

abbrev pub invariant-loop-row : goal.invariant-loop-row
invariant-loop-row l = l.rows.items ≡ l.fn.rows.items ++ map (held_of l.object) l.yielded
