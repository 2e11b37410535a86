use Rattle.std.proofs.Common.{◌≡◌, true, take}
use Rattle.std.specs.List.{list_all}
use Rattle.adr_values.specs.Vector.{joined}
use Rattle.adr_law_calls.specs.Tested.{is_removable}
use Rattle.adr_records.proofs.removed.are_removable.Given as goal

-- those so far are removable
abbrev pub invariant-loop-object : goal.invariant-loop-object
invariant-loop-object l = list_all (is_removable l.told (joined l.purged l.change.purged)) (take l.object-index l.object-items) ≡ true
