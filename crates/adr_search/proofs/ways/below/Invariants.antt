use Rattle.std.proofs.Common.{◌≡◌, map, take}
use Rattle.adr_search.specs.Ways.{ends_inside}
use Rattle.adr_search.proofs.ways.below.Given as goal

-- the entries so far are marked
abbrev pub invariant-loop-way : goal.invariant-loop-way
invariant-loop-way l = l.marks.items ≡ map ends_inside (take l.way-index l.way-items)
