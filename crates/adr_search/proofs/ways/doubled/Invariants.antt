use Rattle.std.proofs.Common.{◌≡◌, map, take}
use Rattle.adr_search.specs.Ways.{further}
use Rattle.adr_search.proofs.ways.doubled.Given as goal

-- the ways so far are twice as long
abbrev pub invariant-loop-way : goal.invariant-loop-way
invariant-loop-way l = l.next.items ≡ map (further l.ways) (take l.way-index l.ways)
