use Rattle.std.proofs.Common.{◌≡◌, map, take}
use Rattle.adr_call.specs.declared.directory.Entry.{Entry}
use Rattle.adr_search.specs.Ways.{way_of}
use Rattle.adr_search.proofs.ways.ways_from.Given as goal

-- the ways so far
abbrev pub invariant-loop-entry : goal.invariant-loop-entry
invariant-loop-entry l = l.ways.items ≡ map (λ (e : Entry). way_of l.guids l.base e.guid e.parent) (take l.entry-index l.entries)
