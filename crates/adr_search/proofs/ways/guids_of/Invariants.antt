use Rattle.std.proofs.Common.{◌≡◌, map, take}
use Rattle.adr_call.specs.declared.directory.Entry.{Entry}
use Rattle.adr_search.proofs.ways.guids_of.Given as goal

-- the GUIDs so far
abbrev pub invariant-loop-entry : goal.invariant-loop-entry
invariant-loop-entry l = l.guids.items ≡ map (λ (e : Entry). e.guid) (take l.entry-index l.entries)
