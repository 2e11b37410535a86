use Rattle.std.proofs.Common.{◌≡◌, map, take}
use Rattle.std.specs.Str.{bytes_eq}
use Rattle.adr_call.specs.declared.directory.Entry.{Entry}
use Rattle.adr_search.proofs.searching.with_guid.Given as goal

-- the entries so far are marked
abbrev pub invariant-loop-entry : goal.invariant-loop-entry
invariant-loop-entry l = l.marks.items ≡ map (λ (e : Entry). bytes_eq e.guid l.guid) (take l.entry-index l.entries)
