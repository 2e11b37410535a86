use Rattle.std.proofs.Common.{◌≡◌, drop}
use Rattle.std.specs.List.{list_any}
use Rattle.std.specs.Str.{bytes_eq}
use Rattle.adr_call.specs.declared.directory.Entry.{Entry}
use Rattle.adr_search.proofs.searching.has_entry.Given as goal

-- one with the GUID is among those that are left
abbrev pub invariant-loop-entry : goal.invariant-loop-entry
invariant-loop-entry l = list_any (λ (e : Entry). bytes_eq e.guid l.guid) (drop l.entry-index l.entries) ≡ list_any (λ (e : Entry). bytes_eq e.guid l.guid) l.entries
