use Rattle.std.proofs.Common.{◌≡◌, ◌++◌, map}
use Rattle.adr_state.specs.Drafts.{DoRise, edit_of}
use Rattle.adr_state.proofs.edits.edits_to.Given as goal

-- with the edits to which the drafts that are left come they are all
abbrev pub invariant-loop-guid : goal.invariant-loop-guid
invariant-loop-guid l = record {
  rising : DoRise l.guid-iterator;
  same : l.edits.items ++ map edit_of l.guid-iterator ≡ map edit_of l.drafts.entries;
}
