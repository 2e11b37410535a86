use Rattle.std.proofs.Common.{◌≡◌, ◌++◌}
use Rattle.adr_view.proofs.links.listed.Given as goal

-- those so far and those that are left are all
abbrev pub invariant-loop-guid : goal.invariant-loop-guid
invariant-loop-guid l = record {
  can : (goal.iterator-loop-guid).can_next l.guid-iterator;
  finite : (goal.iterator-loop-guid).is_finite l.guid-iterator;
  same : l.list.items ++ l.guid-iterator ≡ l.fn.guids.keys;
}
