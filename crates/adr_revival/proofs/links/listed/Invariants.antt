use Rattle.std.proofs.Common.{◌≡◌, ◌++◌}
use Rattle.adr_revival.proofs.links.listed.Given as goal

-- those so far and those that are left are all
abbrev pub invariant-loop-link : goal.invariant-loop-link
invariant-loop-link l = record {
  can : (goal.iterator-loop-link).can_next l.link-iterator;
  finite : (goal.iterator-loop-link).is_finite l.link-iterator;
  same : l.list.items ++ l.link-iterator ≡ l.fn.links.keys;
}
