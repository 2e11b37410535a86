use Rattle.std.proofs.Common.{◌≡◌, map, drop}
use Rattle.adr_search.specs.Plans.{all_true, one_true, truth_in}
use Rattle.adr_search.specs.Truths.{both, either}
use Rattle.adr_search.proofs.plan.+judging.Given as goal

-- the least of those so far, and of those that are left
abbrev pub invariant-least_of-loop-part : goal.invariant-least_of-loop-part
invariant-least_of-loop-part l = both l.least (all_true (map truth_in (drop l.part-index l.part-items)) l.entry) ≡ all_true (map truth_in l.part-items) l.entry

-- the greatest of those so far, and of those that are left
abbrev pub invariant-greatest_of-loop-part : goal.invariant-greatest_of-loop-part
invariant-greatest_of-loop-part l = either l.greatest (one_true (map truth_in (drop l.part-index l.part-items)) l.entry) ≡ one_true (map truth_in l.part-items) l.entry
