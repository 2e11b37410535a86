use Rattle.std.proofs.Common.{◌≡◌, drop}
use Rattle.std.specs.List.{list_any}
use Rattle.adr_search.specs.Match.{is_met}
use Rattle.adr_search.specs.Seen.{test_in}
use Rattle.adr_search.proofs.asked.Test.meets_one.Given as goal

-- one that is as asked is among those that are left
abbrev pub invariant-loop-value : goal.invariant-loop-value
invariant-loop-value l = list_any (is_met (test_in l.self)) (drop l.value-index l.values) ≡ list_any (is_met (test_in l.self)) l.values
