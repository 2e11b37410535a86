use Rattle.std.proofs.Common.{◌≡◌, drop, map}
use Rattle.std.specs.List.{list_any}
use Rattle.adr_values.specs.declared.content.Value.TheVariants.{Ref}
use Rattle.adr_search.specs.Match.{is_met}
use Rattle.adr_search.specs.Seen.{test_in}
use Rattle.adr_search.proofs.asked.Test.meets_one_guid.Given as goal

-- one that is as asked is among those that are left
abbrev pub invariant-loop-guid : goal.invariant-loop-guid
invariant-loop-guid l = list_any (is_met (test_in l.self)) (map Ref (drop l.guid-index l.guids)) ≡ list_any (is_met (test_in l.self)) (map Ref l.guids)
