use Rattle.std.proofs.Common.{◌≡◌, map, take}
use Rattle.adr_filter.specs.declared.filter.Filter.{Filter}
use Rattle.adr_filter.specs.Seen.{tree}
use Rattle.adr_search.specs.Match.{matches}
use Rattle.adr_search.specs.Plans.{truth_in}
use Rattle.adr_search.proofs.plan.+planning.Given as goal

-- the parts so far are read
abbrev pub invariant-plans_of-loop-part : goal.invariant-plans_of-loop-part
invariant-plans_of-loop-part l = map truth_in l.plans.items ≡ map (λ (f : Filter). matches (tree f)) (take l.part-index l.part-items)
