use Rattle.std.proofs.Common.{ap, sym, ◌∙◌}
use Rattle.adr_filter.specs.declared.filter.Filter.{fold-roll-Filter}
use Rattle.adr_filter.specs.declared.filter.Filter.TheOpen.{Filter-F}
use Rattle.adr_filter.specs.declared.filter.Filter.TheVariants.{rolls-And, rolls-Or}
use Rattle.adr_filter.specs.Seen.{tree, tree_step}
use Rattle.adr_filter.specs.Tree.{Tree}
use Rattle.adr_search.specs.declared.plan.Plan.{fold-roll-Plan}
use Rattle.adr_search.specs.declared.plan.Plan.TheOpen.{Plan-F}
use Rattle.adr_search.specs.declared.plan.Plan.TheVariants as plans
use Rattle.adr_search.specs.Plans.{Judgement, all_true, judgement, one_true, truth_in}
use Rattle.adr_search.proofs.Judging.{all_are, any_is, every_is, some_are}
use Rattle.adr_search.proofs.plan.+planning.Goals as goal

pub plan_of-returns-in_ok-plans_of-in-And : goal.plan_of-returns-in_ok-plans_of-in-And
plan_of-returns-in_ok-plans_of-in-And t c =
    let parts = c.in-And.parts in
    let read = c.in_ok-plans_of-in-And.field-0 in
    let is = ap tree c.in-And.is ∙ ap tree (sym (rolls-And parts)) ∙ fold-roll-Filter Tree tree_step (Filter-F.And parts) in
    let whole = ap truth_in (sym (plans.rolls-And read)) ∙ fold-roll-Plan Judgement judgement (Plan-F.And read) in
    whole ∙ ap all_true c.in_ok-plans_of-in-And.ensures ∙ all_are parts.items ∙ every_is parts.items (tree c.args.filter.now) is

pub plan_of-returns-in_ok-plans_of-in-Or : goal.plan_of-returns-in_ok-plans_of-in-Or
plan_of-returns-in_ok-plans_of-in-Or t c =
    let parts = c.in-Or.parts in
    let read = c.in_ok-plans_of-in-Or.field-0 in
    let is = ap tree c.in-Or.is ∙ ap tree (sym (rolls-Or parts)) ∙ fold-roll-Filter Tree tree_step (Filter-F.Or parts) in
    let whole = ap truth_in (sym (plans.rolls-Or read)) ∙ fold-roll-Plan Judgement judgement (Plan-F.Or read) in
    whole ∙ ap one_true c.in_ok-plans_of-in-Or.ensures ∙ some_are parts.items ∙ any_is parts.items (tree c.args.filter.now) is
