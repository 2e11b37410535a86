use Rattle.std.proofs.Common.{◌∙◌}
use Rattle.std.proofs.lemmas.Result.{IfOk-weaker}
use Rattle.adr_filter.specs.Seen.{tree}
use Rattle.adr_search.specs.Plans.{truth_in}
use Rattle.adr_search.proofs.Judging.{found_is}
use Rattle.adr_search.proofs.searching.found.Goals as goal

pub returns : goal.returns
returns c =
    let marks = c.as_slice.ensures.value ∙ c.in_ok-marks.ensures in
    let same = found_is c.args.entries.now c.args.base c.args.scope (tree c.args.filter.now) (truth_in c.in_ok-plan.plan) c.as_slice.result.now c.in_ok-plan.ensures marks in
    IfOk-weaker c.chosen.result _ _ (λ guids is. is ∙ same) c.chosen.ensures
