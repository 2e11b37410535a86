use Rattle.std.proofs.Common.{ap, ◌∙◌, filter}
use Rattle.adr_model.specs.Serve.{is_unseen}
use Rattle.adr_cycle.specs.Candidates.{some_item}
use Rattle.adr_cycle.proofs.candidates.candidate_of.Goals as goal

pub returns : goal.returns
returns c =
    let left = c.unseen_rows-unseen.ensures ∙ ap (filter (is_unseen c.args.from c.args.asked.now)) c.in_ok-rows_of_unit.ensures in
    c.candidate_if_any.ensures ∙ ap (some_item c.args.unit) left
