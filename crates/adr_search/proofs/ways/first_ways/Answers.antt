use Rattle.std.proofs.Common.{◌∙◌}
use Rattle.std.proofs.lemmas.Result.{IfOk-weaker}
use Rattle.adr_search.proofs.Walking.{first_are}
use Rattle.adr_search.proofs.ways.first_ways.Goals as goal

pub returns : goal.returns
returns c = IfOk-weaker c.ways_from.result _ _ (λ ways is. first_are c.args.entries.now c.args.base c.requires.rising c.as_slice.result.now ways.items (c.as_slice.ensures.value ∙ c.in_ok-guids.ensures) is) c.ways_from.ensures
