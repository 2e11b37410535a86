use Rattle.std.proofs.Common.{Option, ap, ◌∙◌}
use Rattle.adr_view.specs.Youngest.{Rank, later}
use Rattle.adr_view.proofs.YoungestNames.{taken_in}
use Rattle.adr_view.proofs.names.put.Goals as goal

pub returns : goal.returns
returns c =
    taken_in c.args.names.now c.insert.new.self c.args.slot c.args.rank c.later-youngest.result c.in_ok-insert.ensures.updates
    (c.later-youngest.ensures ∙ ap (λ (o : Option Rank). later o c.args.rank) c.get.ensures.value)
