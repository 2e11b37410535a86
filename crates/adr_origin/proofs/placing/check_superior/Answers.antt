use Rattle.std.proofs.Common.{sym, ap, ◌∙◌}
use Rattle.adr_values.specs.Table.{Table, is_superior}
use Rattle.adr_model.specs.Store.{updates_of}
use Rattle.adr_model.specs.Write.{class_of_place, nodes_held}
use Rattle.adr_origin.proofs.Superiors.{other_than_lost}
use Rattle.adr_origin.proofs.placing.check_superior.Goals as goal

pub returns-then-is_superior-clause-other : goal.returns-then-is_superior-clause-other
returns-then-is_superior-clause-other c =
    let nodes = nodes_held (updates_of c.args.state.now.store.rows) in
    other_than_lost nodes c.args.state.now.store.schema c.args.class c.args.parent
    (ap (λ (t : Table). is_superior t c.args.class (class_of_place nodes c.args.parent)) (sym c.schema.ensures.table)
    ∙ (ap (is_superior c.schema.result c.args.class) (sym c.class_of_place-place.ensures) ∙ (sym c.is_superior.ensures ∙ c.if-is_superior.true)))
