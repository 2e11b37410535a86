use Rattle.std.proofs.Common.{ℕ, List, Option, map, sym, ap, ◌∙◌}
use Rattle.std.specs.Option.{option_or}
use Rattle.adr_values.specs.First.{first_of}
use Rattle.adr_model.specs.Update.{Update}
use Rattle.adr_model.specs.Take.{class_among, object_rows_tested, row_fault}
use Rattle.adr_overlay.specs.Presence.{defined}
use Rattle.adr_cycle.proofs.Standings.{fault_by, fault_so}
use Rattle.adr_cycle.proofs.taken_item.item_fault.Goals as goal

pub returns-in-OfObject : goal.returns-in-OfObject
returns-in-OfObject c vector rows stands =
    let table = c.args.schema in
    let presence = defined c.in-OfObject.presence in
    let class = c.in-OfObject.class in
    c.object_fault.ensures
    ∙ ap (λ (o : Option ℕ). first_of (map (row_fault table o) (object_rows_tested c.rows-rows.result.now presence))) (c.or.ensures ∙ ap (option_or class) c.class_among.ensures)
    ∙ ap (λ (us : List Update). first_of (map (row_fault table (option_or class (class_among us))) (object_rows_tested us presence))) c.rows-rows.ensures
    ∙ ap (fault_by table c.args.item.now.rows) (sym c.in-OfObject.is)
    ∙ fault_so table vector rows c.args.item.now c.args.standing stands
