use Rattle.std.proofs.Common.{◌≤◌, length, sym, ap, ◌∙◌, subst, List}
use Rattle.adr_model.specs.Place.{Node}
use Rattle.adr_model.specs.Store.{updates_of}
use Rattle.adr_model.specs.Write.{nodes_held}
use Rattle.adr_law_tree.proofs.RisingRows.{rising_updates}
use Rattle.adr_revival.proofs.WaysUp.{enough_steps, names, no_more_live, upward_from}
use Rattle.adr_revival.proofs.climbing.is_named_above.Goals as goal

pub returns : goal.returns
returns c =
    let nodes : List Node = nodes_held (updates_of c.args.rows.now) in
    let few = no_more_live (updates_of c.args.rows.now) (rising_updates c.args.rows.now c.are_rising.ensures) in
    c.climbs_to.ensures
    ∙ enough_steps nodes c.args.guid c.objects.result c.args.place (subst (λ n. length nodes ≤ n) (sym c.objects.ensures) few)
    ∙ sym (ap (names c.args.guid) (upward_from nodes (length nodes) c.args.place))
