use Rattle.std.proofs.Common.{rules, ◌≡◌, Some, true, sym, subst}
use Rattle.adr_values.specs.declared.stamp.Oid.{Oid}
use Rattle.adr_model.specs.Place.{node_at}
use Rattle.adr_model.specs.Store.{updates_of}
use Rattle.adr_model.specs.Update.{same_object}
use Rattle.adr_model.specs.Write.{nodes_held}
use Rattle.adr_model.proofs.Keys.{objects_tell}
use Rattle.adr_view.proofs.meta.life_of.Goals as goal

pub place-requires : goal.place-requires
place-requires c =
    let node = c.in-Some.node.now in
    let alike : same_object node.object c.args.object.now ≡ true = search rules in
    subst (λ (o : Oid). node_at (nodes_held (updates_of c.args.rows.now)) o.guid ≡ Some node) (sym (objects_tell node.object c.args.object.now alike)) (search rules)
