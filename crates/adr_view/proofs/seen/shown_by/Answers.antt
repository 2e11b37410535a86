use Rattle.std.proofs.Common.{◌≡◌, true, sym, subst}
use Rattle.adr_values.specs.declared.stamp.Oid.{Oid}
use Rattle.adr_model.specs.Store.{updates_of}
use Rattle.adr_model.specs.Write.{nodes_held}
use Rattle.adr_view.specs.Ends.{is_live}
use Rattle.adr_view.proofs.LiveObjects.{found_lives}
use Rattle.adr_view.proofs.seen.shown_by.Goals as goal

pub values_at-requires : goal.values_at-requires
values_at-requires c =
    let all = nodes_held (updates_of c.args.rows.now) in
    subst (λ (o : Oid). is_live all o ≡ true) (sym c.object-object.ensures) (found_lives all c.args.node.now c.requires.live)

pub links_at-requires-clause-live : goal.links_at-requires-clause-live
links_at-requires-clause-live c =
    let all = nodes_held (updates_of c.args.rows.now) in
    subst (λ (o : Oid). is_live all o ≡ true) (sym c.object-object.ensures) (found_lives all c.args.node.now c.requires.live)
