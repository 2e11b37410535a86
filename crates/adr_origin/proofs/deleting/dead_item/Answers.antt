use Rattle.std.proofs.Common.{◌≡◌, sym, ap, ◌∙◌, arith}
use Rattle.adr_values.specs.declared.stamp.Oid.{Oid}
use Rattle.adr_model.specs.Store.{row_held}
use Rattle.adr_model.specs.Update.{RowOf, deleted_attr}
use Rattle.adr_model.specs.Write.{version_of, version_limit}
use Rattle.adr_origin.proofs.Living.{first_death}
use Rattle.adr_origin.proofs.deleting.dead_item.Goals as goal

pub next_item-requires-clause-version : goal.next_item-requires-clause-version
next_item-requires-clause-version c e =
    let rows = c.args.state.now.store.rows in
    let first = ap (λ (o : Oid). version_of (row_held rows (RowOf o deleted_attr))) c.object_of-object.ensures ∙ first_death rows c.args.guid c.requires.live in
    let limit : 0 ≡ version_limit = sym first ∙ e in
    omega (arith, limit)
