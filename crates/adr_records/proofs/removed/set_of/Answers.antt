use Rattle.std.proofs.Common.{◌≡◌, ◌+◌, ◌∷◌, List, sym, ap, ◌∙◌, drop, fold, get_or}
use Rattle.std.specs.BTreeSet.{insert_key}
use Rattle.std.proofs.lemmas.List.{drop_more}
use Rattle.adr_values.specs.Order.{object_order}
use Rattle.adr_values.specs.declared.stamp.Oid.{Oid}
use Rattle.adr_records.proofs.removed.set_of.Goals as goal

pub loop-object-preserved : goal.loop-object-preserved
loop-object-preserved c =
    let objects = c.args.objects.now in
    let at = c.loop-object.object-index in
    let keys = c.loop-object.set.keys in
    let left : drop at objects ≡ get_or objects at c.object-item.result ∷ drop (at + 1) objects = drop_more objects at c.object-item.result c.loop-object-test.true in
    ap (λ (ks : List Oid). fold (insert_key object_order) ks (drop (at + 1) objects)) (c.in_ok-insert.ensures.keys ∙ ap (insert_key object_order keys) c.object-item.is)
    ∙ (sym (ap (fold (insert_key object_order) keys) left) ∙ c.loop-object.invariant)
