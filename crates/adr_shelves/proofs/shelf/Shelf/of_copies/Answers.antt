use Rattle.std.proofs.Common.{◌∙◌, [], ap, fold, sym, subst, take, Some}
use Rattle.std.specs.List.Sorted.{IsStrictlySortedBy}
use Rattle.std.specs.Map.{keys_of}
use Rattle.std.specs.BTreeMap.{insert_entry}
use Rattle.std.specs.Ordering.{nat_cmp}
use Rattle.std.proofs.lemmas.List.{take_all}
use Rattle.adr_model.specs.Update.{Key}
use Rattle.adr_shelves.specs.Place.{place_of}
use Rattle.adr_shelves.specs.Shelf.{with_own}
use Rattle.adr_shelves.specs.Shelves.{held_at}
use Rattle.adr_shelves.proofs.Shelved.{Kept}
use Rattle.adr_shelves.proofs.ShelvedObjects.{put_more, rows_rise}
use Rattle.adr_shelves.proofs.shelf.Shelf.of_copies.Goals as goal

pub loop-row-init : goal.loop-row-init
loop-row-init c = c.new-shelf.ensures

pub put-requires : goal.put-requires
put-requires c =
    subst (λ (s : Kept). IsStrictlySortedBy nat_cmp (keys_of s)) (sym c.loop-row.invariant)
    (rows_rise (λ u. u.key) (λ u o. Some (held_at c.args.local u)) (take c.loop-row.row-index c.args.rows.now))

pub loop-row-preserved : goal.loop-row-preserved
loop-row-preserved c =
    let attr = c.attr_of.ensures ∙ ap (λ (k : Key). (place_of k).attr) c.key.ensures in
    let copy = c.new-copy.ensures ∙ ap (held_at c.args.local) c.in_ok-copy.ensures in
    put_more (with_own c.args.local) c.args.rows.now c.loop-row.row-index c.row-item.result c.loop-row-test.true c.row-item.is c.loop-row.shelf c.put.new.self c.loop-row.invariant
    (c.in_ok-put.ensures.entries ∙ ap (λ a. insert_entry nat_cmp c.loop-row.shelf a (Some c.new-copy.result)) attr
    ∙ ap (λ h. insert_entry nat_cmp c.loop-row.shelf (place_of c.row-item.result.key).attr (Some h)) copy)

pub returns : goal.returns
returns c = c.loop-row.invariant ∙ ap (fold (with_own c.args.local) []) (take_all c.loop-row.row-index c.args.rows.now c.loop-row-test.false)
