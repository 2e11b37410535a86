use Rattle.std.proofs.Common.{◌∙◌, [], ap, fold, sym, subst, take, None}
use Rattle.std.specs.List.Sorted.{IsStrictlySortedBy}
use Rattle.std.specs.Map.{keys_of, lookup}
use Rattle.std.specs.BTreeMap.{insert_entry, is_at}
use Rattle.std.specs.Option.{unwrap_or}
use Rattle.std.specs.Ordering.{nat_cmp}
use Rattle.std.proofs.lemmas.List.{take_all}
use Rattle.adr_model.specs.Update.{Key}
use Rattle.adr_shelves.specs.Place.{place_of}
use Rattle.adr_shelves.specs.Shelf.{with_own_slot}
use Rattle.adr_shelves.proofs.Shelved.{Kept}
use Rattle.adr_shelves.proofs.ShelvedObjects.{put_more, rows_rise}
use Rattle.adr_shelves.proofs.shelf.Shelf.of_slots.Goals as goal

pub loop-row-init : goal.loop-row-init
loop-row-init c = c.new-shelf.ensures

pub make-requires : goal.make-requires
make-requires c =
    subst (λ (s : Kept). IsStrictlySortedBy nat_cmp (keys_of s)) (sym c.loop-row.invariant)
    (rows_rise (λ h. h.update.key) (λ h o. unwrap_or o None) (take c.loop-row.row-index c.args.rows.now))

pub loop-row-preserved : goal.loop-row-preserved
loop-row-preserved c =
    let attr = c.attr_of.ensures ∙ ap (λ (k : Key). (place_of k).attr) c.key.ensures in
    put_more with_own_slot c.args.rows.now c.loop-row.row-index c.row-item.result c.loop-row-test.true c.row-item.is c.loop-row.shelf c.make.new.self c.loop-row.invariant
    (c.in_ok-make.ensures.entries ∙ ap (λ a. insert_entry nat_cmp c.loop-row.shelf a (unwrap_or (lookup (is_at (nat_cmp a)) c.loop-row.shelf) None)) attr)

pub returns : goal.returns
returns c = c.loop-row.invariant ∙ ap (fold with_own_slot []) (take_all c.loop-row.row-index c.args.rows.now c.loop-row-test.false)
