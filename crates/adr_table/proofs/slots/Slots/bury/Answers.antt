use Rattle.std.proofs.Common.{◌∙◌, ap, cond, refl, subst, sym, None}
use Rattle.std.specs.List.Sorted.{IsStrictlySortedBy}
use Rattle.std.specs.Map.{keys_of, lookup}
use Rattle.std.specs.BTreeMap.{is_at}
use Rattle.adr_shelves.specs.Place.{is_in_run, is_of_class, is_of_link, place_order, values_start}
use Rattle.adr_shelves.specs.Shelves.{flat, with_held}
use Rattle.adr_table.specs.Slots.{AreAtHome}
use Rattle.adr_shelves.proofs.ShelvedEmptied.{emptied_keys}
use Rattle.adr_table.proofs.Buried.{own_row, put_home, put_row, same_keys, uncounted}
use Rattle.adr_table.proofs.Emptied.{classes_stay, emptied_found, emptied_home, links_stay}
use Rattle.adr_table.proofs.slots.Slots.bury.Goals as goal

pub bury-requires-clause-own : goal.bury-requires-clause-own
bury-requires-clause-own c = own_row c.args.object.now c.args.death.update.key c.requires.kills

pub returns-clause-places : goal.returns-clause-places
returns-clause-places c =
    ap keys_of c.bury.ensures
    ∙ emptied_keys (is_in_run (values_start c.args.object.now)) (with_held c.args.self.now.map c.args.death)
    ∙ same_keys c.args.self.now.map c.requires.tidy.ordered c.args.death c.args.object.now c.requires.kills c.requires.room

pub returns-clause-tidy : goal.returns-clause-tidy
returns-clause-tidy c =
    let es = c.args.self.now.map in
    let o = c.args.object.now in
    let h = c.args.death in
    let kills = c.requires.kills in
    let sorted = c.requires.tidy.ordered in
    record {
      ordered = subst (IsStrictlySortedBy place_order) (sym (returns-clause-places c)) sorted;
      home = subst AreAtHome (sym c.bury.ensures) (emptied_home (is_in_run (values_start o)) (with_held es h) (put_home es sorted h o kills c.requires.tidy.home));
      objects = c.requires.tidy.objects ∙ sym (uncounted es sorted h o kills is_of_class refl) ∙ classes_stay o (with_held es h) c.bury.new.self c.bury.ensures;
      links = c.requires.tidy.links ∙ sym (uncounted es sorted h o kills is_of_link refl) ∙ links_stay o (with_held es h) c.bury.new.self c.bury.ensures;
    }

pub returns-clause-rows : goal.returns-clause-rows
returns-clause-rows c q =
    ap (λ es. flat (lookup (is_at (place_order q)) es)) c.bury.ensures
    ∙ emptied_found (is_in_run (values_start c.args.object.now)) (with_held c.args.self.now.map c.args.death) q
    ∙ ap (cond (is_in_run (values_start c.args.object.now) q) None) (put_row c.args.self.now.map c.requires.tidy.ordered c.args.death c.args.object.now c.requires.kills q)
