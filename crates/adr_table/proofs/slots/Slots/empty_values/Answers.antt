use Rattle.std.proofs.Common.{◌∙◌, ap, subst, sym}
use Rattle.std.specs.List.Sorted.{IsStrictlySortedBy}
use Rattle.std.specs.Map.{keys_of, lookup}
use Rattle.std.specs.BTreeMap.{is_at}
use Rattle.adr_shelves.specs.Place.{is_in_run, place_order, values_start}
use Rattle.adr_shelves.specs.Shelves.{flat}
use Rattle.adr_table.specs.Slots.{AreAtHome}
use Rattle.adr_shelves.proofs.ShelvedEmptied.{emptied_keys}
use Rattle.adr_table.proofs.Emptied.{classes_stay, emptied_found, emptied_home, links_stay}
use Rattle.adr_table.proofs.slots.Slots.empty_values.Goals as goal

pub returns-clause-places : goal.returns-clause-places
returns-clause-places c = ap keys_of c.clear_values.ensures ∙ emptied_keys (is_in_run (values_start c.args.object.now)) c.args.self.now.map

pub returns-clause-tidy : goal.returns-clause-tidy
returns-clause-tidy c =
    let es = c.args.self.now.map in
    let values = is_in_run (values_start c.args.object.now) in
    record {
      ordered = subst (IsStrictlySortedBy place_order) (sym (ap keys_of c.clear_values.ensures ∙ emptied_keys values es)) c.requires.ordered;
      home = subst AreAtHome (sym c.clear_values.ensures) (emptied_home values es c.requires.home);
      objects = c.requires.objects ∙ classes_stay c.args.object.now es c.clear_values.new.self c.clear_values.ensures;
      links = c.requires.links ∙ links_stay c.args.object.now es c.clear_values.new.self c.clear_values.ensures;
    }

pub returns-clause-rows : goal.returns-clause-rows
returns-clause-rows c q =
    ap (λ es. flat (lookup (is_at (place_order q)) es)) c.clear_values.ensures ∙ emptied_found (is_in_run (values_start c.args.object.now)) c.args.self.now.map q
