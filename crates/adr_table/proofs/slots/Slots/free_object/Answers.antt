use Rattle.std.proofs.Common.{◌≡◌, ◌∙◌, ap, sym, subst, Bool}
use Rattle.std.specs.Map.{lookup}
use Rattle.std.specs.BTreeMap.{is_at}
use Rattle.adr_shelves.specs.declared.place.Place.{Place}
use Rattle.adr_shelves.specs.Place.{is_of_class, is_of_link, is_of_unit, place_order, rows_start}
use Rattle.adr_shelves.specs.Shelves.{flat, freed, tally}
use Rattle.adr_table.specs.Slots.{AreAtHome, seen}
use Rattle.adr_shelves.proofs.Entries.{Entries}
use Rattle.adr_table.proofs.UnitFrees.{freed_home, freed_same, freed_seen, freed_tally, none_empty, run_of_unit, still_empty}
use Rattle.adr_table.proofs.slots.Slots.free_object.Goals as goal
use Rattle.adr_table.proofs.slots.Slots.free_object.Goals.{After-are_in_order}

-- whether a place is of the object's unit
abbrev of_object : After-are_in_order → Place → Bool
of_object c = is_of_unit (rows_start c.args.object.now)

left : (c : After-are_in_order) → c.free_object.new.self ≡ freed (of_object c) c.args.self.now.map
left c = c.free_object.ensures

pub returns-clause-seen : goal.returns-clause-seen
returns-clause-seen c = ap seen (left c) ∙ freed_seen (of_object c) c.args.self.now.map

pub returns-clause-tidy : goal.returns-clause-tidy
returns-clause-tidy c = record {
  ordered = c.are_in_order.ensures;
  home = subst AreAtHome (sym (left c)) (freed_home (of_object c) c.args.self.now.map c.requires.home);
  objects = c.requires.objects ∙ sym (ap (tally is_of_class) (left c) ∙ freed_tally (of_object c) is_of_class c.args.self.now.map);
  links = c.requires.links ∙ sym (ap (tally is_of_link) (left c) ∙ freed_tally (of_object c) is_of_link c.args.self.now.map);
}

pub returns-clause-same : goal.returns-clause-same
returns-clause-same c q =
    ap (λ (es : Entries). flat (lookup (is_at (place_order q)) es)) (left c) ∙ freed_same (of_object c) c.args.self.now.map q c.requires.ordered

pub returns-clause-full : goal.returns-clause-full
returns-clause-full c q within empty =
    none_empty (of_object c) c.args.self.now.map q (run_of_unit c.args.object.now q within) (ap (lookup (is_at (place_order q))) (sym (left c)) ∙ empty)

pub returns-clause-still : goal.returns-clause-still
returns-clause-still c o full q within empty =
    full q within (still_empty (of_object c) c.args.self.now.map q (ap (lookup (is_at (place_order q))) (sym (left c)) ∙ empty))
