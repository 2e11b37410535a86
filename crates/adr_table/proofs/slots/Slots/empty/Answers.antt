use Rattle.std.proofs.Common.{sym, ◌∙◌, ap, subst, ◌&&◌, None}
use Rattle.std.specs.Prelude.{is_some}
use Rattle.std.specs.Map.{keys_of, lookup}
use Rattle.std.specs.BTreeMap.{is_at}
use Rattle.std.proofs.lemmas.Map.{keys-set_value}
use Rattle.adr_shelves.specs.Place.{is_of_class, is_of_link, place_order}
use Rattle.adr_shelves.specs.Shelves.{flat}
use Rattle.adr_table.specs.Slots.{AreAtHome}
use Rattle.adr_table.proofs.Seen.{emptied_found, emptied_home}
use Rattle.adr_table.proofs.Counts.{emptied_count, emptied_room}
use Rattle.adr_table.proofs.slots.Slots.empty.Goals as goal

pub one_fewer-self-requires : goal.one_fewer-self-requires
one_fewer-self-requires c =
    emptied_room is_of_class c.args.self.now.map c.args.place
    (c.clear-was.result && c.is_of_class.result)
    (ap (λ b. b && c.is_of_class.result) c.clear-was.ensures.was ∙ ap (λ b. is_some (flat (lookup (is_at (place_order c.args.place)) c.args.self.now.map)) && b) c.is_of_class.ensures)
    c.args.self.now.objects c.requires.objects

pub one_fewer-self-requires-2 : goal.one_fewer-self-requires-2
one_fewer-self-requires-2 c =
    emptied_room is_of_link c.args.self.now.map c.args.place
    (c.clear-was.result && c.args.place.is_link) (ap (λ b. b && c.args.place.is_link) c.clear-was.ensures.was) c.args.self.now.links c.requires.links

pub returns-clause-tidy : goal.returns-clause-tidy
returns-clause-tidy c =
    record {
      ordered = c.are_in_order.ensures;
      home = subst AreAtHome (sym c.clear-was.ensures.entries) (emptied_home c.args.self.now.map c.args.place c.requires.home);
      objects = emptied_count is_of_class c.args.self.now.map c.clear-was.new.self c.args.place c.clear-was.ensures.entries
          (c.clear-was.result && c.is_of_class.result)
          (ap (λ b. b && c.is_of_class.result) c.clear-was.ensures.was ∙ ap (λ b. is_some (flat (lookup (is_at (place_order c.args.place)) c.args.self.now.map)) && b) c.is_of_class.ensures)
          c.args.self.now.objects c.one_fewer-self.result c.requires.objects c.one_fewer-self.ensures;
      links = emptied_count is_of_link c.args.self.now.map c.clear-was.new.self c.args.place c.clear-was.ensures.entries
          (c.clear-was.result && c.args.place.is_link) (ap (λ b. b && c.args.place.is_link) c.clear-was.ensures.was)
          c.args.self.now.links c.one_fewer-self-2.result c.requires.links c.one_fewer-self-2.ensures;
    }

pub returns-clause-rows : goal.returns-clause-rows
returns-clause-rows c q =
    ap (λ es. flat (lookup (is_at (place_order q)) es)) c.clear-was.ensures.entries ∙ emptied_found c.args.self.now.map c.args.place q

pub returns-clause-places : goal.returns-clause-places
returns-clause-places c = ap keys_of c.clear-was.ensures.entries ∙ keys-set_value (is_at (place_order c.args.place)) c.args.self.now.map None
