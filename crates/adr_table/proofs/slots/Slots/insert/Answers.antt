use Rattle.std.proofs.Common.{◌≡◌, sym, ◌∙◌, ap, subst, Some, cond, not, ◌&&◌}
use Rattle.std.specs.Prelude.{is_some}
use Rattle.std.specs.Map.{keys_of, lookup}
use Rattle.std.specs.BTreeMap.{insert_entry, is_at}
use Rattle.adr_shelves.specs.Place.{is_of_class, is_of_link, place_of, place_order}
use Rattle.adr_shelves.specs.Shelves.{flat}
use Rattle.adr_table.specs.Slots.{seen, AreAtHome, HasSlot, row_at}
use Rattle.adr_table.proofs.Seen.{written, home_still, flat_either, put_found, put_keys}
use Rattle.adr_table.proofs.Counts.{put_count, put_room}
use Rattle.adr_table.proofs.slots.Slots.insert.Goals as goal

pub one_more-self-requires : goal.one_more-self-requires
one_more-self-requires c =
    put_room is_of_class c.args.self.now.map c.put.new.self c.of-place.result c.args.row c.in_ok-was.ensures.entries c.requires.ordered
    (not c.in_ok-was.was' && c.is_of_class.result)
    (ap (λ b. not b && c.is_of_class.result) c.in_ok-was.ensures.was ∙ ap (λ b. not (is_some (flat (lookup (is_at (place_order c.of-place.result)) c.args.self.now.map))) && b) c.is_of_class.ensures)
    c.args.self.now.objects c.requires.objects c.objects.result c.objects.ensures

pub one_more-self-requires-2 : goal.one_more-self-requires-2
one_more-self-requires-2 c =
    put_room is_of_link c.args.self.now.map c.put.new.self c.of-place.result c.args.row c.in_ok-was.ensures.entries c.requires.ordered
    (not c.in_ok-was.was' && c.of-place.result.is_link) (ap (λ b. not b && c.of-place.result.is_link) c.in_ok-was.ensures.was) c.args.self.now.links c.requires.links
    c.links.result c.links.ensures

pub returns-clause-seen : goal.returns-clause-seen
returns-clause-seen c =
    let place : c.of-place.result ≡ place_of c.args.row.update.key = c.of-place.ensures ∙ ap place_of c.key.ensures in
    ap seen (c.in_ok-was.ensures.entries ∙ ap (λ p. insert_entry place_order c.args.self.now.map p (Some c.args.row)) place)
    ∙ written c.args.self.now.map c.args.row c.requires.ordered c.requires.home

pub returns-clause-tidy : goal.returns-clause-tidy
returns-clause-tidy c =
    let place : c.of-place.result ≡ place_of c.args.row.update.key = c.of-place.ensures ∙ ap place_of c.key.ensures in
    record {
      ordered = c.are_in_order.ensures;
      home = subst AreAtHome (sym c.in_ok-was.ensures.entries) (home_still c.args.self.now.map c.of-place.result (Some c.args.row) (sym place) c.requires.home);
      objects = c.one_more-self.ensures ∙ sym (put_count is_of_class c.args.self.now.map c.put.new.self c.of-place.result c.args.row c.in_ok-was.ensures.entries c.requires.ordered
          (not c.in_ok-was.was' && c.is_of_class.result)
          (ap (λ b. not b && c.is_of_class.result) c.in_ok-was.ensures.was ∙ ap (λ b. not (is_some (flat (lookup (is_at (place_order c.of-place.result)) c.args.self.now.map))) && b) c.is_of_class.ensures)
          c.args.self.now.objects c.requires.objects);
      links = c.one_more-self-2.ensures ∙ sym (put_count is_of_link c.args.self.now.map c.put.new.self c.of-place.result c.args.row c.in_ok-was.ensures.entries c.requires.ordered
          (not c.in_ok-was.was' && c.of-place.result.is_link) (ap (λ b. not b && c.of-place.result.is_link) c.in_ok-was.ensures.was) c.args.self.now.links c.requires.links);
    }

pub returns-clause-rows : goal.returns-clause-rows
returns-clause-rows c q =
    let place : c.of-place.result ≡ place_of c.args.row.update.key = c.of-place.ensures ∙ ap place_of c.key.ensures in
    ap (λ es. flat (lookup (is_at (place_order q)) es)) c.in_ok-was.ensures.entries
    ∙ ap flat (put_found c.args.self.now.map c.of-place.result q (Some c.args.row))
    ∙ flat_either (is_at (place_order c.of-place.result) q) (Some c.args.row) (lookup (is_at (place_order q)) c.args.self.now.map)
    ∙ ap (λ p. cond (is_at (place_order p) q) (Some c.args.row) (row_at c.args.self.now q)) place

pub returns-clause-places : goal.returns-clause-places
returns-clause-places c some =
    let place : c.of-place.result ≡ place_of c.args.row.update.key = c.of-place.ensures ∙ ap place_of c.key.ensures in
    ap keys_of c.in_ok-was.ensures.entries
    ∙ put_keys c.args.self.now.map c.of-place.result (Some c.args.row) c.requires.ordered (subst (HasSlot c.args.self.now) (sym place) some)
