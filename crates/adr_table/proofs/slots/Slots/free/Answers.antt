use Rattle.std.proofs.Common.{◌≡◌, ◌∙◌, refl, sym}
use Rattle.std.specs.Map.{lookup}
use Rattle.std.specs.BTreeMap.{is_at}
use Rattle.adr_model.specs.Update.{LinkOf}
use Rattle.adr_shelves.specs.Shelves.{flat, tally}
use Rattle.adr_table.specs.Slots.{AreAtHome, seen}
use Rattle.adr_shelves.specs.Place.{is_of_class, is_of_link, place_of, place_order}
use Rattle.adr_table.proofs.Freed.{freed_home, freed_or_same, freed_same, freed_seen, freed_tally}
use Rattle.adr_table.proofs.slots.Slots.free.Goals as goal

pub returns-clause-seen : goal.returns-clause-seen
returns-clause-seen c =
    let es = c.args.self.now.map in
    freed_or_same (λ xs. seen xs ≡ seen es) es c.free_link.new.self (place_of (LinkOf c.args.link.now)) c.free_link.ensures.freed c.free_link.ensures.same refl (freed_seen es (place_of (LinkOf c.args.link.now)))

pub returns-clause-tidy : goal.returns-clause-tidy
returns-clause-tidy c =
    let es = c.args.self.now.map in
    let new = c.free_link.new.self in
    record {
      ordered = c.are_in_order.ensures;
      home = freed_or_same AreAtHome es new (place_of (LinkOf c.args.link.now)) c.free_link.ensures.freed c.free_link.ensures.same c.requires.home (λ empty. freed_home es (place_of (LinkOf c.args.link.now)) c.requires.home);
      objects = c.requires.objects ∙ sym (freed_or_same (λ xs. tally is_of_class xs ≡ tally is_of_class es) es new (place_of (LinkOf c.args.link.now)) c.free_link.ensures.freed c.free_link.ensures.same
          refl (freed_tally is_of_class es (place_of (LinkOf c.args.link.now))));
      links = c.requires.links ∙ sym (freed_or_same (λ xs. tally is_of_link xs ≡ tally is_of_link es) es new (place_of (LinkOf c.args.link.now)) c.free_link.ensures.freed c.free_link.ensures.same
          refl (freed_tally is_of_link es (place_of (LinkOf c.args.link.now))));
    }

pub returns-clause-same : goal.returns-clause-same
returns-clause-same c q =
    let es = c.args.self.now.map in
    freed_or_same (λ xs. flat (lookup (is_at (place_order q)) xs) ≡ flat (lookup (is_at (place_order q)) es)) es c.free_link.new.self (place_of (LinkOf c.args.link.now)) c.free_link.ensures.freed c.free_link.ensures.same
    refl (freed_same es (place_of (LinkOf c.args.link.now)) q c.requires.ordered)
