use Rattle.std.proofs.Common.{◌≡◌, ◌∙◌, ap, cond, None}
use Rattle.adr_model.specs.Change.{goes_with}
use Rattle.adr_shelves.specs.declared.place.Place.{Place}
use Rattle.adr_shelves.specs.Place.{is_in_run, links_start, place_of, values_start}
use Rattle.adr_table.specs.Slots.{row_at}
use Rattle.adr_table.proofs.Rooms.{still_none}
use Rattle.adr_table.proofs.Stripped.{goes, kept, stripped_seen}
use Rattle.adr_table.proofs.write.strip.Goals as goal

pub links_emptied : (c : goal.After-empty_run) (q : Place) → row_at c.empty_run.new.self q ≡ cond (is_in_run (links_start c.args.object.now) q) None (row_at c.empty_values.new.self q)
links_emptied c q = c.empty_run.ensures.rows q ∙ ap (λ s. cond (is_in_run s q) None (row_at c.empty_values.new.self q)) c.before_links.ensures.place

pub returns-clause-fewer : goal.returns-clause-fewer
returns-clause-fewer c q none =
    links_emptied c q
    ∙ still_none (is_in_run (links_start c.args.object.now) q) (row_at c.empty_values.new.self q) (c.empty_values.ensures.rows q
    ∙ still_none (is_in_run (values_start c.args.object.now) q) (row_at c.empty_links_to.new.slots q) (c.empty_links_to.ensures.fewer q none))

pub returns-clause-seen : goal.returns-clause-seen
returns-clause-seen c =
    stripped_seen (goes_with c.args.object.now) c.args.slots.now.map c.empty_run.new.self.map
    (c.empty_run.ensures.places ∙ c.empty_values.ensures.places ∙ c.empty_links_to.ensures.places) c.requires.tidy.ordered
    (kept (goes_with c.args.object.now) c.args.slots.now.map c.empty_run.new.self.map c.requires.tidy.home
    (λ k. links_emptied c (place_of k)
    ∙ ap (λ r. cond (is_in_run (links_start c.args.object.now) (place_of k)) None r) (c.empty_values.ensures.rows (place_of k)
    ∙ ap (λ r. cond (is_in_run (values_start c.args.object.now) (place_of k)) None r) (c.empty_links_to.ensures.rows k))
    ∙ goes c.args.object.now k (row_at c.args.slots.now (place_of k)))
    (returns-clause-fewer c))
