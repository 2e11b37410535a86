use Rattle.std.proofs.Common.{◌≡◌, ◌∙◌, ap, cond, filter, not, refl, subst, sym, Bool, true, false, None, Option, Some}
use Rattle.std.specs.List.Sorted.{IsStrictlySortedBy}
use Rattle.std.specs.Map.{keys_of, lookup}
use Rattle.std.specs.BTreeMap.{is_at}
use Rattle.adr_model.specs.Change.{goes_with}
use Rattle.adr_model.specs.Store.{Held}
use Rattle.adr_shelves.specs.declared.place.Place.{Place}
use Rattle.adr_shelves.specs.Place.{is_in_run, links_start, place_of, place_order, values_start}
use Rattle.adr_shelves.specs.Shelves.{flat, with_held}
use Rattle.adr_table.specs.Slots.{row_at}
use Rattle.adr_update.specs.Sought.{is_link_to}
use Rattle.adr_shelves.proofs.Entries.{Entries}
use Rattle.adr_table.proofs.Buried.{backed_buried, put_home, put_row, same_keys}
use Rattle.adr_table.proofs.Rooms.{backed_fewer, still_none}
use Rattle.adr_table.proofs.Seen.{written}
use Rattle.adr_table.proofs.Stripped.{goes, kept, stripped_seen}
use Rattle.adr_table.proofs.write.bury.Goals as goal

pub empty_links_to-requires-clause-backed : goal.empty_links_to-requires-clause-backed
empty_links_to-requires-clause-backed c =
    backed_buried c.args.slots.now c.bury.new.self c.args.back.now c.args.death c.args.object.now c.requires.tidy.ordered c.requires.kills c.requires.backed c.bury.ensures.rows

links_emptied : (c : goal.After-empty_run) (q : Place) → row_at c.empty_run.new.self q ≡ cond (is_in_run (links_start c.args.object.now) q) None (row_at c.empty_links_to.new.slots q)
links_emptied c q = c.empty_run.ensures.rows q ∙ ap (λ s. cond (is_in_run s q) None (row_at c.empty_links_to.new.slots q)) c.before_links.ensures.place

pub returns-clause-places : goal.returns-clause-places
returns-clause-places c = c.empty_run.ensures.places ∙ c.empty_links_to.ensures.places ∙ c.bury.ensures.places

pub returns-clause-backed : goal.returns-clause-backed
returns-clause-backed c =
    backed_fewer c.bury.new.self c.empty_run.new.self c.args.back.now
    (backed_buried c.args.slots.now c.bury.new.self c.args.back.now c.args.death c.args.object.now c.requires.tidy.ordered c.requires.kills c.requires.backed c.bury.ensures.rows)
    (λ q none. links_emptied c q ∙ still_none (is_in_run (links_start c.args.object.now) q) (row_at c.empty_links_to.new.slots q) (c.empty_links_to.ensures.fewer q none))

swapped : (a b : Bool) (r : Option Held) → cond a None (cond b None r) ≡ cond b None (cond a None r)
swapped true true r = refl
swapped true false r = refl
swapped false true r = refl
swapped false false r = refl

pub returns-clause-seen : goal.returns-clause-seen
returns-clause-seen c =
    let es = c.args.slots.now.map in
    let o = c.args.object.now in
    let h = c.args.death in
    let sorted = c.requires.tidy.ordered in
    let gone = goes_with o in
    let mid : Entries = with_held es h in
    let keys : keys_of mid ≡ keys_of es = same_keys es sorted h o c.requires.kills c.requires.room in
    let row = λ (q : Place). put_row es sorted h o c.requires.kills q in
    stripped_seen gone mid c.empty_run.new.self.map (returns-clause-places c ∙ sym keys) (subst (IsStrictlySortedBy place_order) (sym keys) sorted)
    (kept gone mid c.empty_run.new.self.map (put_home es sorted h o c.requires.kills c.requires.tidy.home)
    (λ k. links_emptied c (place_of k)
    ∙ ap (cond (is_in_run (links_start o) (place_of k)) None) (c.empty_links_to.ensures.rows k
    ∙ ap (cond (is_link_to o k) None) (c.bury.ensures.rows (place_of k) ∙ ap (cond (is_in_run (values_start o) (place_of k)) None) (sym (row (place_of k))))
    ∙ swapped (is_link_to o k) (is_in_run (values_start o) (place_of k)) (flat (lookup (is_at (place_order (place_of k))) mid)))
    ∙ goes o k (flat (lookup (is_at (place_order (place_of k))) mid)))
    (λ q none. links_emptied c q ∙ still_none (is_in_run (links_start o) q) (row_at c.empty_links_to.new.slots q) (c.empty_links_to.ensures.fewer q
    (c.bury.ensures.rows q ∙ still_none (is_in_run (values_start o) q) (cond (is_at (place_order (place_of h.update.key)) q) (Some h) (row_at c.args.slots.now q)) (sym (row q) ∙ none)))))
    ∙ ap (filter (λ x. not (gone x.update.key))) (written es h sorted c.requires.tidy.home)
