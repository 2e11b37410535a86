-- What a directory shows behind a revival: one entry more, and links to it.
use Rattle.std.proofs.Common.{◌≡◌, ℕ, List, [], ◌∷◌, Bool, true, false, cond, Option, Some, None, Ok, refl, sym, ap, ◌∙◌, subst, map}
use Rattle.std.specs.Option.{option_map}
use Rattle.adr_call.specs.declared.directory.Entry.{Entry}
use Rattle.adr_model.specs.Member.{Member, Each}
use Rattle.adr_model.specs.Update.{Identifier, same_identifier}
use Rattle.adr_model.specs.Live.{live_rows}
use Rattle.adr_model.specs.Place.{Node, node_at}
use Rattle.adr_model.specs.Directory.{links_at, entry_of}
use Rattle.adr_model.specs.Store.{Store, State, updates_of}
use Rattle.adr_model.specs.Change.{Change, after}
use Rattle.adr_model.specs.Formed.{IsFormedStore, IsFormed}
use Rattle.adr_model.specs.Write.{Revive, new_object, entry_in, links_revived, items_written, own_change, write, write_refusal}
use Rattle.adr_law_knowledge.proofs.Refusing.{answered}
use Rattle.adr_law_tree.specs.Breaker.{AreMore}
use Rattle.adr_law_tree.proofs.Names.{member_at}
use Rattle.adr_law_revived.specs.Revived.{nodes_in, revived_node, StandsIn, values_shown, entries, entry_at, links_to_others, links_shown, revived_entry, IsKept, RevivedShows}
use Rattle.adr_law_revived.proofs.Revived.{others_stay}
use Rattle.adr_law_revived.proofs.Newly.{one_more}
use Rattle.adr_law_revived.proofs.Placed.{formed_behind, stands_as_given}
use Rattle.adr_law_revived.proofs.Valued.{values_are_those}
use Rattle.adr_law_revived.proofs.Linked.{new_links_shown, others_links}

-- the links that an object shows
abbrev links_in : State → Node → List (ℕ × List Identifier)
links_in s n = links_at (live_rows (updates_of s.store.rows)) n.object

abbrev entry_in_state : State → Node → Entry
entry_in_state s n = entry_of (live_rows (updates_of s.store.rows)) (nodes_in s) n

-- an entry is that of the live object of its GUID
entry_found : (s : State) (ns : List Node) (g : Identifier) → entry_at (map (entry_in_state s) ns) g ≡ option_map (entry_in_state s) (node_at ns g)
entry_found s [] g = refl
entry_found s (n ∷ ns) g = by (same_identifier n.object.guid g) (entry_found s ns g)
  where
    by : (b : Bool) → entry_at (map (entry_in_state s) ns) g ≡ option_map (entry_in_state s) (node_at ns g)
        → cond b (Some (entry_in_state s n)) (entry_at (map (entry_in_state s) ns) g) ≡ option_map (entry_in_state s) (cond b (Some n) (node_at ns g))
    by true rest = refl
    by false rest = rest

-- the new object shows the links that came with it, and every other one those that it showed, beside links to the new one
record LinksAreThose (s t : State) (image : Store) (guid parent : Identifier) (text : List ℕ) (now : ℕ) : Type 0 where
  new : links_in t (revived_node s image guid parent text now) ≡ links_shown (new_object s guid) (links_revived s image guid)
  old : Each (λ n. links_to_others guid (links_in t n) ≡ links_in s n) (nodes_in s)

links_are_those : (s : State) (image : Store) (guid parent : Identifier) (text : List ℕ) (now : ℕ) (c : Change)
    → IsFormed s → IsFormedStore image → write s (Revive image guid parent text) now ≡ Ok c → LinksAreThose s (after s c) image guid parent text now
links_are_those s image guid parent text now c formed given e =
    let a = answered (write_refusal s (Revive image guid parent text)) (own_change s (items_written s (Revive image guid parent text) now)) c e in
    let are = one_more s image guid parent text now c formed given e in
    subst (λ (d : Change). AreMore (nodes_in s) (revived_node s image guid parent text now) (nodes_in (after s d)) → LinksAreThose s (after s d) image guid parent text now) a.1
    (λ is. let then = formed_behind s formed image guid parent text given a.0 now in record {
      new = new_links_shown s formed image guid parent text given a.0 now then is;
      old = λ n m. others_links s formed image guid parent text given a.0 now then is n m;
    }) are

pub revived_shows : RevivedShows
revived_shows s image guid parent text now c formed given e = record {
  none = entry_found s (nodes_in s) guid ∙ ap (option_map (entry_in_state s)) are.new;
  new = entry_found t (nodes_in t) guid ∙ (ap (option_map (entry_in_state t)) are.here ∙ ap Some same);
  old = old;
  children = stands.2;
}
  where
    t : State
    t = after s c

    are : AreMore (nodes_in s) (revived_node s image guid parent text now) (nodes_in (after s c))
    are = one_more s image guid parent text now c formed given e

    stands : StandsIn (nodes_in (after s c)) (revived_node s image guid parent text now)
    stands = stands_as_given s image guid parent text now c formed given e

    values : (values_shown (after s c) (new_object s guid) ≡ (entry_in image guid).values) × Each (λ n. values_shown (after s c) n.object ≡ values_shown s n.object) (nodes_in s)
    values = values_are_those s image guid parent text now c formed given e

    links : LinksAreThose s (after s c) image guid parent text now
    links = links_are_those s image guid parent text now c formed given e

    same : entry_in_state (after s c) (revived_node s image guid parent text now) ≡ revived_entry s image guid parent text
    same = λ i. record { guid = guid; class = (entry_in image guid).class; parent = stands.0 i; name = stands.1 i; values = values.0 i; links = links.new i }

    kept : (g : Identifier) (n : Option Node) → node_at (nodes_in s) g ≡ n → IsKept guid (option_map (entry_in_state s) n) (option_map (entry_in_state (after s c)) n)
    kept g None at = tt
    kept g (Some n) at = let m : Member n (nodes_in s) = member_at (nodes_in s) g n at in (refl, values.1 n m, links.old n m)

    old : (g : Identifier) → same_identifier g guid ≡ false → IsKept guid (entry_at (entries s) g) (entry_at (entries (after s c)) g)
    old g other =
        subst (λ (x : Option Entry). IsKept guid x (entry_at (entries (after s c)) g)) (sym (entry_found s (nodes_in s) g))
        (subst (λ (x : Option Entry). IsKept guid (option_map (entry_in_state s) (node_at (nodes_in s) g)) x)
        (sym (entry_found (after s c) (nodes_in (after s c)) g ∙ ap (option_map (entry_in_state (after s c))) (others_stay s image guid parent text now c formed e g other)))
        (kept g (node_at (nodes_in s) g) refl))
