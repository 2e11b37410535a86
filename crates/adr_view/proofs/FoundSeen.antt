-- What a directory has under a GUID is what the live object of that GUID shows.
use Rattle.std.proofs.Common.{◌≡◌, List, [], ◌∷◌, Bool, true, false, cond, Option, Some, None, refl, ap, ◌∙◌, map}
use Rattle.std.specs.List.{find}
use Rattle.std.specs.Option.{option_map}
use Rattle.adr_call.specs.declared.directory.Entry.{Entry}
use Rattle.adr_model.specs.Directory.{directory, entry_of}
use Rattle.adr_model.specs.Live.{live_rows}
use Rattle.adr_model.specs.Place.{Node, node_at}
use Rattle.adr_model.specs.Update.{Identifier, Update, same_identifier}
use Rattle.adr_model.specs.Write.{nodes_held}
use Rattle.adr_law_tree.proofs.Fuel.{keeps}
use Rattle.adr_view.specs.declared.seen.Shown.{Shown}
use Rattle.adr_view.specs.Seen.{seen_of}

entry_found : (rows : List Update) (all ns : List Node) (g : Identifier)
    → find (λ (e : Entry). same_identifier e.guid g) (map (entry_of rows all) ns) ≡ option_map (entry_of rows all) (node_at ns g)
entry_found rows all [] g = refl
entry_found rows all (n ∷ ns) g = by (same_identifier n.object.guid g) (entry_found rows all ns g)
  where
    by : (b : Bool) → find (λ (e : Entry). same_identifier e.guid g) (map (entry_of rows all) ns) ≡ option_map (entry_of rows all) (node_at ns g)
        → cond b (Some (entry_of rows all n)) (find (λ (e : Entry). same_identifier e.guid g) (map (entry_of rows all) ns)) ≡ option_map (entry_of rows all) (cond b (Some n) (node_at ns g))
    by true rest = refl
    by false rest = rest

-- a live object is found under its own GUID
pub found_again : (all : List Node) (g : Identifier) (n : Node) → node_at all g ≡ Some n → node_at all n.object.guid ≡ Some n
found_again all g n is = ap (node_at all) (keeps all g n is) ∙ is

module _ (us : List Update) (g : Identifier) where
  abbrev seen : Option Shown
  seen = option_map seen_of (find (λ (e : Entry). same_identifier e.guid g) (directory us))

  seen_by : (o : Option Node) → node_at (nodes_held us) g ≡ o → seen ≡ option_map seen_of (option_map (entry_of (live_rows us) (nodes_held us)) o)
  seen_by o is = ap (option_map seen_of) (entry_found (live_rows us) (nodes_held us) (nodes_held us) g ∙ ap (option_map (entry_of (live_rows us) (nodes_held us))) is)

  pub seen_there : (n : Node) → node_at (nodes_held us) g ≡ Some n → seen ≡ Some (seen_of (entry_of (live_rows us) (nodes_held us) n))
  seen_there n is = seen_by (Some n) is

  pub none_seen : node_at (nodes_held us) g ≡ None → seen ≡ None
  none_seen is = seen_by None is
