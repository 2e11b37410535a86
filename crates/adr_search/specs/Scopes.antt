-- What a search finds.
use Rattle.std.specs.Prelude.{ℕ, zero, suc, List, Bool, false, ◌&&◌, ◌||◌, length, map, filter, find, Option, Some, None, if◌then◌else◌}
use Rattle.std.specs.List.{list_any}
use Rattle.std.specs.List.Sorted.{IsStrictlySortedBy}
use Rattle.std.specs.Option.{option_map, option_map_or}
use Rattle.std.specs.Str.{bytes_eq}
use Rattle.std.specs.Int.{w128, to_be_bytes}
use Rattle.adr_values.specs.Order.{identifier_order}
use Rattle.adr_call.specs.declared.directory.Entry.{Entry}
use Rattle.adr_filter.specs.declared.filter.Scope.{Scope}
use Rattle.adr_filter.specs.declared.filter.Scope.TheVariants.{Base, One, Sub}
use Rattle.adr_filter.specs.Tree.{Tree}
use Rattle.adr_search.specs.Truths.{is_true}
use Rattle.adr_search.specs.Match.{matches}

abbrev pub root : List ℕ
root = to_be_bytes w128 1

abbrev pub lost_and_found : List ℕ
lost_and_found = to_be_bytes w128 2

abbrev pub entry_at : List Entry → List ℕ → Option Entry
entry_at es guid = find (λ (e : Entry). bytes_eq e.guid guid) es

-- where going up leads: from LostAndFound to the root, and from the root nowhere
abbrev pub up_from : List Entry → List ℕ → Option (List ℕ)
up_from es guid =
    if bytes_eq guid root then None
    else if bytes_eq guid lost_and_found then Some root
    else option_map (λ (e : Entry). e.parent) (entry_at es guid)

-- going up by places meets the base, in so many steps at most
abbrev pub climbs : List Entry → List ℕ → ℕ → List ℕ → Bool
climbs es base zero guid = bytes_eq guid base
climbs es base (suc n) guid = bytes_eq guid base || option_map_or (climbs es base n) (up_from es guid) false

-- more steps than entries and LostAndFound allow are never needed
abbrev pub is_in_scope : List Entry → List ℕ → Scope → Entry → Bool
is_in_scope es base Base e = bytes_eq e.guid base
is_in_scope es base One e = bytes_eq e.parent base
is_in_scope es base Sub e = climbs es base (suc (length es)) e.guid

-- the entries in scope of which the filter is true
abbrev pub found : List Entry → List ℕ → Scope → Tree → List (List ℕ)
found es base scope t = map (λ (e : Entry). e.guid) (filter (λ e. is_in_scope es base scope e && is_true (matches t e)) es)

-- the root and LostAndFound have no entry
abbrev pub is_top : List ℕ → Bool
is_top guid = bytes_eq guid root || bytes_eq guid lost_and_found

abbrev pub has_base : List Entry → List ℕ → Bool
has_base es base = is_top base || list_any (λ (e : Entry). bytes_eq e.guid base) es

-- entries go by their GUIDs
abbrev pub AreRising : List Entry → Type 0
AreRising es = IsStrictlySortedBy identifier_order (map (λ (e : Entry). e.guid) es)
