-- Where going up from an entry leads in some steps.
use Rattle.std.specs.Prelude.{◌≡◌, ◌<◌, ℕ, suc, ◌+◌, List, [], ◌∷◌, Bool, true, false, length, map, slice_index_or, Option, Some, None, option_map, if◌then◌else◌}
use Rattle.std.specs.List.Sorted.{IsStrictlySortedBy}
use Rattle.std.specs.Str.{bytes_eq}
use Rattle.adr_values.specs.Order.{identifier_order}
use Rattle.adr_call.specs.declared.directory.Entry.{Entry}
use Rattle.adr_search.specs.declared.ways.Way.{Way}
use Rattle.adr_search.specs.declared.ways.Way.TheVariants.{Ends, Leads}
use Rattle.adr_search.specs.Scopes.{climbs, lost_and_found, root}

abbrev pub IsRisingList : List (List ℕ) → Type 0
IsRisingList guids = IsStrictlySortedBy identifier_order guids

-- whether going up ends at a GUID: inside at the base, and at LostAndFound where the root is the base
abbrev pub end_at : List ℕ → List ℕ → Option Bool
end_at base guid =
    if bytes_eq guid base then Some true
    else if bytes_eq guid root then Some false
    else if bytes_eq guid lost_and_found then Some (bytes_eq root base)
    else None

abbrev pub place_in : List (List ℕ) → List ℕ → Option ℕ
place_in [] guid = None
place_in (g ∷ gs) guid = if bytes_eq g guid then Some 0 else option_map suc (place_in gs guid)

abbrev pub leads_to : Option ℕ → Way
leads_to None = Ends false
leads_to (Some place) = Leads place

abbrev pub ends_or : Option Bool → Way → Way
ends_or None way = way
ends_or (Some inside) way = Ends inside

-- one step up from an entry, which ends there or at its parent, or leads to the parent's entry
abbrev pub way_of : List (List ℕ) → List ℕ → List ℕ → List ℕ → Way
way_of guids base guid parent = ends_or (end_at base guid) (ends_or (end_at base parent) (leads_to (place_in guids parent)))

-- a way, and then that of the entry to which it leads
abbrev pub further : List Way → Way → Way
further ways (Ends inside) = Ends inside
further ways (Leads place) = slice_index_or ways place (Ends false)

abbrev pub ends_inside : Way → Bool
ends_inside (Ends inside) = inside
ends_inside (Leads place) = false

abbrev pub guid_at : List Entry → ℕ → List ℕ
guid_at es i = slice_index_or (map (λ (e : Entry). e.guid) es) i []

-- In so many steps going up from a GUID leads to an entry, and hasn't met the base before.
pub record DoesLead (es : List Entry) (base : List ℕ) (steps : ℕ) (guid : List ℕ) (place : ℕ) : Type 0 where
  pub within : place < length es
  pub onward : (n : ℕ) → climbs es base (steps + n) guid ≡ climbs es base n (guid_at es place)
  pub before : (n : ℕ) → n < steps → climbs es base n guid ≡ false

-- where going up leads; a way that ended says of all further steps whether they meet the base
abbrev pub IsWay : List Entry → List ℕ → ℕ → List ℕ → Way → Type 0
IsWay es base steps guid (Ends inside) = (n : ℕ) → steps < n → climbs es base n guid ≡ inside
IsWay es base steps guid (Leads place) = DoesLead es base steps guid place

pub record AreWays (es : List Entry) (base : List ℕ) (steps : ℕ) (ways : List Way) : Type 0 where
  pub many : length ways ≡ length es
  pub each : (i : ℕ) → i < length es → IsWay es base steps (guid_at es i) (slice_index_or ways i (Ends false))
