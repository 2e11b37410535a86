-- Slots at their places, in order.
use Rattle.std.proofs.Common.{◌≡◌, List, [], ◌∷◌, Bool, true, false, cond, Option, Some, None, refl, ap}
use Rattle.std.specs.List.Sorted.{IsStrictlySortedBy}
use Rattle.std.specs.Map.{keys_of, lookup, set_value}
use Rattle.std.specs.BTreeMap.{is_at}
use Rattle.adr_model.specs.Store.{Held}
use Rattle.adr_shelves.specs.declared.place.Place.{Place}
use Rattle.adr_shelves.specs.Place.{place_order}

abbrev pub Entries : Type 0
Entries = List (Place × Option Held)

abbrev pub AreSorted : Entries → Type 0
AreSorted es = IsStrictlySortedBy place_order (keys_of es)

-- where no slot is at a place, emptying it leaves all
pub none_emptied : (es : Entries) (p : Place) → lookup (is_at (place_order p)) es ≡ None → set_value (is_at (place_order p)) es None ≡ es
none_emptied [] p none = refl
none_emptied (e ∷ es) p none = by (is_at (place_order p) e.0) none (none_emptied es p)
  where
    by : (b : Bool) → cond b (Some e.1) (lookup (is_at (place_order p)) es) ≡ None
        → (lookup (is_at (place_order p)) es ≡ None → set_value (is_at (place_order p)) es None ≡ es)
        → cond b ((e.0, None) ∷ es) (e ∷ set_value (is_at (place_order p)) es None) ≡ e ∷ es
    by true wrong later = cc
    by false none later = ap (λ xs. e ∷ xs) (later none)
