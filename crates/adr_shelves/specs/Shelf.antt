-- Where the slot of an attribute stands in a shelf, or would stand.
use Rattle.std.specs.Prelude.{◌≡◌, ℕ, ◌<◌, ◌≤◌, List, length, Option, Some, None, IsSome, slice_index_or, slice_set, insert}
use Rattle.std.specs.List.{remove}
use Rattle.std.specs.Option.{unwrap_or}
use Rattle.std.specs.Map.{lookup, remove_entry, set_value}
use Rattle.std.specs.BTreeMap.{insert_entry, is_at}
use Rattle.std.specs.Ordering.{nat_cmp}
use Rattle.adr_model.specs.Store.{Held}
use Rattle.adr_model.specs.Update.{Update}
use Rattle.adr_shelves.specs.Place.{place_of}
use Rattle.adr_shelves.specs.Shelves.{held_at}

abbrev pub Slots : Type 0
Slots = List (ℕ × Option Held)

-- slots with a row in that of its attribute
abbrev pub with_own_held : Slots → Held → Slots
with_own_held slots h = insert_entry nat_cmp slots (place_of h.update.key).attr (Some h)

-- slots with an update in that of its attribute, under a local USN
abbrev pub with_own : ℕ → Slots → Update → Slots
with_own local slots u = with_own_held slots (held_at local u)

-- slots with one for the attribute of a row, which keeps what is in it
abbrev pub with_own_slot : Slots → Held → Slots
with_own_slot slots h =
    let attr = (place_of h.update.key).attr in
    insert_entry nat_cmp slots attr (unwrap_or (lookup (is_at (nat_cmp attr)) slots) None)

-- a row has a slot
abbrev pub HasOwn : Slots → Held → Type 0
HasOwn slots h = IsSome (lookup (is_at (nat_cmp (place_of h.update.key).attr)) slots)

-- the slot of the attribute stands at the place, where it is found, written again, emptied and taken out
pub record IsPlaceOf (slots : Slots) (attr : ℕ) (i : ℕ) : Type 0 where
  pub in_range : i < length slots
  pub there : (slot : ℕ × Option Held) → slot ≡ slice_index_or slots i slot → lookup (is_at (nat_cmp attr)) slots ≡ Some slot.1
  pub takes : (row : Option Held) → insert_entry nat_cmp slots attr row ≡ slice_set slots i (attr, row)
  pub stays : insert_entry nat_cmp slots attr (unwrap_or (lookup (is_at (nat_cmp attr)) slots) None) ≡ slots
  pub empties : set_value (is_at (nat_cmp attr)) slots None ≡ slice_set slots i (attr, None)
  pub leaves : remove_entry (is_at (nat_cmp attr)) slots ≡ remove slots i

-- there is none, so none is found or emptied, and it would come in before the place
pub record IsGapFor (slots : Slots) (attr : ℕ) (i : ℕ) : Type 0 where
  pub in_range : i ≤ length slots
  pub none : lookup (is_at (nat_cmp attr)) slots ≡ None
  pub enters : (row : Option Held) → insert_entry nat_cmp slots attr row ≡ insert slots i (attr, row)
  pub keeps : set_value (is_at (nat_cmp attr)) slots None ≡ slots
