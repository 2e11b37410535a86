-- An empty slot that is freed leaves what is seen.
use Rattle.std.proofs.Common.{◌≡◌, refl, sym, ap, ◌∙◌, subst, Bool, true, false, cond, ◌&&◌, Option, Some, None}
use Rattle.std.specs.Prelude.{is_some}
use Rattle.std.specs.Map.{keys_of, lookup, remove_entry}
use Rattle.std.specs.BTreeMap.{is_at}
use Rattle.std.specs.List.{cons_option}
use Rattle.std.proofs.lemmas.Cmp.{eq_by_cmp_equiv}
use Rattle.std.proofs.lemmas.Map.{lookup-remove_entry}
use Rattle.std.proofs.lemmas.Map.Keys.{IsDistinct-from_sorted}
use Rattle.adr_model.proofs.Keys.{equal_order}
use Rattle.adr_update.proofs.Slots.{freed, freed_home as still_without}
use Rattle.adr_model.specs.Store.{Held}
use Rattle.adr_shelves.specs.declared.place.Place.{Place}
use Rattle.adr_shelves.specs.Place.{place_order}
use Rattle.adr_shelves.specs.Shelves.{flat, tally, one_more_if}
use Rattle.adr_table.specs.Slots.{seen, AreAtHome}
use Rattle.adr_shelves.proofs.Places.{exact_places, places_total}
use Rattle.adr_shelves.proofs.Entries.{AreSorted, Entries}
use Rattle.adr_table.proofs.Seen.{IsAt}

pub freed_seen : (es : Entries) (p : Place) → lookup (is_at (place_order p)) es ≡ Some None → seen (remove_entry (is_at (place_order p)) es) ≡ seen es
freed_seen = freed place_order seen (λ p es. refl) (λ e es fs is. ap (λ hs. cons_option e.1 hs) is)

pub freed_home : (es : Entries) (p : Place) → AreAtHome es → AreAtHome (remove_entry (is_at (place_order p)) es)
freed_home = still_without place_order IsAt AreAtHome (λ e es at rest. (at, rest)) (λ e es h. h)

-- what is found once a slot is freed
freed_found : (es : Entries) (p q : Place) → AreSorted es
    → lookup (is_at (place_order q)) (remove_entry (is_at (place_order p)) es) ≡ cond (is_at (place_order p) q) None (lookup (is_at (place_order q)) es)
freed_found es p q sorted =
    lookup-remove_entry (eq_by_cmp_equiv places_total) (is_at (place_order p))
    (λ x y at. ap (λ r. is_at (place_order r) y) (exact_places p x (equal_order (place_order p x) at)))
    q es (IsDistinct-from_sorted place_order (keys_of es) sorted)

pub freed_same : (es : Entries) (p q : Place) → AreSorted es → lookup (is_at (place_order p)) es ≡ Some None
    → flat (lookup (is_at (place_order q)) (remove_entry (is_at (place_order p)) es)) ≡ flat (lookup (is_at (place_order q)) es)
freed_same es p q sorted empty = ap flat (freed_found es p q sorted) ∙ by (is_at (place_order p) q) refl
  where
    by : (b : Bool) → is_at (place_order p) q ≡ b → flat (cond b None (lookup (is_at (place_order q)) es)) ≡ flat (lookup (is_at (place_order q)) es)
    by true at = sym (ap flat (subst (λ r. lookup (is_at (place_order r)) es ≡ Some None) (exact_places p q (equal_order (place_order p q) at)) empty))
    by false at = refl

pub freed_tally : (test : Place → Bool) (es : Entries) (p : Place) → lookup (is_at (place_order p)) es ≡ Some None → tally test (remove_entry (is_at (place_order p)) es) ≡ tally test es
freed_tally test = freed place_order (tally test) (λ p es. refl) (λ e es fs is. ap (one_more_if (is_some e.1 && test e.0)) is)

-- what holds of the slots, and of them without an empty one, holds of what is left
pub freed_or_same : (P : Entries → Type 0) (es new : Entries) (p : Place)
    → (lookup (is_at (place_order p)) es ≡ Some None → new ≡ remove_entry (is_at (place_order p)) es) → ((lookup (is_at (place_order p)) es ≡ Some None → ⊥) → new ≡ es)
    → P es → (lookup (is_at (place_order p)) es ≡ Some None → P (remove_entry (is_at (place_order p)) es)) → P new
freed_or_same P es new p freed same stays without = by (lookup (is_at (place_order p)) es) freed same without
  where
    by : (o : Option (Option Held)) → (o ≡ Some None → new ≡ remove_entry (is_at (place_order p)) es) → ((o ≡ Some None → ⊥) → new ≡ es)
        → (o ≡ Some None → P (remove_entry (is_at (place_order p)) es)) → P new
    by None f s w = subst P (sym (s (λ h. cc))) stays
    by (Some None) f s w = subst P (sym (f refl)) (w refl)
    by (Some (Some h)) f s w = subst P (sym (s (λ h. cc))) stays
