-- What becomes of slots where the empty ones of a unit are taken out.
use Rattle.std.proofs.Common.{◌≡◌, [], ◌∷◌, Bool, true, false, cond, not, ◌&&◌, ◌||◌, Option, Some, None, refl, sym, ap, ◌∙◌}
use Rattle.std.specs.Prelude.{is_some, nat_le}
use Rattle.std.specs.Option.{option_cmp}
use Rattle.std.specs.List.{cons_option}
use Rattle.std.specs.List.Sorted.{IsStrictlySortedBy}
use Rattle.std.specs.Map.{lookup}
use Rattle.std.specs.Ordering.{bool_cmp, is_eq, nat_cmp, ordering_then}
use Rattle.std.specs.declared.cmp.Ordering.{Ordering}
use Rattle.std.specs.declared.cmp.Ordering.TheVariants.{Less, Equal, Greater}
use Rattle.std.specs.BTreeMap.{is_at}
use Rattle.adr_values.specs.Order.{birth_order, identifier_order, object_order}
use Rattle.adr_values.specs.declared.stamp.Oid.{Oid}
use Rattle.adr_model.proofs.Keys.{equal_order}
use Rattle.adr_model.specs.Store.{Held}
use Rattle.adr_shelves.specs.declared.place.Place.{Place}
use Rattle.adr_shelves.specs.Place.{is_in_run, is_of_unit, place_order, rows_start}
use Rattle.adr_shelves.specs.Shelves.{flat, freed, one_more_if, tally}
use Rattle.adr_table.specs.Slots.{AreAtHome, seen}
use Rattle.adr_shelves.proofs.Places.{exact_places}
use Rattle.adr_shelves.proofs.Entries.{AreSorted, Entries}
use Rattle.adr_table.proofs.Seen.{later_none}

module _ (test : Place → Bool) where
  pub freed_seen : (es : Entries) → seen (freed test es) ≡ seen es
  freed_seen [] = refl
  freed_seen (e ∷ es) = by e.1 (test e.0) (freed_seen es)
    where
      by : (o : Option Held) (t : Bool) → seen (freed test es) ≡ seen es → seen (cond (is_some o || not t) ((e.0, o) ∷ freed test es) (freed test es)) ≡ cons_option o (seen es)
      by (Some h) t later = ap (λ hs. h ∷ hs) later
      by None true later = later
      by None false later = later

  pub freed_home : (es : Entries) → AreAtHome es → AreAtHome (freed test es)
  freed_home [] home = tt
  freed_home (e ∷ es) home = by (is_some e.1 || not (test e.0)) (freed_home es home.1)
    where
      by : (b : Bool) → AreAtHome (freed test es) → AreAtHome (cond b (e ∷ freed test es) (freed test es))
      by true later = (home.0, later)
      by false later = later

  pub freed_tally : (kind : Place → Bool) (es : Entries) → tally kind (freed test es) ≡ tally kind es
  freed_tally kind [] = refl
  freed_tally kind (e ∷ es) = by e.1 (test e.0) (freed_tally kind es)
    where
      by : (o : Option Held) (t : Bool) → tally kind (freed test es) ≡ tally kind es
          → tally kind (cond (is_some o || not t) ((e.0, o) ∷ freed test es) (freed test es)) ≡ one_more_if (is_some o && kind e.0) (tally kind es)
      by (Some h) t later = ap (one_more_if (kind e.0)) later
      by None true later = later
      by None false later = later

  none_still : (q : Place) (es : Entries) → lookup (is_at (place_order q)) es ≡ None → lookup (is_at (place_order q)) (freed test es) ≡ None
  none_still q [] none = refl
  none_still q (e ∷ es) none = by (is_at (place_order q) e.0) refl none (none_still q es) (is_some e.1 || not (test e.0))
    where
      by : (b : Bool) → is_at (place_order q) e.0 ≡ b → cond b (Some e.1) (lookup (is_at (place_order q)) es) ≡ None
          → (lookup (is_at (place_order q)) es ≡ None → lookup (is_at (place_order q)) (freed test es) ≡ None)
          → (stays : Bool) → lookup (is_at (place_order q)) (cond stays (e ∷ freed test es) (freed test es)) ≡ None
      by true at n later stays = cc
      by false apart n later true = ap (λ b. cond b (Some e.1) (lookup (is_at (place_order q)) (freed test es))) apart ∙ later n
      by false apart n later false = later n

  pub freed_same : (es : Entries) (q : Place) → AreSorted es → flat (lookup (is_at (place_order q)) (freed test es)) ≡ flat (lookup (is_at (place_order q)) es)
  unfolding IsStrictlySortedBy
  freed_same [] q sorted = refl
  freed_same (e ∷ es) q sorted = by (is_at (place_order q) e.0) refl e.1 (test e.0) (freed_same es q sorted.1)
    where
      by : (b : Bool) → is_at (place_order q) e.0 ≡ b → (o : Option Held) (t : Bool) → flat (lookup (is_at (place_order q)) (freed test es)) ≡ flat (lookup (is_at (place_order q)) es)
          → flat (lookup (is_at (place_order q)) (cond (is_some o || not t) ((e.0, o) ∷ freed test es) (freed test es))) ≡ flat (cond b (Some o) (lookup (is_at (place_order q)) es))
      by true at (Some h) t later = ap (λ b. flat (cond b (Some (Some h)) (lookup (is_at (place_order q)) (freed test es)))) at
      by true at None true later = ap flat (none_still q es (later_none q e es sorted at))
      by true at None false later = ap (λ b. flat (cond b (Some None) (lookup (is_at (place_order q)) (freed test es)))) at
      by false apart (Some h) t later = ap (λ b. flat (cond b (Some (Some h)) (lookup (is_at (place_order q)) (freed test es)))) apart ∙ later
      by false apart None true later = later
      by false apart None false later = ap (λ b. flat (cond b (Some None) (lookup (is_at (place_order q)) (freed test es)))) apart ∙ later

  -- no slot of the kind is left empty
  pub none_empty : (es : Entries) (q : Place) → test q ≡ true → lookup (is_at (place_order q)) (freed test es) ≡ Some None → ⊥
  none_empty [] q passes = λ empty. cc
  none_empty (e ∷ es) q passes = by (is_at (place_order q) e.0) refl e.1 (test e.0) refl (none_empty es q passes)
    where
      by : (b : Bool) → is_at (place_order q) e.0 ≡ b → (o : Option Held) (t : Bool) → test e.0 ≡ t → (lookup (is_at (place_order q)) (freed test es) ≡ Some None → ⊥)
          → lookup (is_at (place_order q)) (cond (is_some o || not t) ((e.0, o) ∷ freed test es) (freed test es)) ≡ Some None → ⊥
      by true at (Some h) t is later empty =
          let wrong : Some (Some h) ≡ Some None = sym (ap (λ b. cond b (Some (Some h)) (lookup (is_at (place_order q)) (freed test es))) at) ∙ empty in cc
      by true at None true is later empty = later empty
      by true at None false is later empty =
          let wrong : true ≡ false = sym passes ∙ ap test (exact_places q e.0 (equal_order (place_order q e.0) at)) ∙ is in cc
      by false apart (Some h) t is later empty = later (sym (ap (λ b. cond b (Some (Some h)) (lookup (is_at (place_order q)) (freed test es))) apart) ∙ empty)
      by false apart None true is later empty = later empty
      by false apart None false is later empty = later (sym (ap (λ b. cond b (Some None) (lookup (is_at (place_order q)) (freed test es))) apart) ∙ empty)

  -- and none becomes empty
  pub still_empty : (es : Entries) (q : Place) → lookup (is_at (place_order q)) (freed test es) ≡ Some None → lookup (is_at (place_order q)) es ≡ Some None
  still_empty [] q = λ empty. empty
  still_empty (e ∷ es) q = by (is_at (place_order q) e.0) refl e.1 (test e.0) (still_empty es q)
    where
      by : (b : Bool) → is_at (place_order q) e.0 ≡ b → (o : Option Held) (t : Bool)
          → (lookup (is_at (place_order q)) (freed test es) ≡ Some None → lookup (is_at (place_order q)) es ≡ Some None)
          → lookup (is_at (place_order q)) (cond (is_some o || not t) ((e.0, o) ∷ freed test es) (freed test es)) ≡ Some None → cond b (Some o) (lookup (is_at (place_order q)) es) ≡ Some None
      by true at (Some h) t later empty = sym (ap (λ b. cond b (Some (Some h)) (lookup (is_at (place_order q)) (freed test es))) at) ∙ empty
      by true at None t later empty = refl
      by false apart (Some h) t later empty = later (sym (ap (λ b. cond b (Some (Some h)) (lookup (is_at (place_order q)) (freed test es))) apart) ∙ empty)
      by false apart None true later empty = later empty
      by false apart None false later empty = later (sym (ap (λ b. cond b (Some None) (lookup (is_at (place_order q)) (freed test es))) apart) ∙ empty)

-- ---- the places of an object's rows are of its unit

pub run_of_unit : (o : Oid) (q : Place) → is_in_run (rows_start o) q ≡ true → is_of_unit (rows_start o) q ≡ true
run_of_unit o q within = by q.is_link (identifier_order o.guid q.guid) (option_cmp birth_order (Some o.birth) q.birth) within
  where
    by : (b : Bool) (g r : Ordering) → (is_eq (bool_cmp false b) && (is_eq g && (false || (is_eq r && nat_le 0 q.attr)))) ≡ true
        → is_eq (ordering_then (bool_cmp false b) (ordering_then g (ordering_then r (ordering_then (nat_cmp 0 (cond b q.attr 0)) (option_cmp object_order None (cond b q.other None)))))) ≡ true
    by true g r h = cc
    by false Less r h = cc
    by false Greater r h = cc
    by false Equal Less h = cc
    by false Equal Greater h = cc
    by false Equal Equal h = refl
