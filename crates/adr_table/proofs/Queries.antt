-- What is looked up, as the definitions have it.
use Rattle.std.proofs.Common.{◌≡◌, refl, sym, ap, ◌∙◌, subst, List, [], ◌∷◌, Bool, true, false, cond, ◌||◌, Option, Some, None, filter, map}
use Rattle.std.specs.Prelude.{IfSome, is_some, slice_get}
use Rattle.std.specs.List.{cons_option, AllByRecursion, list_any}
use Rattle.std.specs.List.Sorted.{IsStrictlySortedBy}
use Rattle.std.specs.Map.{keys_of}
use Rattle.std.specs.Option.{option_copied}
use denote.Ref.{Bor}
use Rattle.std.specs.declared.cmp.Ordering.TheVariants.{Less, Equal}
use Rattle.std.proofs.lemmas.Cmp.{tied_itself}
use Rattle.std.proofs.lemmas.Map.Keys.{sorted_head, sorted_tail}
use Rattle.adr_values.specs.declared.stamp.Oid.{Oid}
use Rattle.adr_values.specs.declared.stamp.Unit.TheVariants.{Object}
use Rattle.adr_model.proofs.Keys.{equal_order, exact_keys, keys_total}
use Rattle.adr_model.specs.Formed.{AreRising}
use Rattle.adr_model.specs.Update.{Identifier, Key, RowOf, LinkOf, Update, key_order, same_key, same_unit, unit_of}
use Rattle.adr_model.specs.Store.{Held, holds_object, is_row_of, row_held, updates_of}
use Rattle.adr_model.specs.Write.{holds_guid, is_of_guid}
use Rattle.adr_update.specs.Sought.{is_link_from}
use Rattle.adr_shelves.specs.declared.place.Place.{Place}
use Rattle.adr_shelves.specs.Place.{guid_start, links_start, place_of, place_order, rows_start}
use Rattle.adr_table.specs.Slots.{AreAtHome, rows_in_run, seen}
use Rattle.adr_table.specs.Locals.{rows_of_seat}
use Rattle.adr_shelves.proofs.Places.{order_is}
use Rattle.adr_shelves.proofs.Entries.{Entries, AreSorted}
use Rattle.adr_table.proofs.LocalsSeats.{rows_of}
use Rattle.adr_table.proofs.Stripped.{in_guid_run, in_links_run}

-- ---- tests that agree

filter_alike : (f g : Held → Bool) → ((h : Held) → f h ≡ g h) → (rows : List Held) → filter f rows ≡ filter g rows
filter_alike f g alike [] = refl
filter_alike f g alike (h ∷ hs) = ap (λ b. cond b (h ∷ filter f hs) (filter f hs)) (alike h) ∙ ap (λ xs. cond (g h) (h ∷ xs) xs) (filter_alike f g alike hs)

any_mapped : {A B : Type 0} (f : A → B) (test : B → Bool) (xs : List A) → list_any test (map f xs) ≡ list_any (λ x. test (f x)) xs
any_mapped f test [] = refl
any_mapped f test (x ∷ xs) = ap (λ b. test (f x) || b) (any_mapped f test xs)

first_kept : (f : Held → Bool) (rows : List Held) → is_some (slice_get (filter f rows) 0) ≡ list_any f rows
first_kept f [] = refl
first_kept f (h ∷ hs) = by (f h) (first_kept f hs)
  where
    by : (b : Bool) → is_some (slice_get (filter f hs) 0) ≡ list_any f hs → is_some (slice_get (cond b (h ∷ filter f hs) (filter f hs)) 0) ≡ (b || list_any f hs)
    by true later = refl
    by false later = later

-- ---- units

-- the rows of an object are those of its unit
pub rows_of_object : (s : Place) (o : Oid) → s ≡ rows_start o → (rows : List Held) → rows_of_seat s rows ≡ filter (λ h. is_row_of o h.update.key) rows
rows_of_object s o is rows =
    ap (λ p. rows_of_seat p rows) is ∙ rows_of (Object o) rows ∙ filter_alike (λ h. same_unit (unit_of h.update.key) (Object o)) (λ h. is_row_of o h.update.key) (λ h. alike h.update.key) rows
  where
    alike : (k : Key) → same_unit (unit_of k) (Object o) ≡ is_row_of o k
    alike (RowOf p a) = refl
    alike (LinkOf l) = refl

pub any_of_object : (s : Place) (o : Oid) → s ≡ rows_start o → (rows : List Held) → is_some (slice_get (rows_of_seat s rows) 0) ≡ holds_object rows o
any_of_object s o is rows = ap (λ xs. is_some (slice_get xs 0)) (rows_of_object s o is rows) ∙ first_kept (λ h. is_row_of o h.update.key) rows

-- ---- runs

pub rows_of_guid : (s : Place) (g : Identifier) → s ≡ guid_start g → (rows : List Held) → rows_in_run s rows ≡ filter (λ h. is_of_guid g h.update.key) rows
rows_of_guid s g is rows = ap (λ p. rows_in_run p rows) is ∙ filter_alike _ (λ h. is_of_guid g h.update.key) (λ h. in_guid_run g h.update.key) rows

pub links_of_object : (s : Place) (o : Oid) → s ≡ links_start o → (rows : List Held) → rows_in_run s rows ≡ filter (λ h. is_link_from o h.update.key) rows
links_of_object s o is rows = ap (λ p. rows_in_run p rows) is ∙ filter_alike _ (λ h. is_link_from o h.update.key) (λ h. in_links_run o h.update.key) rows

pub any_of_guid : (s : Place) (g : Identifier) → s ≡ guid_start g → (rows : List Held) → is_some (slice_get (rows_in_run s rows) 0) ≡ holds_guid (updates_of rows) g
any_of_guid s g is rows =
    ap (λ xs. is_some (slice_get xs 0)) (rows_of_guid s g is rows)
    ∙ first_kept (λ h. is_of_guid g h.update.key) rows
    ∙ sym (any_mapped (λ (h : Held). h.update) (λ (u : Update). is_of_guid g u.key) rows)

pub none_copied : (o : Option (Bor Held)) → is_some o ≡ false → option_copied o ≡ None
none_copied None is = refl
none_copied (Some h) is = cc

-- ---- rows rise

all_seen : (p : Place) (k : Key) → place_of k ≡ p → (es : Entries) → AreAtHome es → AllByRecursion (λ q. place_order p q ≡ Less) (keys_of es)
    → AllByRecursion (λ j. key_order k j ≡ Less) (map (λ (h : Held). h.update.key) (seen es))
all_seen p k at [] home below = tt
all_seen p k at (e ∷ es) home below = by e.1 home.0 (all_seen p k at es home.1 below.1)
  where
    less : (h : Held) → place_of h.update.key ≡ e.0 → key_order k h.update.key ≡ Less
    less h own = sym (order_is k h.update.key) ∙ ap (λ q. place_order q (place_of h.update.key)) at ∙ ap (place_order p) own ∙ below.0

    by : (o : Option Held) → IfSome o (λ h. place_of h.update.key ≡ e.0) → AllByRecursion (λ j. key_order k j ≡ Less) (map (λ (h : Held). h.update.key) (seen es))
        → AllByRecursion (λ j. key_order k j ≡ Less) (map (λ (h : Held). h.update.key) (cons_option o (seen es)))
    by None own later = later
    by (Some h) own later = (less h own, later)

pub none_rises : IsStrictlySortedBy key_order []
unfolding IsStrictlySortedBy
none_rises = tt

pub one_more : (k : Key) (ks : List Key) → AllByRecursion (λ j. key_order k j ≡ Less) ks → IsStrictlySortedBy key_order ks → IsStrictlySortedBy key_order (k ∷ ks)
unfolding IsStrictlySortedBy
one_more k ks b s = (b, s)

pub rise : (es : Entries) → AreSorted es → AreAtHome es → AreRising (seen es)
rise [] sorted home = none_rises
rise (e ∷ es) sorted home = by e.1 home.0 (rise es (sorted_tail place_order e.0 (keys_of es) sorted) home.1)
  where
    by : (o : Option Held) → IfSome o (λ h. place_of h.update.key ≡ e.0) → AreRising (seen es) → AreRising (cons_option o (seen es))
    by None own later = later
    by (Some h) own later =
        one_more h.update.key (map (λ (x : Held). x.update.key) (seen es)) (all_seen e.0 h.update.key own es home.1 (sorted_head place_order e.0 (keys_of es) sorted)) later

-- ---- the row of a key

none_above : (k : Key) (rows : List Held) → AllByRecursion (λ j. key_order k j ≡ Less) (map (λ (h : Held). h.update.key) rows) → filter (λ h. same_key h.update.key k) rows ≡ []
none_above k [] below = refl
none_above k (h ∷ hs) below = by (same_key h.update.key k) refl (none_above k hs below.1)
  where
    by : (b : Bool) → same_key h.update.key k ≡ b → filter (λ x. same_key x.update.key k) hs ≡ [] → cond b (h ∷ filter (λ x. same_key x.update.key k) hs) (filter (λ x. same_key x.update.key k) hs) ≡ []
    by true is later =
        let same : h.update.key ≡ k = exact_keys h.update.key k (equal_order (key_order h.update.key k) is) in
        let no : Equal ≡ Less = sym (tied_itself keys_total k) ∙ subst (λ j. key_order k j ≡ Less) same below.0 in cc
    by false is later = later

pub one_of_key : (k : Key) (rows : List Held) → AreRising rows → filter (λ h. same_key h.update.key k) rows ≡ cons_option (row_held rows k) []
one_of_key k [] rising = refl
one_of_key k (h ∷ hs) rising = by (same_key h.update.key k) refl (one_of_key k hs (sorted_tail key_order h.update.key (map (λ (x : Held). x.update.key) hs) rising))
  where
    by : (b : Bool) → same_key h.update.key k ≡ b → filter (λ x. same_key x.update.key k) hs ≡ cons_option (row_held hs k) []
        → cond b (h ∷ filter (λ x. same_key x.update.key k) hs) (filter (λ x. same_key x.update.key k) hs) ≡ cons_option (cond b (Some h) (row_held hs k)) []
    by true is later =
        let same : h.update.key ≡ k = exact_keys h.update.key k (equal_order (key_order h.update.key k) is) in
        ap (λ xs. h ∷ xs) (none_above k hs
        (subst (λ j. AllByRecursion (λ i. key_order j i ≡ Less) (map (λ (x : Held). x.update.key) hs)) same (sorted_head key_order h.update.key (map (λ (x : Held). x.update.key) hs) rising)))
    by false is later = later
