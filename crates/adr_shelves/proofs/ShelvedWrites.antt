-- What becomes of the slots of shelves where one is put.
use Rattle.std.proofs.Common.{◌≡◌, ℕ, List, [], ◌∷◌, ◌++◌, Bool, true, false, cond, Option, Some, None, refl, sym, ap, ◌∙◌, subst}
use Rattle.std.specs.Prelude.{OnErr, OnOk}
use Rattle.std.specs.declared.result.Result.{Result}
use Rattle.std.specs.declared.result.Result.TheVariants.{Ok, Err}
use Rattle.std.specs.List.{AllByRecursion}
use Rattle.std.specs.List.Sorted.{IsStrictlySortedBy}
use Rattle.std.specs.Map.{keys_of, lookup}
use Rattle.std.specs.Option.{option_and_then, unwrap_or}
use Rattle.std.specs.Ordering.{is_eq, match_ordering, nat_cmp, ordering_reverse, ordering_then}
use Rattle.std.specs.declared.cmp.Ordering.{Ordering}
use Rattle.std.specs.declared.cmp.Ordering.TheVariants.{Less, Equal, Greater}
use Rattle.std.specs.BTreeMap.{insert_entry, is_at}
use Rattle.std.specs.Cmp.{IsTotalOrder}
use Rattle.std.proofs.lemmas.Cmp.{nat_cmp_total, tied_itself}
use Rattle.std.proofs.lemmas.Map.Keys.{sorted_head, sorted_tail}
use Rattle.std.proofs.lemmas.Map.Lookups.{CmpEqualImpliesEq}
use Rattle.adr_model.proofs.Keys.{equal_order}
use Rattle.adr_model.specs.Store.{Held}
use Rattle.adr_update.proofs.Slots.{none_below as none_under}
use Rattle.adr_shelves.specs.declared.place.Place.{Place}
use Rattle.adr_shelves.specs.Place.{is_proper, place_in, place_order, seat_at}
use Rattle.adr_shelves.specs.Shelves.{AreAllShelves, AreShelves, IsShelf, entries_of, shelf_entries}
use Rattle.adr_shelves.proofs.Places.{places_total, exact_places}
use Rattle.adr_shelves.proofs.Entries.{Entries}
use Rattle.adr_shelves.proofs.Shelved.{IsOwn, Kept, Shelved, home, looked, own_attr, place_by_attr, place_by_seat, seat_again}

-- ---- slots in order, where one is put

module _ {K X : Type 0} (order : K → K → Ordering) (k : K) (v : X) where
  keys_put : (P : K → Type 0) (es : List (K × X)) → AllByRecursion P (keys_of es) → P k → AllByRecursion P (keys_of (insert_entry order es k v))
  keys_put P [] all here = (here, tt)
  keys_put P (e ∷ es) all here = by (order k e.0) (keys_put P es all.1 here)
    where
      by : (o : Ordering) → AllByRecursion P (keys_of (insert_entry order es k v)) → AllByRecursion P (keys_of (match_ordering o ((k, v) ∷ e ∷ es) ((e.0, v) ∷ es) (e ∷ insert_entry order es k v)))
      by Less later = (here, all)
      by Equal later = all
      by Greater later = (all.0, later)

  below_all : IsTotalOrder order → (l : K) (ls : List K) → order k l ≡ Less → AllByRecursion (λ r. order l r ≡ Less) ls → AllByRecursion (λ r. order k r ≡ Less) ls
  below_all total l [] less all = tt
  below_all total l (r ∷ rs) less all = (total.trans k l r less all.0, below_all total l rs less all.1)

  pub sorted_put : IsTotalOrder order → (es : List (K × X)) → IsStrictlySortedBy order (keys_of es) → IsStrictlySortedBy order (keys_of (insert_entry order es k v))
  unfolding IsStrictlySortedBy
  sorted_put total [] sorted = (tt, tt)
  sorted_put total (e ∷ es) sorted = by (order k e.0) refl (sorted_put total es sorted.1)
    where
      by : (o : Ordering) → order k e.0 ≡ o → IsStrictlySortedBy order (keys_of (insert_entry order es k v))
          → IsStrictlySortedBy order (keys_of (match_ordering o ((k, v) ∷ e ∷ es) ((e.0, v) ∷ es) (e ∷ insert_entry order es k v)))
      by Less at later = ((at, below_all total e.0 (keys_of es) at sorted.0), sorted)
      by Equal at later = sorted
      by Greater at later = (keys_put (λ r. order e.0 r ≡ Less) es sorted.0 (total.antisymm e.0 k ∙ ap ordering_reverse at), later)

-- what is found after one was put
module _ {K X : Type 0} (order : K → K → Ordering) (total : IsTotalOrder order) (exact : CmpEqualImpliesEq order) (k : K) (v : X) where
  pub lookup_put : (q : K) (es : List (K × X)) → lookup (is_at (order q)) (insert_entry order es k v) ≡ cond (is_at (order q) k) (Some v) (lookup (is_at (order q)) es)
  lookup_put q [] = refl
  lookup_put q (e ∷ es) = by (order k e.0) refl (lookup_put q es)
    where
      twice : (b : Bool) (w : Option X) → cond b (Some v) w ≡ cond b (Some v) (cond b (Some e.1) w)
      twice true w = refl
      twice false w = refl

      apart : (b d : Bool) → is_at (order q) e.0 ≡ b → is_at (order q) k ≡ d → order k e.0 ≡ Greater → (w : Option X)
          → cond b (Some e.1) (cond d (Some v) w) ≡ cond d (Some v) (cond b (Some e.1) w)
      apart true true at here above w =
          let same : k ≡ e.0 = sym (exact q k (equal_order (order q k) here)) ∙ exact q e.0 (equal_order (order q e.0) at) in
          let wrong : Equal ≡ Greater = sym (tied_itself total e.0) ∙ sym (ap (λ x. order x e.0) same) ∙ above in cc
      apart true false at here above w = refl
      apart false true at here above w = refl
      apart false false at here above w = refl

      by : (o : Ordering) → order k e.0 ≡ o → lookup (is_at (order q)) (insert_entry order es k v) ≡ cond (is_at (order q) k) (Some v) (lookup (is_at (order q)) es)
          → lookup (is_at (order q)) (match_ordering o ((k, v) ∷ e ∷ es) ((e.0, v) ∷ es) (e ∷ insert_entry order es k v)) ≡ cond (is_at (order q) k) (Some v) (lookup (is_at (order q)) (e ∷ es))
      by Less at later = refl
      by Equal at later =
          twice (is_at (order q) e.0) (lookup (is_at (order q)) es)
          ∙ ap (λ x. cond (is_at (order q) x) (Some v) (lookup (is_at (order q)) (e ∷ es))) (sym (exact k e.0 at))
      by Greater at later =
          ap (λ o. cond (is_at (order q) e.0) (Some e.1) o) later
          ∙ apart (is_at (order q) e.0) (is_at (order q) k) refl refl at (lookup (is_at (order q)) es)

-- a place below all comes first
first : (es : Entries) (p : Place) (v : Option Held) → AllByRecursion (λ e. place_order p e.0 ≡ Less) es → insert_entry place_order es p v ≡ (p, v) ∷ es
first [] p v below = refl
first (e ∷ es) p v below = ap (λ o. match_ordering o ((p, v) ∷ e ∷ es) ((e.0, v) ∷ es) (e ∷ insert_entry place_order es p v)) below.0

-- one below the second part of the slots goes into the first
into_first : (xs ys : Entries) (p : Place) (v : Option Held) → AllByRecursion (λ e. place_order p e.0 ≡ Less) ys → insert_entry place_order (xs ++ ys) p v ≡ insert_entry place_order xs p v ++ ys
into_first [] ys p v below = first ys p v below
into_first (x ∷ xs) ys p v below = by (place_order p x.0) (into_first xs ys p v below)
  where
    by : (o : Ordering) → insert_entry place_order (xs ++ ys) p v ≡ insert_entry place_order xs p v ++ ys
        → match_ordering o ((p, v) ∷ x ∷ (xs ++ ys)) ((x.0, v) ∷ (xs ++ ys)) (x ∷ insert_entry place_order (xs ++ ys) p v) ≡ match_ordering o ((p, v) ∷ x ∷ xs) ((x.0, v) ∷ xs) (x ∷ insert_entry place_order xs p v) ++ ys
    by Less later = refl
    by Equal later = refl
    by Greater later = ap (λ es. x ∷ es) later

-- and one above the first part into the second
into_second : (xs ys : Entries) (p : Place) (v : Option Held) → AllByRecursion (λ e. place_order p e.0 ≡ Greater) xs → insert_entry place_order (xs ++ ys) p v ≡ xs ++ insert_entry place_order ys p v
into_second [] ys p v above = refl
into_second (x ∷ xs) ys p v above =
    ap (λ o. match_ordering o ((p, v) ∷ x ∷ (xs ++ ys)) ((x.0, v) ∷ (xs ++ ys)) (x ∷ insert_entry place_order (xs ++ ys) p v)) above.0
    ∙ ap (λ es. x ∷ es) (into_second xs ys p v above.1)

-- ---- a place against the slots of shelves

-- those of a shelf are on the side of its seat
beside : (o : Ordering) → ((n : Ordering) → ordering_then o n ≡ o) → (p : Place) → is_proper p ≡ true → (s : Place) → place_order (seat_at p) s ≡ o → seat_at s ≡ s
    → (slots : Kept) → (s.is_link ≡ true → AllByRecursion (λ a. a ≡ s.attr) (keys_of slots)) → AllByRecursion (λ e. place_order p e.0 ≡ o) (shelf_entries s slots)
beside o stays p proper s at seated [] own = tt
beside o stays p proper s at seated (x ∷ xs) own = (
  place_by_seat p proper s seated x.0 (λ link. (own link).0) ∙ ap (λ r. ordering_then r (nat_cmp p.attr x.0)) at ∙ stays (nat_cmp p.attr x.0),
  beside o stays p proper s at seated xs (λ link. (own link).1),
)

both_parts : (P : Place × Option Held → Type 0) (xs ys : Entries) → AllByRecursion P xs → AllByRecursion P ys → AllByRecursion P (xs ++ ys)
both_parts P [] ys all rest = rest
both_parts P (x ∷ xs) ys all rest = (all.0, both_parts P xs ys all.1 rest)

-- a place whose seat is below those of all shelves is below all their slots
under : (us : Shelved) → AreAllShelves us → (p : Place) → is_proper p ≡ true → AllByRecursion (λ s. place_order (seat_at p) s ≡ Less) (keys_of us) → AllByRecursion (λ e. place_order p e.0 ≡ Less) (entries_of us)
under [] each p proper below = tt
under (u ∷ us) each p proper below =
    both_parts (λ e. place_order p e.0 ≡ Less) (shelf_entries u.0 u.1) (entries_of us) (beside Less (λ n. refl) p proper u.0 below.0 each.0.seated u.1 each.0.own) (under us each.1 p proper below.1)

above_first : (u : Place × Kept) (us : Shelved) → IsShelf u.0 u.1 → (p : Place) → is_proper p ≡ true → place_order (seat_at p) u.0 ≡ Greater → (v : Option Held)
    → shelf_entries u.0 u.1 ++ insert_entry place_order (entries_of us) p v ≡ insert_entry place_order (shelf_entries u.0 u.1 ++ entries_of us) p v
above_first u us shelf p proper at v = sym (into_second (shelf_entries u.0 u.1) (entries_of us) p v (beside Greater (λ n. refl) p proper u.0 at shelf.seated u.1 shelf.own))

-- in the shelf of a place's seat
put_here : (p : Place) → is_proper p ≡ true → (s : Place) → place_order (seat_at p) s ≡ Equal → seat_at s ≡ s → (slots : Kept) → (s.is_link ≡ true → AllByRecursion (λ a. a ≡ s.attr) (keys_of slots)) → (v : Option Held)
    → shelf_entries s (insert_entry nat_cmp slots p.attr v) ≡ insert_entry place_order (shelf_entries s slots) p v
put_here p proper s at seated [] own v = ap (λ q. (q, v) ∷ []) (ap (λ q. place_in q p.attr) (sym (exact_places (seat_at p) s at)) ∙ home p proper)
put_here p proper s at seated (x ∷ xs) own v =
    by (nat_cmp p.attr x.0) (put_here p proper s at seated xs (λ link. (own link).1) v)
    ∙ ap (λ o. match_ordering o ((p, v) ∷ (place_in s x.0, x.1) ∷ shelf_entries s xs) ((place_in s x.0, v) ∷ shelf_entries s xs) ((place_in s x.0, x.1) ∷ insert_entry place_order (shelf_entries s xs) p v))
    (sym (place_by_attr p proper s seated x.0 (λ link. (own link).0) at))
  where
    here : place_in s p.attr ≡ p
    here = ap (λ q. place_in q p.attr) (sym (exact_places (seat_at p) s at)) ∙ home p proper

    by : (o : Ordering) → shelf_entries s (insert_entry nat_cmp xs p.attr v) ≡ insert_entry place_order (shelf_entries s xs) p v
        → shelf_entries s (match_ordering o ((p.attr, v) ∷ x ∷ xs) ((x.0, v) ∷ xs) (x ∷ insert_entry nat_cmp xs p.attr v))
        ≡ match_ordering o ((p, v) ∷ (place_in s x.0, x.1) ∷ shelf_entries s xs) ((place_in s x.0, v) ∷ shelf_entries s xs) ((place_in s x.0, x.1) ∷ insert_entry place_order (shelf_entries s xs) p v)
    by Less later = ap (λ q. (q, v) ∷ (place_in s x.0, x.1) ∷ shelf_entries s xs) here
    by Equal later = refl
    by Greater later = ap (λ es. (place_in s x.0, x.1) ∷ es) later

-- ---- the shelf at a seat

-- the slots of the shelf, of which there are none where there is no shelf
abbrev pub kept_at : Shelved → Place → Kept
kept_at us s = unwrap_or (lookup (is_at (place_order s)) us) []

pub bare_shelf : (s : Place) → seat_at s ≡ s → IsShelf s []
unfolding IsStrictlySortedBy
bare_shelf s seated = record { seated = seated; rising = tt; own = λ link. tt }

shelf_at : (us : Shelved) → AreAllShelves us → (s : Place) → seat_at s ≡ s → IsShelf s (kept_at us s)
shelf_at [] each s seated = bare_shelf s seated
shelf_at (u ∷ us) each s seated = by (is_at (place_order s) u.0) refl (shelf_at us each.1 s seated)
  where
    by : (b : Bool) → is_at (place_order s) u.0 ≡ b → IsShelf s (kept_at us s) → IsShelf s (unwrap_or (cond b (Some u.1) (lookup (is_at (place_order s)) us)) [])
    by true at later = subst (λ q. IsShelf q u.1) (sym (exact_places s u.0 (equal_order (place_order s u.0) at))) each.0
    by false at later = later

shelf_put : (s : Place) (slots : Kept) → IsShelf s slots → (a : ℕ) (v : Option Held) → IsOwn s a → IsShelf s (insert_entry nat_cmp slots a v)
shelf_put s slots shelf a v own = record {
  seated = shelf.seated;
  rising = sorted_put nat_cmp a v nat_cmp_total slots shelf.rising;
  own = λ link. keys_put nat_cmp a v (λ b. b ≡ s.attr) slots (shelf.own link) (own link);
}

-- what is written there
each_at : (us : Shelved) → AreAllShelves us → (s : Place) (slots : Kept) → IsShelf s slots → AreAllShelves (insert_entry place_order us s slots)
each_at [] each s slots shelf = (shelf, tt)
each_at (u ∷ us) each s slots shelf = by (place_order s u.0) refl (each_at us each.1 s slots shelf)
  where
    by : (o : Ordering) → place_order s u.0 ≡ o → AreAllShelves (insert_entry place_order us s slots)
        → AreAllShelves (match_ordering o ((s, slots) ∷ u ∷ us) ((u.0, slots) ∷ us) (u ∷ insert_entry place_order us s slots))
    by Less at later = (shelf, each)
    by Equal at later = (subst (λ q. IsShelf q slots) (exact_places s u.0 at) shelf, each.1)
    by Greater at later = (each.0, later)

pub shelves_at : (us : Shelved) → AreShelves us → (s : Place) (slots : Kept) → IsShelf s slots → AreShelves (insert_entry place_order us s slots)
shelves_at us are s slots shelf = record { ordered = sorted_put place_order s slots places_total us are.ordered; each = each_at us are.each s slots shelf }

-- none is at a seat below the first
none_at : (u : Place × Kept) (us : Shelved) → IsStrictlySortedBy place_order (keys_of (u ∷ us)) → (s : Place) → place_order s u.0 ≡ Less → lookup (is_at (place_order s)) us ≡ None
none_at u us sorted s at = sym (ap (λ o. cond (is_eq o) (Some u.1) (lookup (is_at (place_order s)) us)) at) ∙ none_under place_order places_total s u us sorted at

-- as it was
pub kept_as_is : (us : Shelved) → IsStrictlySortedBy place_order (keys_of us) → (s : Place) → entries_of (insert_entry place_order us s (kept_at us s)) ≡ entries_of us
kept_as_is [] sorted s = refl
kept_as_is (u ∷ us) sorted s = by (place_order s u.0) refl (kept_as_is us (sorted_tail place_order u.0 (keys_of us) sorted) s)
  where
    kept : Ordering → Kept
    kept o = unwrap_or (cond (is_eq o) (Some u.1) (lookup (is_at (place_order s)) us)) []

    by : (o : Ordering) → place_order s u.0 ≡ o → entries_of (insert_entry place_order us s (kept_at us s)) ≡ entries_of us
        → entries_of (match_ordering o ((s, kept o) ∷ u ∷ us) ((u.0, kept o) ∷ us) (u ∷ insert_entry place_order us s (kept o))) ≡ shelf_entries u.0 u.1 ++ entries_of us
    by Less at later = ap (λ (l : Option Kept). shelf_entries s (unwrap_or l []) ++ entries_of (u ∷ us)) (none_at u us sorted s at)
    by Equal at later = refl
    by Greater at later = ap (λ es. shelf_entries u.0 u.1 ++ es) later

-- with one more slot, or with another row in one
put_first : (p : Place) → is_proper p ≡ true → (s : Place) → place_order (seat_at p) s ≡ Equal → seat_at s ≡ s → (slots : Kept) → (s.is_link ≡ true → AllByRecursion (λ a. a ≡ s.attr) (keys_of slots)) → (v : Option Held)
    → (es : Entries) → AllByRecursion (λ e. place_order p e.0 ≡ Less) es → shelf_entries s (insert_entry nat_cmp slots p.attr v) ++ es ≡ insert_entry place_order (shelf_entries s slots ++ es) p v
put_first p proper s at seated slots own v es below = ap (λ xs. xs ++ es) (put_here p proper s at seated slots own v) ∙ sym (into_first (shelf_entries s slots) es p v below)

pub put_at : (us : Shelved) → IsStrictlySortedBy place_order (keys_of us) → AreAllShelves us → (p : Place) → is_proper p ≡ true → (v : Option Held)
    → entries_of (insert_entry place_order us (seat_at p) (insert_entry nat_cmp (kept_at us (seat_at p)) p.attr v)) ≡ insert_entry place_order (entries_of us) p v
put_at [] sorted each p proper v = ap (λ q. (q, v) ∷ []) (home p proper)
put_at (u ∷ us) sorted each p proper v = by (place_order (seat_at p) u.0) refl (put_at us (sorted_tail place_order u.0 (keys_of us) sorted) each.1 p proper v)
  where
    s : Place
    s = seat_at p

    put : Option Kept → Kept
    put l = insert_entry nat_cmp (unwrap_or l []) p.attr v

    kept : Ordering → Kept
    kept o = put (cond (is_eq o) (Some u.1) (lookup (is_at (place_order s)) us))

    above : AllByRecursion (λ t. place_order u.0 t ≡ Less) (keys_of us)
    above = sorted_head place_order u.0 (keys_of us) sorted

    by : (o : Ordering) → place_order s u.0 ≡ o
        → entries_of (insert_entry place_order us s (put (lookup (is_at (place_order s)) us))) ≡ insert_entry place_order (entries_of us) p v
        → entries_of (match_ordering o ((s, kept o) ∷ u ∷ us) ((u.0, kept o) ∷ us) (u ∷ insert_entry place_order us s (kept o))) ≡ insert_entry place_order (shelf_entries u.0 u.1 ++ entries_of us) p v
    by Less at later =
        ap (λ (l : Option Kept). shelf_entries s (put l) ++ entries_of (u ∷ us)) (none_at u us sorted s at)
        ∙ put_first p proper s (tied_itself places_total s) (seat_again p) [] (λ link. tt) v (entries_of (u ∷ us))
        (under (u ∷ us) each p proper (at, below_all place_order s v places_total u.0 (keys_of us) at above))
    by Equal at later =
        put_first p proper u.0 at each.0.seated u.1 each.0.own v (entries_of us)
        (under us each.1 p proper (subst (λ q. AllByRecursion (λ t. place_order q t ≡ Less) (keys_of us)) (sym (exact_places s u.0 at)) above))
    by Greater at later = ap (λ es. shelf_entries u.0 u.1 ++ es) later ∙ above_first u us each.0 p proper at v

-- the slots of a shelf that an entry lends, which is a new one where none was there
pub kept_is : (us : Shelved) (s : Place) (slots new : Kept) (o : Option Kept) → slots ≡ unwrap_or o new → o ≡ lookup (is_at (place_order s)) us → new ≡ [] → slots ≡ kept_at us s
kept_is us s slots new o is at bare = is ∙ ap (λ (l : Option Kept). unwrap_or l new) at ∙ ap (unwrap_or (lookup (is_at (place_order s)) us)) bare

-- ---- what is found in shelves that are seen as slots, and what is written

pub on_err : {T E : Type 0} (r : Result T E) (P : Type 0) → P → OnErr r P
on_err (Ok x) P h = tt
on_err (Err e) P h = h

module _ (us : Shelved) (are : AreShelves us) (now : Entries) (view : entries_of us ≡ now) (p : Place) (proper : is_proper p ≡ true) (s : Place) (seat : s ≡ seat_at p)
    (slots : Kept) (is : slots ≡ kept_at us s) where
  here : slots ≡ kept_at us (seat_at p)
  here = is ∙ ap (kept_at us) seat

  shelf : IsShelf (seat_at p) slots
  shelf = subst (IsShelf (seat_at p)) (sym here) (shelf_at us are.each (seat_at p) (seat_again p))

  pub rises : IsStrictlySortedBy nat_cmp (keys_of slots)
  rises = shelf.rising

  pub found : lookup (is_at (place_order p)) now ≡ lookup (is_at (nat_cmp p.attr)) slots
  found = ap (λ es. lookup (is_at (place_order p)) es) (sym view) ∙ looked us are p proper ∙ by (lookup (is_at (place_order (seat_at p))) us) ∙ ap (lookup (is_at (nat_cmp p.attr))) (sym here)
    where
      by : (o : Option Kept) → option_and_then (λ k. lookup (is_at (nat_cmp p.attr)) k) o ≡ lookup (is_at (nat_cmp p.attr)) (unwrap_or o [])
      by None = refl
      by (Some k) = refl

  module _ (v : Option Held) (new : Kept) (vs : Shelved) (written : vs ≡ insert_entry place_order us s new) where
    at_seat : (k : Kept) → new ≡ k → vs ≡ insert_entry place_order us (seat_at p) k
    at_seat k e = written ∙ ap (λ q. insert_entry place_order us q new) seat ∙ ap (insert_entry place_order us (seat_at p)) e

    pub shelves_then : {T E : Type 0} (r : Result T E) → OnOk r (new ≡ insert_entry nat_cmp slots p.attr v) → OnErr r (new ≡ slots) → AreShelves vs
    shelves_then (Ok x) ok err =
        subst AreShelves (sym (at_seat (insert_entry nat_cmp slots p.attr v) ok)) (shelves_at us are (seat_at p) (insert_entry nat_cmp slots p.attr v) (shelf_put (seat_at p) slots shelf p.attr v (own_attr p)))
    shelves_then (Err e) ok err = subst AreShelves (sym (at_seat slots err)) (shelves_at us are (seat_at p) slots shelf)

    pub entries_then : {T E : Type 0} (r : Result T E) → OnOk r (new ≡ insert_entry nat_cmp slots p.attr v) → OnOk r (entries_of vs ≡ insert_entry place_order now p v)
    entries_then (Ok x) ok =
        ap entries_of (at_seat (insert_entry nat_cmp slots p.attr v) ok)
        ∙ ap (λ k. entries_of (insert_entry place_order us (seat_at p) (insert_entry nat_cmp k p.attr v))) here
        ∙ put_at us are.ordered are.each p proper v
        ∙ ap (λ es. insert_entry place_order es p v) view
    entries_then (Err e) ok = tt

    pub same_then : {T E : Type 0} (r : Result T E) → OnErr r (new ≡ slots) → OnErr r (entries_of vs ≡ now)
    same_then (Ok x) err = tt
    same_then (Err e) err = ap entries_of (at_seat slots err) ∙ ap (λ k. entries_of (insert_entry place_order us (seat_at p) k)) here ∙ kept_as_is us are.ordered (seat_at p) ∙ view

-- shelves with these slots
pub record HaveNow (vs : Shelved) (es : Entries) : Type 0 where
  pub are : AreShelves vs
  pub entries : entries_of vs ≡ es
