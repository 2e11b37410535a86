-- What is found in the slots of shelves, and that they are in order.
use Rattle.std.proofs.Common.{◌≡◌, ◌≤◌, ◌+◌, ℕ, length, List, [], ◌∷◌, ◌++◌, Bool, true, false, cond, not, ◌&&◌, ◌||◌, Option, None, Some, refl, sym, ap, ◌∙◌, subst, arith}
use Rattle.std.specs.Prelude.{is_some, ◌==◌}
use Rattle.std.specs.Option.{is_none, option_and_then, option_cmp}
use Rattle.std.specs.List.{AllByRecursion}
use Rattle.std.specs.List.Sorted.{IsStrictlySortedBy}
use Rattle.std.specs.Map.{keys_of, lookup}
use Rattle.std.specs.Ordering.{bool_cmp, is_eq, nat_cmp, ordering_then}
use Rattle.std.specs.BTreeMap.{is_at}
use Rattle.std.specs.declared.cmp.Ordering.{Ordering}
use Rattle.std.specs.declared.cmp.Ordering.TheVariants.{Less, Equal, Greater}
use Rattle.std.proofs.lemmas.Bool.Decides.{nat_tests}
use Rattle.std.proofs.lemmas.Cmp.{nat_cmp_total, tied_itself}
use Rattle.std.proofs.lemmas.Map.Keys.{sorted_head, sorted_tail}
use Rattle.adr_values.specs.Order.{birth_order, identifier_order, object_order}
use Rattle.adr_values.specs.declared.stamp.Oid.{Oid}
use Rattle.adr_model.proofs.Keys.{equal_order}
use Rattle.adr_model.specs.Update.{class_attr}
use Rattle.adr_model.specs.Store.{Held}
use Rattle.adr_update.proofs.Slots.{later_none}
use Rattle.adr_shelves.specs.declared.place.Place.{Place}
use Rattle.adr_shelves.specs.Place.{is_of_class, is_of_link, is_proper, place_in, place_order, seat_at}
use Rattle.adr_shelves.specs.Shelves.{AreAllShelves, AreShelves, IsShelf, entries_of, shelf_entries, one_more_if, tally}
use Rattle.adr_shelves.proofs.Places.{places_total, exact_places}
use Rattle.adr_shelves.proofs.Entries.{AreSorted, Entries}

abbrev pub Kept : Type 0
Kept = List (ℕ × Option Held)

abbrev pub Shelved : Type 0
Shelved = List (Place × Kept)

-- ---- parts of shelves

-- an attribute that a shelf at the seat may have
abbrev pub IsOwn : Place → ℕ → Type 0
IsOwn s a = s.is_link ≡ true → a ≡ s.attr

pub own_first : (s : Place) (e : ℕ × Option Held) (slots : Kept) → IsShelf s (e ∷ slots) → IsOwn s e.0
own_first s e slots shelf link = (shelf.own link).0

pub shelf_rest : (s : Place) (e : ℕ × Option Held) (slots : Kept) → IsShelf s (e ∷ slots) → IsShelf s slots
shelf_rest s e slots shelf = record { seated = shelf.seated; rising = sorted_tail nat_cmp e.0 (keys_of slots) shelf.rising; own = λ link. (shelf.own link).1 }

pub shelf_first : (u : Place × Kept) (us : Shelved) → AreShelves (u ∷ us) → IsShelf u.0 u.1
shelf_first u us are = are.each.0

pub shelves_rest : (u : Place × Kept) (us : Shelved) → AreShelves (u ∷ us) → AreShelves us
shelves_rest u us are = record { ordered = sorted_tail place_order u.0 (keys_of us) are.ordered; each = are.each.1 }

-- ---- places are in the order of their seats, and in a shelf in that of their attributes

pub seat_again : (p : Place) → seat_at (seat_at p) ≡ seat_at p
seat_again p = by p.is_link
  where
    at : Bool → ℕ → Option Oid → Place
    at b a o = record { is_link = b; guid = p.guid; birth = p.birth; attr = a; other = o }

    by : (b : Bool) → at b (cond b (cond b p.attr 0) 0) (cond b (cond b p.other None) None) ≡ at b (cond b p.attr 0) (cond b p.other None)
    by true = refl
    by false = refl

-- a place has an attribute of its seat's
pub own_attr : (p : Place) → IsOwn (seat_at p) p.attr
own_attr p link = sym (ap (λ b. cond b p.attr 0) link)

-- and stands there at its seat
pub home : (p : Place) → is_proper p ≡ true → place_in (seat_at p) p.attr ≡ p
home p proper =
    ap (λ o. let q : Place = record { is_link = p.is_link; guid = p.guid; birth = p.birth; attr = p.attr; other = o } in q) (by p.is_link p.other proper)
  where
    by : (b : Bool) (o : Option Oid) → (b || is_none o) ≡ true → cond b o None ≡ o
    by true o h = refl
    by false None h = refl
    by false (Some x) h = cc

-- what a seat of an object has besides
bare : (s : Place) → seat_at s ≡ s → s.is_link ≡ false → (s.attr ≡ 0) × (s.other ≡ None)
bare s seated object =
    (sym (sym (ap (λ b. cond b s.attr 0) object) ∙ ap (λ q. q.attr) seated), sym (sym (ap (λ b. cond b s.other None) object) ∙ ap (λ q. q.other) seated))

-- a place of a shelf is proper, and of its seat
pub proper_in : (s : Place) → seat_at s ≡ s → (a : ℕ) → is_proper (place_in s a) ≡ true
proper_in s seated a = by s.is_link refl
  where
    by : (b : Bool) → s.is_link ≡ b → (b || is_none s.other) ≡ true
    by true is = refl
    by false is = ap is_none (bare s seated is).1

pub seat_in : (s : Place) → seat_at s ≡ s → (a : ℕ) → IsOwn s a → seat_at (place_in s a) ≡ s
seat_in s seated a own = by s.is_link refl ∙ seated
  where
    by : (b : Bool) → s.is_link ≡ b → seat_at (place_in s a) ≡ seat_at s
    by true is = ap (λ n. seat_at (place_in s n)) (own is)
    by false is = ap (λ n. let q : Place = record { is_link = s.is_link; guid = s.guid; birth = s.birth; attr = n; other = cond s.is_link s.other None } in q)
        (ap (λ b. cond b a 0) is ∙ sym (ap (λ b. cond b s.attr 0) is))

then_equal : (o : Ordering) → ordering_then o Equal ≡ o
then_equal Less = refl
then_equal Equal = refl
then_equal Greater = refl

-- orders of objects, and of links
of_objects : (g b n : Ordering) → ordering_then g (ordering_then b (ordering_then n Equal)) ≡ ordering_then (ordering_then g (ordering_then b Equal)) n
of_objects Less b n = refl
of_objects Greater b n = refl
of_objects Equal Less n = refl
of_objects Equal Greater n = refl
of_objects Equal Equal n = then_equal n

of_links : (g b n o : Ordering) → ordering_then g (ordering_then b (ordering_then n o)) ≡ ordering_then (ordering_then g (ordering_then b (ordering_then n o))) n
of_links Less b n o = refl
of_links Greater b n o = refl
of_links Equal Less n o = refl
of_links Equal Greater n o = refl
of_links Equal Equal Less o = refl
of_links Equal Equal Greater o = refl
of_links Equal Equal Equal o = sym (then_equal o)

pub by_seat : (s t : Place) → seat_at s ≡ s → seat_at t ≡ t → (a b : ℕ) → IsOwn s a → IsOwn t b
    → place_order (place_in s a) (place_in t b) ≡ ordering_then (place_order s t) (nat_cmp a b)
by_seat s t seated_s seated_t a b own_s own_t = by s.is_link t.is_link refl refl
  where
    g : Ordering
    g = identifier_order s.guid t.guid

    r : Ordering
    r = option_cmp birth_order s.birth t.birth

    by : (x y : Bool) → s.is_link ≡ x → t.is_link ≡ y
        → ordering_then (bool_cmp x y) (ordering_then g (ordering_then r (ordering_then (nat_cmp a b) (option_cmp object_order s.other t.other))))
        ≡ ordering_then (ordering_then (bool_cmp x y) (ordering_then g (ordering_then r (ordering_then (nat_cmp s.attr t.attr) (option_cmp object_order s.other t.other))))) (nat_cmp a b)
    by true false is at = refl
    by false true is at = refl
    by true true is at =
        let same : nat_cmp a b ≡ nat_cmp s.attr t.attr = ap (λ n. nat_cmp n b) (own_s is) ∙ ap (nat_cmp s.attr) (own_t at) in
        subst (λ n. ordering_then g (ordering_then r (ordering_then n (option_cmp object_order s.other t.other)))
        ≡ ordering_then (ordering_then g (ordering_then r (ordering_then (nat_cmp s.attr t.attr) (option_cmp object_order s.other t.other)))) n)
        (sym same) (of_links g r (nat_cmp s.attr t.attr) (option_cmp object_order s.other t.other))
    by false false is at =
        let others : option_cmp object_order s.other t.other ≡ Equal = ap (λ o. option_cmp object_order o t.other) (bare s seated_s is).1 ∙ ap (option_cmp object_order None) (bare t seated_t at).1 in
        let attrs : nat_cmp s.attr t.attr ≡ Equal = ap (λ n. nat_cmp n t.attr) (bare s seated_s is).0 ∙ ap (nat_cmp 0) (bare t seated_t at).0 in
        ap (λ o. ordering_then g (ordering_then r (ordering_then (nat_cmp a b) o))) others
        ∙ of_objects g r (nat_cmp a b)
        ∙ sym (ap (λ o. ordering_then (ordering_then g (ordering_then r o)) (nat_cmp a b)) (ap (λ n. ordering_then n (option_cmp object_order s.other t.other)) attrs ∙ others))

-- in one shelf
pub by_attr : (s : Place) → seat_at s ≡ s → (a b : ℕ) → IsOwn s a → IsOwn s b → place_order (place_in s a) (place_in s b) ≡ nat_cmp a b
by_attr s seated a b own_a own_b = by_seat s s seated seated a b own_a own_b ∙ ap (λ o. ordering_then o (nat_cmp a b)) (tied_itself places_total s)

-- in two shelves
pub below_seat : (s t : Place) → seat_at s ≡ s → seat_at t ≡ t → (a b : ℕ) → IsOwn s a → IsOwn t b → place_order s t ≡ Less → place_order (place_in s a) (place_in t b) ≡ Less
below_seat s t seated_s seated_t a b own_s own_t is = by_seat s t seated_s seated_t a b own_s own_t ∙ ap (λ o. ordering_then o (nat_cmp a b)) is

pub above_seat : (s t : Place) → seat_at s ≡ s → seat_at t ≡ t → (a b : ℕ) → IsOwn s a → IsOwn t b → place_order s t ≡ Greater → place_order (place_in s a) (place_in t b) ≡ Greater
above_seat s t seated_s seated_t a b own_s own_t is = by_seat s t seated_s seated_t a b own_s own_t ∙ ap (λ o. ordering_then o (nat_cmp a b)) is

-- a place and one of a shelf
pub place_by_seat : (p : Place) → is_proper p ≡ true → (t : Place) → seat_at t ≡ t → (b : ℕ) → IsOwn t b
    → place_order p (place_in t b) ≡ ordering_then (place_order (seat_at p) t) (nat_cmp p.attr b)
place_by_seat p proper t seated b own =
    ap (λ q. place_order q (place_in t b)) (sym (home p proper)) ∙ by_seat (seat_at p) t (seat_again p) seated p.attr b (own_attr p) own

-- where the shelf is that of the place, and where it is another
pub place_by_attr : (p : Place) → is_proper p ≡ true → (t : Place) → seat_at t ≡ t → (b : ℕ) → IsOwn t b → place_order (seat_at p) t ≡ Equal → place_order p (place_in t b) ≡ nat_cmp p.attr b
place_by_attr p proper t seated b own is = place_by_seat p proper t seated b own ∙ ap (λ o. ordering_then o (nat_cmp p.attr b)) is

pub place_below : (p : Place) → is_proper p ≡ true → (t : Place) → seat_at t ≡ t → (b : ℕ) → IsOwn t b → place_order (seat_at p) t ≡ Less → place_order p (place_in t b) ≡ Less
place_below p proper t seated b own is = place_by_seat p proper t seated b own ∙ ap (λ o. ordering_then o (nat_cmp p.attr b)) is

pub place_above : (p : Place) → is_proper p ≡ true → (t : Place) → seat_at t ≡ t → (b : ℕ) → IsOwn t b → place_order (seat_at p) t ≡ Greater → place_order p (place_in t b) ≡ Greater
place_above p proper t seated b own is = place_by_seat p proper t seated b own ∙ ap (λ o. ordering_then o (nat_cmp p.attr b)) is

pub place_elsewhere : (p : Place) → is_proper p ≡ true → (t : Place) → seat_at t ≡ t → (b : ℕ) → IsOwn t b → is_at (place_order (seat_at p)) t ≡ false → is_at (place_order p) (place_in t b) ≡ false
place_elsewhere p proper t seated b own apart = ap is_eq (place_by_seat p proper t seated b own) ∙ by (place_order (seat_at p) t) apart
  where
    by : (o : Ordering) → is_eq o ≡ false → is_eq (ordering_then o (nat_cmp p.attr b)) ≡ false
    by Less h = refl
    by Greater h = refl
    by Equal h = cc

-- ---- all places rise

pub each_own : (P : ℕ → Type 0) (s : Place) (slots : Kept) → IsShelf s slots → ((a : ℕ) → IsOwn s a → P a) → AllByRecursion P (keys_of slots)
each_own P s [] shelf all = tt
each_own P s (e ∷ slots) shelf all = (all e.0 (own_first s e slots shelf), each_own P s slots (shelf_rest s e slots shelf) all)

pub all_places : (P : Place → Type 0) (s : Place) (slots : Kept) (es : Entries) → AllByRecursion (λ a. P (place_in s a)) (keys_of slots) → AllByRecursion P (keys_of es)
    → AllByRecursion P (keys_of (shelf_entries s slots ++ es))
all_places P s [] es here rest = rest
all_places P s (e ∷ slots) es here rest = (here.0, all_places P s slots es here.1 rest)

each_above : (s : Place) (a : ℕ) → IsOwn s a → (slots : Kept) → IsShelf s slots → AllByRecursion (λ b. nat_cmp a b ≡ Less) (keys_of slots)
    → AllByRecursion (λ b. place_order (place_in s a) (place_in s b) ≡ Less) (keys_of slots)
each_above s a own [] shelf above = tt
each_above s a own (e ∷ slots) shelf above =
    (by_attr s shelf.seated a e.0 own (own_first s e slots shelf) ∙ above.0, each_above s a own slots (shelf_rest s e slots shelf) above.1)

-- those of later shelves are behind those of a shelf
pub all_behind : (s : Place) → seat_at s ≡ s → (a : ℕ) → IsOwn s a → (us : Shelved) → AreAllShelves us → AllByRecursion (λ t. place_order s t ≡ Less) (keys_of us)
    → AllByRecursion (λ q. place_order (place_in s a) q ≡ Less) (keys_of (entries_of us))
all_behind s seated a own [] each above = tt
all_behind s seated a own (u ∷ us) each above =
    all_places (λ q. place_order (place_in s a) q ≡ Less) u.0 u.1 (entries_of us)
    (each_own (λ b. place_order (place_in s a) (place_in u.0 b) ≡ Less) u.0 u.1 each.0 (λ b own_b. below_seat s u.0 seated (each.0.seated) a b own own_b above.0))
    (all_behind s seated a own us each.1 above.1)

pub sorted_shelf : (s : Place) (slots : Kept) → IsShelf s slots → (es : Entries) → AreSorted es → ((a : ℕ) → IsOwn s a → AllByRecursion (λ q. place_order (place_in s a) q ≡ Less) (keys_of es))
    → AreSorted (shelf_entries s slots ++ es)
unfolding IsStrictlySortedBy
sorted_shelf s [] shelf es rest behind = rest
sorted_shelf s (e ∷ slots) shelf es rest behind =
    let own : IsOwn s e.0 = own_first s e slots shelf in
    let later : IsShelf s slots = shelf_rest s e slots shelf in (
      all_places (λ q. place_order (place_in s e.0) q ≡ Less) s slots es (each_above s e.0 own slots later (sorted_head nat_cmp e.0 (keys_of slots) shelf.rising)) (behind e.0 own),
      sorted_shelf s slots later es rest behind,
    )

pub sorted : (us : Shelved) → AreShelves us → AreSorted (entries_of us)
unfolding IsStrictlySortedBy
sorted [] are = tt
sorted (u ∷ us) are =
    sorted_shelf u.0 u.1 are.each.0 (entries_of us) (sorted us (shelves_rest u us are))
    (λ a own. all_behind u.0 (are.each.0.seated) a own us are.each.1 (sorted_head place_order u.0 (keys_of us) are.ordered))

-- ---- what is found

pub shelf_looked : (p : Place) → is_proper p ≡ true → (s : Place) (slots : Kept) → IsShelf s slots → (es : Entries) → place_order (seat_at p) s ≡ Equal → lookup (is_at (place_order p)) es ≡ None
    → lookup (is_at (place_order p)) (shelf_entries s slots ++ es) ≡ lookup (is_at (nat_cmp p.attr)) slots
shelf_looked p proper s [] shelf es at none = none
shelf_looked p proper s (e ∷ slots) shelf es at none =
    ap (λ o. cond (is_eq o) (Some e.1) (lookup (is_at (place_order p)) (shelf_entries s slots ++ es))) (place_by_attr p proper s shelf.seated e.0 (own_first s e slots shelf) at)
    ∙ ap (λ o. cond (is_at (nat_cmp p.attr) e.0) (Some e.1) o) (shelf_looked p proper s slots (shelf_rest s e slots shelf) es at none)

pub shelf_passed : (test : Place → Bool) (s : Place) (slots : Kept) → IsShelf s slots → (es : Entries) → ((a : ℕ) → IsOwn s a → test (place_in s a) ≡ false)
    → lookup test (shelf_entries s slots ++ es) ≡ lookup test es
shelf_passed test s [] shelf es fails = refl
shelf_passed test s (e ∷ slots) shelf es fails =
    ap (λ b. cond b (Some e.1) (lookup test (shelf_entries s slots ++ es))) (fails e.0 (own_first s e slots shelf)) ∙ shelf_passed test s slots (shelf_rest s e slots shelf) es fails

pub looked : (us : Shelved) → AreShelves us → (p : Place) → is_proper p ≡ true
    → lookup (is_at (place_order p)) (entries_of us) ≡ option_and_then (λ slots. lookup (is_at (nat_cmp p.attr)) slots) (lookup (is_at (place_order (seat_at p))) us)
looked [] are p proper = refl
looked (u ∷ us) are p proper = by (is_at (place_order (seat_at p)) u.0) refl (looked us (shelves_rest u us are) p proper)
  where
    in_slots : Kept → Option (Option Held)
    in_slots slots = lookup (is_at (nat_cmp p.attr)) slots

    by : (b : Bool) → is_at (place_order (seat_at p)) u.0 ≡ b
        → lookup (is_at (place_order p)) (entries_of us) ≡ option_and_then in_slots (lookup (is_at (place_order (seat_at p))) us)
        → lookup (is_at (place_order p)) (shelf_entries u.0 u.1 ++ entries_of us) ≡ option_and_then in_slots (cond b (Some u.1) (lookup (is_at (place_order (seat_at p))) us))
    by true at later =
        shelf_looked p proper u.0 u.1 are.each.0 (entries_of us) (equal_order (place_order (seat_at p) u.0) at)
        (later ∙ ap (option_and_then in_slots) (later_none place_order places_total (seat_at p) u us are.ordered at))
    by false at later =
        shelf_passed (is_at (place_order p)) u.0 u.1 are.each.0 (entries_of us) (λ a own. place_elsewhere p proper u.0 (are.each.0.seated) a own at) ∙ later

-- only proper places have slots
elsewhere : (p : Place) → is_proper p ≡ false → (s : Place) → seat_at s ≡ s → (a : ℕ) → is_at (place_order p) (place_in s a) ≡ false
elsewhere p not_proper s seated a = by (is_at (place_order p) (place_in s a)) refl
  where
    by : (b : Bool) → is_at (place_order p) (place_in s a) ≡ b → b ≡ false
    by false at = refl
    by true at =
        let same : p ≡ place_in s a = exact_places p (place_in s a) (equal_order (place_order p (place_in s a)) at) in
        let no : false ≡ true = sym not_proper ∙ ap is_proper same ∙ proper_in s seated a in cc

none_in_all : (us : Shelved) → AreAllShelves us → (p : Place) → is_proper p ≡ false → lookup (is_at (place_order p)) (entries_of us) ≡ None
none_in_all [] each p not_proper = refl
none_in_all (u ∷ us) each p not_proper =
    shelf_passed (is_at (place_order p)) u.0 u.1 each.0 (entries_of us) (λ a own. elsewhere p not_proper u.0 (each.0.seated) a) ∙ none_in_all us each.1 p not_proper

pub none_improper : (us : Shelved) → AreShelves us → (p : Place) → is_proper p ≡ false → lookup (is_at (place_order p)) (entries_of us) ≡ None
none_improper us are p not_proper = none_in_all us are.each p not_proper

-- ---- a shelf has one row of a kind

not_counted : (b : Bool) (n : ℕ) → one_more_if (b && false) n ≡ n
not_counted true n = refl
not_counted false n = refl

uncounted : (test : Place → Bool) (s : Place) (slots : Kept) (es : Entries) → AllByRecursion (λ a. test (place_in s a) ≡ false) (keys_of slots) → tally test (shelf_entries s slots ++ es) ≡ tally test es
uncounted test s [] es fail = refl
uncounted test s (e ∷ slots) es fail =
    ap (λ b. one_more_if (is_some e.1 && b) (tally test (shelf_entries s slots ++ es))) fail.0
    ∙ not_counted (is_some e.1) (tally test (shelf_entries s slots ++ es))
    ∙ uncounted test s slots es fail.1

-- at most one attribute of a seat's passes
abbrev pub PassesOnce : (Place → Bool) → Place → Type 0
PassesOnce test s = (a b : ℕ) → IsOwn s a → IsOwn s b → test (place_in s a) ≡ true → test (place_in s b) ≡ true → a ≡ b

not_again : (test : Place → Bool) (s : Place) → PassesOnce test s → (a : ℕ) → IsOwn s a → test (place_in s a) ≡ true → (slots : Kept) → IsShelf s slots
    → AllByRecursion (λ b. nat_cmp a b ≡ Less) (keys_of slots) → AllByRecursion (λ b. test (place_in s b) ≡ false) (keys_of slots)
not_again test s once a own passes [] shelf above = tt
not_again test s once a own passes (e ∷ slots) shelf above =
    (by (test (place_in s e.0)) refl, not_again test s once a own passes slots (shelf_rest s e slots shelf) above.1)
  where
    by : (b : Bool) → test (place_in s e.0) ≡ b → b ≡ false
    by false is = refl
    by true is =
        let same : a ≡ e.0 = once a e.0 own (own_first s e slots shelf) passes is in
        let wrong : Less ≡ Equal = sym above.0 ∙ ap (λ n. nat_cmp n e.0) same ∙ tied_itself nat_cmp_total e.0 in cc

counted_once : (test : Place → Bool) (s : Place) → PassesOnce test s → (slots : Kept) → IsShelf s slots → (es : Entries) → tally test (shelf_entries s slots ++ es) ≤ 1 + tally test es
counted_once test s once [] shelf es = omega arith
counted_once test s once (e ∷ slots) shelf es = by (test (place_in s e.0)) refl (is_some e.1) (counted_once test s once slots later es)
  where
    later : IsShelf s slots
    later = shelf_rest s e slots shelf

    by : (b : Bool) → test (place_in s e.0) ≡ b → (x : Bool) → tally test (shelf_entries s slots ++ es) ≤ 1 + tally test es
        → one_more_if (x && b) (tally test (shelf_entries s slots ++ es)) ≤ 1 + tally test es
    by true is true few =
        let none : tally test (shelf_entries s slots ++ es) ≡ tally test es =
        uncounted test s slots es (not_again test s once e.0 (own_first s e slots shelf) is slots later (sorted_head nat_cmp e.0 (keys_of slots) shelf.rising)) in
        omega (arith, none)
    by true is false few = few
    by false is true few = few
    by false is false few = few

pub one_each : (test : Place → Bool) → ((s : Place) → PassesOnce test s) → (us : Shelved) → AreAllShelves us → tally test (entries_of us) ≤ length us
one_each test once [] each = omega arith
one_each test once (u ∷ us) each = omega (arith, counted_once test u.0 (once u.0) u.1 each.0 (entries_of us), one_each test once us each.1)

-- shelves of which no place passes
pub none_counted : (test : Place → Bool) (us vs : Shelved) → AllByRecursion (λ s. (a : ℕ) → test (place_in s a) ≡ false) (keys_of us) → tally test (entries_of (us ++ vs)) ≡ tally test (entries_of vs)
none_counted test [] vs fail = refl
none_counted test (u ∷ us) vs fail = uncounted test u.0 u.1 (entries_of (us ++ vs)) (all_fail u.1) ∙ none_counted test us vs fail.1
  where
    all_fail : (slots : Kept) → AllByRecursion (λ a. test (place_in u.0 a) ≡ false) (keys_of slots)
    all_fail [] = tt
    all_fail (e ∷ slots) = (fail.0 e.0, all_fail slots)

pub class_once : (s : Place) → PassesOnce is_of_class s
class_once s a b own_a own_b is_a is_b = told (not s.is_link) is_a ∙ sym (told (not s.is_link) is_b)
  where
    told : {n : ℕ} (x : Bool) → (x && (n == class_attr)) ≡ true → n ≡ class_attr
    told true is = grind (arith, nat_tests)
    told false is = cc

pub link_once : (s : Place) → PassesOnce is_of_link s
link_once s a b own_a own_b is_a is_b = own_a is_a ∙ sym (own_b is_b)
