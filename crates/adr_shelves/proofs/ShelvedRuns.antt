-- The slots of shelves from a place on.
use Rattle.std.proofs.Common.{◌≡◌, refl, sym, ap, ◌∙◌, subst, arith, ◌&&◌, ◌||◌, ℕ, List, [], ◌∷◌, ◌++◌, Bool, true, false, Option, Some, None, filter, cond, nat_le, nat_lt, ◌+◌, ◌<◌, ◌==◌, length, drop, slice_index_or}
use Rattle.std.specs.Option.{is_none, option_cmp}
use Rattle.std.specs.Ordering.{bool_cmp, is_eq, is_le, is_lt, match_ordering, nat_cmp, ordering_then}
use Rattle.std.specs.declared.cmp.Ordering.{Ordering}
use Rattle.std.specs.declared.cmp.Ordering.TheVariants.{Less, Equal, Greater}
use Rattle.std.specs.List.{AllByRecursion}
use Rattle.std.specs.List.Sorted.{IsStrictlySortedBy}
use Rattle.std.specs.Map.{keys_of}
use Rattle.std.specs.BTreeMap.Range.{entries_between, range_contains}
use Rattle.std.specs.declared.ops.Bound.TheVariants.{Included, Unbounded}
use Rattle.std.proofs.lemmas.Bool.Decides.{nat_tests}
use Rattle.std.proofs.lemmas.Cmp.{eq_by_cmp_equiv, tied_itself}
use Rattle.std.proofs.lemmas.List.{drop_more, nil_from_length}
use Rattle.std.proofs.lemmas.List.Elements.{filter-append}
use Rattle.std.proofs.lemmas.Map.Keys.{sorted_head, sorted_tail}
use Rattle.adr_values.specs.Order.{birth_order, identifier_order, object_order}
use Rattle.adr_values.specs.declared.stamp.Birth.{Birth}
use Rattle.adr_values.specs.declared.stamp.Oid.{Oid}
use Rattle.adr_model.proofs.Keys.{equal_order}
use Rattle.adr_model.specs.Store.{Held}
use Rattle.adr_model.specs.Update.{Identifier}
use Rattle.adr_shelves.specs.declared.place.Place.{Place}
use Rattle.adr_shelves.specs.Place.{is_proper, place_in, place_order, seat_at}
use Rattle.adr_shelves.specs.Shelves.{AreAllShelves, AreShelves, IsShelf, entries_of, is_behind, shelf_entries, start_at}
use Rattle.adr_shelves.proofs.Places.{exact_places, places_total}
use Rattle.adr_shelves.proofs.Entries.{Entries}
use Rattle.adr_shelves.proofs.Shelved.{Kept, Shelved}

-- ---- the slots of a shelf behind an attribute

le_less : (a m n : ℕ) → nat_le a m ≡ true → nat_cmp m n ≡ Less → nat_le a n ≡ true
le_less a m n le less = grind (arith, nat_tests)

lt_less : (a m n : ℕ) → nat_lt a m ≡ true → nat_cmp m n ≡ Less → nat_lt a n ≡ true
lt_less a m n lt less = grind (arith, nat_tests)

still_behind : (own : Bool) (a m n : ℕ) → is_behind own a m ≡ true → nat_cmp m n ≡ Less → is_behind own a n ≡ true
still_behind true a m n is less = le_less a m n is less
still_behind false a m n is less = lt_less a m n is less

module _ (own : Bool) (a : ℕ) where
  abbrev pub behind : Kept → Kept
  behind slots = filter (λ s. is_behind own a s.0) slots

  later_behind : (m : ℕ) → is_behind own a m ≡ true → (ss : Kept) → AllByRecursion (λ n. nat_cmp m n ≡ Less) (keys_of ss) → behind ss ≡ ss
  later_behind m is [] above = refl
  later_behind m is (s ∷ ss) above =
      ap (λ b. cond b (s ∷ behind ss) (behind ss)) (still_behind own a m s.0 is above.0) ∙ ap (λ xs. s ∷ xs) (later_behind m is ss above.1)

  -- the slots so far aren't behind, and those left rise
  pub record Left (all left : Kept) : Type 0 where
    pub same : behind all ≡ behind left
    pub rising : IsStrictlySortedBy nat_cmp (keys_of left)

  module _ (all left : Kept) (s : ℕ × Option Held) (ss : Kept) (is : left ≡ s ∷ ss) (walk : Left all left) where
    here : Left all (s ∷ ss)
    here = subst (Left all) is walk

    pub passed : is_behind own a s.0 ≡ false → Left all ss
    passed out = record {
      same = here.same ∙ ap (λ b. cond b (s ∷ behind ss) (behind ss)) out;
      rising = sorted_tail nat_cmp s.0 (keys_of ss) here.rising;
    }

    pub stopped : is_behind own a s.0 ≡ true → left ≡ behind all
    stopped own_is =
        is ∙ ap (λ xs. s ∷ xs) (sym (later_behind s.0 own_is ss (sorted_head nat_cmp s.0 (keys_of ss) here.rising)))
        ∙ ap (λ b. cond b (s ∷ behind ss) (behind ss)) (sym own_is) ∙ sym here.same

pub next_slot : (ss : Kept) (i : ℕ) (s : ℕ × Option Held) → i < length ss → s ≡ slice_index_or ss i s → drop i ss ≡ s ∷ drop (i + 1) ss
next_slot ss i s lt is = drop_more ss i s lt ∙ ap (λ x. x ∷ drop (i + 1) ss) (sym is)

-- ---- the order of a place and those of a shelf

spread : (g b o : Ordering) → ordering_then g (ordering_then b o) ≡ ordering_then (ordering_then g (ordering_then b Equal)) o
spread Less b o = refl
spread Greater b o = refl
spread Equal Less o = refl
spread Equal Equal o = refl
spread Equal Greater o = refl

twice : (o : Ordering) → o ≡ ordering_then o o
twice Less = refl
twice Equal = refl
twice Greater = refl

again : (g b n o : Ordering) → ordering_then g (ordering_then b (ordering_then n o)) ≡ ordering_then (ordering_then g (ordering_then b (ordering_then n o))) (ordering_then n o)
again Less b n o = refl
again Greater b n o = refl
again Equal Less n o = refl
again Equal Greater n o = refl
again Equal Equal Less o = refl
again Equal Equal Greater o = refl
again Equal Equal Equal o = twice o

abbrev attr_order : ℕ → ℕ → Option Oid → Option Oid → Ordering
attr_order i a o u = ordering_then (nat_cmp i a) (option_cmp object_order o u)

split_parts : (l m : Bool) (g h : Identifier) (x y : Option Birth) (i j a : ℕ) (o u : Option Oid) → (m ≡ false → j ≡ 0) → (m ≡ false → u ≡ None) → (m ≡ true → a ≡ j)
    → ordering_then (bool_cmp l m) (ordering_then (identifier_order g h) (ordering_then (option_cmp birth_order x y) (attr_order i a o u)))
    ≡ ordering_then (ordering_then (bool_cmp l m) (ordering_then (identifier_order g h) (ordering_then (option_cmp birth_order x y) (attr_order (cond l i 0) j (cond l o None) u)))) (attr_order i a o u)
split_parts false true g h x y i j a o u low bare own = refl
split_parts true false g h x y i j a o u low bare own = refl
split_parts false false g h x y i j a o u low bare own =
    let none : attr_order 0 j None u ≡ Equal = ap (λ k. attr_order 0 k None u) (low refl) ∙ ap (option_cmp object_order None) (bare refl) in
    spread (identifier_order g h) (option_cmp birth_order x y) (attr_order i a o u)
    ∙ ap (λ r. ordering_then (ordering_then (identifier_order g h) (ordering_then (option_cmp birth_order x y) r)) (attr_order i a o u)) (sym none)
split_parts true true g h x y i j a o u low bare own =
    subst (λ k. ordering_then (identifier_order g h) (ordering_then (option_cmp birth_order x y) (attr_order i k o u))
    ≡ ordering_then (ordering_then (identifier_order g h) (ordering_then (option_cmp birth_order x y) (attr_order i j o u))) (attr_order i k o u))
    (sym (own refl)) (again (identifier_order g h) (option_cmp birth_order x y) (nat_cmp i j) (option_cmp object_order o u))

-- the seats are told apart first, and then the attributes
split : (p s : Place) (a : ℕ) → seat_at s ≡ s → (s.is_link ≡ true → a ≡ s.attr)
    → place_order p (place_in s a) ≡ ordering_then (place_order (seat_at p) s) (attr_order p.attr a p.other s.other)
split p s a seated own =
    split_parts p.is_link s.is_link p.guid s.guid p.birth s.birth p.attr s.attr a p.other s.other
    (λ off. sym (ap (λ q. q.attr) seated) ∙ ap (λ b. cond b s.attr 0) off) (λ off. sym (ap (λ q. q.other) seated) ∙ ap (λ b. cond b s.other None) off) own

-- ---- whether the places of a shelf are behind a place

abbrev passes : Bool → Ordering → Bool
passes true o = is_le o
passes false o = is_lt o

and_true : (b : Bool) → (b && true) ≡ b
and_true true = refl
and_true false = refl

passed_less : (b : Bool) → passes b Less ≡ true
passed_less true = refl
passed_less false = refl

passed_greater : (b : Bool) → passes b Greater ≡ false
passed_greater true = refl
passed_greater false = refl

from_is : (b : Bool) (p q : Place) → range_contains place_order (start_at b p) Unbounded q ≡ passes b (place_order p q)
from_is true p q = and_true (is_le (place_order p q))
from_is false p q = and_true (is_lt (place_order p q))

le_attr : (i a : ℕ) → is_le (ordering_then (nat_cmp i a) Equal) ≡ nat_le i a
le_attr i a = grind (arith, nat_tests)

le_attr_more : (i a : ℕ) → is_le (ordering_then (nat_cmp i a) Greater) ≡ nat_lt i a
le_attr_more i a = grind (arith, nat_tests)

lt_attr : (i a : ℕ) → is_lt (ordering_then (nat_cmp i a) Equal) ≡ nat_lt i a
lt_attr i a = grind (arith, nat_tests)

lt_attr_more : (i a : ℕ) → is_lt (ordering_then (nat_cmp i a) Greater) ≡ nat_lt i a
lt_attr_more i a = grind (arith, nat_tests)

le_same : (i : ℕ) → true ≡ nat_le i i
le_same i = grind (arith, nat_tests)

lt_same : (i : ℕ) → false ≡ nat_lt i i
lt_same i = grind (arith, nat_tests)

-- of an object
object_attrs : (b : Bool) (o : Option Oid) (i a : ℕ) → passes b (attr_order i a o None) ≡ is_behind (b && is_none o) i a
object_attrs true None i a = le_attr i a
object_attrs true (Some x) i a = le_attr_more i a
object_attrs false None i a = lt_attr i a
object_attrs false (Some x) i a = lt_attr_more i a

-- of a link
link_attrs : (b : Bool) (i : ℕ) → passes b Equal ≡ is_behind (b && true) i i
link_attrs true i = le_same i
link_attrs false i = lt_same i

own_attrs : (b : Bool) (p s : Place) (a : ℕ) → seat_at s ≡ s → (s.is_link ≡ true → a ≡ s.attr) → place_order (seat_at p) s ≡ Equal
    → passes b (place_order p (place_in s a)) ≡ is_behind (b && is_proper p) p.attr a
own_attrs b p s a seated own same = by p.is_link refl
  where
    is : seat_at p ≡ s
    is = exact_places (seat_at p) s same

    by : (l : Bool) → p.is_link ≡ l → passes b (place_order p (place_in s a)) ≡ is_behind (b && (l || is_none p.other)) p.attr a
    by true link =
        let attr_is : a ≡ p.attr = own (sym (ap (λ q. q.is_link) is) ∙ link) ∙ sym (ap (λ q. q.attr) is) ∙ ap (λ l. cond l p.attr 0) link in
        let place_is : place_in s a ≡ p =
        sym (ap (λ q. place_in q a) is) ∙ ap (place_in (seat_at p)) attr_is
        ∙ ap (λ (o : Option Oid). let q : Place = record p { other = o } in q) (ap (λ l. cond l p.other None) link) in
        ap (λ q. passes b (place_order p q)) place_is ∙ ap (passes b) (tied_itself places_total p) ∙ link_attrs b p.attr ∙ ap (is_behind (b && true) p.attr) (sym attr_is)
    by false link =
        let bare : s.other ≡ None = sym (ap (λ q. q.other) is) ∙ ap (λ l. cond l p.other None) link in
        ap (passes b) (split p s a seated own ∙ ap (λ r. ordering_then r (attr_order p.attr a p.other s.other)) same ∙ ap (attr_order p.attr a p.other) bare)
        ∙ object_attrs b p.other p.attr a

-- ---- the slots of a shelf from a place on

kept : (test : Place → Bool) (s : Place) (mine : ℕ → Bool) → ((a : ℕ) → (s.is_link ≡ true → a ≡ s.attr) → test (place_in s a) ≡ mine a)
    → (ss : Kept) → (s.is_link ≡ true → AllByRecursion (λ a. a ≡ s.attr) (keys_of ss)) → filter (λ e. test e.0) (shelf_entries s ss) ≡ shelf_entries s (filter (λ x. mine x.0) ss)
kept test s mine same [] own = refl
kept test s mine same (x ∷ xs) own =
    ap (λ b. cond b ((place_in s x.0, x.1) ∷ rest) rest) (same x.0 (λ l. (own l).0)) ∙ by (mine x.0) (kept test s mine same xs (λ l. (own l).1))
  where
    rest : Entries
    rest = filter (λ e. test e.0) (shelf_entries s xs)

    by : (b : Bool) → rest ≡ shelf_entries s (filter (λ y. mine y.0) xs) → cond b ((place_in s x.0, x.1) ∷ rest) rest ≡ shelf_entries s (cond b (x ∷ filter (λ y. mine y.0) xs) (filter (λ y. mine y.0) xs))
    by true h = ap (λ es. (place_in s x.0, x.1) ∷ es) h
    by false h = h

pub every : {X : Type 0} (xs : List X) → filter (λ x. true) xs ≡ xs
every [] = refl
every (x ∷ xs) = ap (λ ys. x ∷ ys) (every xs)

none : {X : Type 0} (xs : List X) → filter (λ x. false) xs ≡ []
none [] = refl
none (x ∷ xs) = none xs

module _ (b : Bool) (p : Place) where
  abbrev from : Entries → Entries
  from es = entries_between place_order (start_at b p) Unbounded es

  abbrev shelves_from : Shelved → Shelved
  shelves_from us = entries_between place_order (Included (seat_at p)) Unbounded us

  abbrev own_behind : Kept → Kept
  own_behind ss = behind (b && is_proper p) p.attr ss

  -- the slots that a shelf gives, by where it stands
  shelf_from : (u : Place × Kept) → IsShelf u.0 u.1 → (o : Ordering) → place_order (seat_at p) u.0 ≡ o
      → from (shelf_entries u.0 u.1) ≡ match_ordering o (shelf_entries u.0 u.1) (shelf_entries u.0 (own_behind u.1)) []
  shelf_from u is Less at =
      kept (range_contains place_order (start_at b p) Unbounded) u.0 (λ a. true)
      (λ a own. from_is b p (place_in u.0 a) ∙ ap (passes b) (split p u.0 a is.seated own ∙ ap (λ r. ordering_then r (attr_order p.attr a p.other u.0.other)) at) ∙ passed_less b) u.1 is.own
      ∙ ap (shelf_entries u.0) (every u.1)
  shelf_from u is Equal at =
      kept (range_contains place_order (start_at b p) Unbounded) u.0 (is_behind (b && is_proper p) p.attr)
      (λ a own. from_is b p (place_in u.0 a) ∙ own_attrs b p u.0 a is.seated own at) u.1 is.own
  shelf_from u is Greater at =
      kept (range_contains place_order (start_at b p) Unbounded) u.0 (λ a. false)
      (λ a own. from_is b p (place_in u.0 a) ∙ ap (passes b) (split p u.0 a is.seated own ∙ ap (λ r. ordering_then r (attr_order p.attr a p.other u.0.other)) at) ∙ passed_greater b) u.1 is.own
      ∙ ap (shelf_entries u.0) (none u.1)

  -- all shelves behind the seat are left, with all their slots
  all_from : (us : Shelved) → AreAllShelves us → AllByRecursion (λ q. place_order (seat_at p) q ≡ Less) (keys_of us) → from (entries_of us) ≡ entries_of us
  all_from [] each above = refl
  all_from (u ∷ us) each above =
      filter-append (λ e. range_contains place_order (start_at b p) Unbounded e.0) (shelf_entries u.0 u.1) (entries_of us)
      ∙ ap (λ es. es ++ from (entries_of us)) (shelf_from u each.0 Less above.0) ∙ ap (λ es. shelf_entries u.0 u.1 ++ es) (all_from us each.1 above.1)

  all_shelves : (us : Shelved) → AllByRecursion (λ q. place_order (seat_at p) q ≡ Less) (keys_of us) → shelves_from us ≡ us
  all_shelves [] above = refl
  all_shelves (u ∷ us) above = ap (λ o. cond (is_le o && true) (u ∷ shelves_from us) (shelves_from us)) above.0 ∙ ap (λ ws. u ∷ ws) (all_shelves us above.1)

  below_all : (q : Place) (ps : List Place) → place_order (seat_at p) q ≡ Less → AllByRecursion (λ r. place_order q r ≡ Less) ps → AllByRecursion (λ r. place_order (seat_at p) r ≡ Less) ps
  below_all q [] less above = tt
  below_all q (r ∷ rs) less above = (places_total.trans (seat_at p) q r less above.0, below_all q rs less above.1)

  -- the first shelf gives the slots behind the place, if it is of its unit
  abbrev first_slots : Place × Kept → Entries
  first_slots u = shelf_entries u.0 (cond (is_eq (place_order u.0 (seat_at p))) (own_behind u.1) u.1)

  abbrev begun : Shelved → Entries
  begun [] = []
  begun (u ∷ us) = first_slots u ++ entries_of us

  begun_is : (us : Shelved) → AreShelves us → from (entries_of us) ≡ begun (shelves_from us)
  begun_is [] are = refl
  begun_is (u ∷ us) are =
      filter-append (λ e. range_contains place_order (start_at b p) Unbounded e.0) (shelf_entries u.0 u.1) (entries_of us)
      ∙ by (place_order (seat_at p) u.0) refl (begun_is us (record { ordered = sorted_tail place_order u.0 (keys_of us) are.ordered; each = are.each.1 }))
    where
      head : AllByRecursion (λ r. place_order u.0 r ≡ Less) (keys_of us)
      head = sorted_head place_order u.0 (keys_of us) are.ordered

      -- its test, by the order the other way
      turned : (o : Ordering) → place_order (seat_at p) u.0 ≡ o → cond (is_eq o) (own_behind u.1) u.1 ≡ cond (is_eq (place_order u.0 (seat_at p))) (own_behind u.1) u.1
      turned o at = ap (λ c. cond c (own_behind u.1) u.1) (sym (ap is_eq at) ∙ (eq_by_cmp_equiv places_total).symm (seat_at p) u.0)

      whole : from (shelf_entries u.0 u.1) ≡ first_slots u → AllByRecursion (λ q. place_order (seat_at p) q ≡ Less) (keys_of us)
          → from (shelf_entries u.0 u.1) ++ from (entries_of us) ≡ first_slots u ++ entries_of (shelves_from us)
      whole is above =
          ap (λ es. es ++ from (entries_of us)) is ∙ ap (λ es. first_slots u ++ es) (all_from us are.each.1 above ∙ sym (ap entries_of (all_shelves us above)))

      by : (o : Ordering) → place_order (seat_at p) u.0 ≡ o → from (entries_of us) ≡ begun (shelves_from us)
          → from (shelf_entries u.0 u.1) ++ from (entries_of us) ≡ begun (cond (is_le o && true) (u ∷ shelves_from us) (shelves_from us))
      by Less at later = whole (shelf_from u are.each.0 Less at ∙ ap (shelf_entries u.0) (turned Less at)) (below_all u.0 (keys_of us) at head)
      by Equal at later =
          whole (shelf_from u are.each.0 Equal at ∙ ap (shelf_entries u.0) (turned Equal at))
          (subst (λ q. AllByRecursion (λ r. place_order q r ≡ Less) (keys_of us)) (sym (exact_places (seat_at p) u.0 at)) head)
      by Greater at later = ap (λ es. es ++ from (entries_of us)) (shelf_from u are.each.0 Greater at) ∙ later

-- ---- a run begins

each_from : (test : Place → Bool) (us : Shelved) → AreAllShelves us → AreAllShelves (filter (λ u. test u.0) us)
each_from test [] each = tt
each_from test (u ∷ us) each = by (test u.0) (each_from test us each.1)
  where
    by : (t : Bool) → AreAllShelves (filter (λ v. test v.0) us) → AreAllShelves (cond t (u ∷ filter (λ v. test v.0) us) (filter (λ v. test v.0) us))
    by true h = (each.0, h)
    by false h = h

module _ (us ws : Shelved) (are : AreShelves us) (p seat : Place) (seat_is : seat ≡ seat_at p) (ws_is : ws ≡ entries_between place_order (Included seat) Unbounded us) where
  ranged : (b : Bool) → entries_between place_order (start_at b p) Unbounded (entries_of us) ≡ begun b p ws
  ranged b = begun_is b p us are ∙ ap (begun b p) (sym (ws_is ∙ ap (λ s. entries_between place_order (Included s) Unbounded us) seat_is))

  pub begun_none : (b : Bool) → ws ≡ [] → [] ≡ entries_between place_order (start_at b p) Unbounded (entries_of us)
  begun_none b is = sym (ranged b ∙ ap (begun b p) is)

  -- without a shelf of the place's own unit
  pub begun_behind : (b : Bool) → AllByRecursion (λ q. is_eq (place_order q seat) ≡ false) (keys_of ws) → entries_of ws ≡ entries_between place_order (start_at b p) Unbounded (entries_of us)
  begun_behind b apart = sym (ranged b ∙ by ws apart)
    where
      by : (vs : Shelved) → AllByRecursion (λ q. is_eq (place_order q seat) ≡ false) (keys_of vs) → begun b p vs ≡ entries_of vs
      by [] apart = refl
      by (v ∷ vs) apart =
          ap (λ c. shelf_entries v.0 (cond c (behind (b && is_proper p) p.attr v.1) v.1) ++ entries_of vs) (ap (λ s. is_eq (place_order v.0 s)) (sym seat_is) ∙ apart.0)

  module _ (first : Place) (shelf : Kept) (vs : Shelved) (is : ws ≡ (first, shelf) ∷ vs) where
    pub slots_rise : IsStrictlySortedBy nat_cmp (keys_of shelf)
    slots_rise =
        let each : AreAllShelves ((first, shelf) ∷ vs) = subst AreAllShelves (sym ws_is ∙ is) (each_from (range_contains place_order (Included seat) Unbounded) us are.each) in
        each.0.rising

    -- with a shelf of the place's own unit
    pub begun_own : (b own : Bool) → own ≡ (b && is_proper p) → is_eq (place_order first seat) ≡ true → (left : Kept) → left ≡ behind own p.attr shelf
        → shelf_entries seat left ++ entries_of vs ≡ entries_between place_order (start_at b p) Unbounded (entries_of us)
    begun_own b own own_is at left left_is =
        let same : seat ≡ first = sym (exact_places first seat (equal_order (place_order first seat) at)) in
        let test : true ≡ is_eq (place_order first (seat_at p)) = sym at ∙ ap (λ s. is_eq (place_order first s)) seat_is in
        ap (λ s. shelf_entries s left ++ entries_of vs) same
        ∙ ap (λ xs. shelf_entries first xs ++ entries_of vs)
        (left_is ∙ ap (λ o. behind o p.attr shelf) own_is ∙ ap (λ c. cond c (behind (b && is_proper p) p.attr shelf) shelf) test)
        ∙ sym (ranged b ∙ ap (begun b p) is)

    -- or of another
    pub begun_other : (b : Bool) → is_eq (place_order first seat) ≡ false → (left : Kept) → left ≡ shelf
        → shelf_entries first left ++ entries_of vs ≡ entries_between place_order (start_at b p) Unbounded (entries_of us)
    begun_other b out left left_is =
        let test : false ≡ is_eq (place_order first (seat_at p)) = sym out ∙ ap (λ s. is_eq (place_order first s)) seat_is in
        ap (λ xs. shelf_entries first xs ++ entries_of vs) (left_is ∙ ap (λ c. cond c (behind (b && is_proper p) p.attr shelf) shelf) test)
        ∙ sym (ranged b ∙ ap (begun b p) is)

-- ---- a run goes on

is_zero : (n : ℕ) (r : Bool) → r ≡ (n == 0) → r ≡ true → n ≡ 0
is_zero n r is t = grind (arith, nat_tests)

is_more : (n : ℕ) (r : Bool) → r ≡ (n == 0) → r ≡ false → 0 < n
is_more n r is f = grind (arith, nat_tests)

pub none_left : (ss : Kept) (r : Bool) → r ≡ (length ss == 0) → r ≡ true → ss ≡ []
none_left ss r is t = nil_from_length ss (is_zero (length ss) r is t)

pub some_left : (ss : Kept) (r : Bool) → r ≡ (length ss == 0) → r ≡ false → 0 < length ss
some_left ss r is f = is_more (length ss) r is f

module _ (seat : Place) (slots : Kept) (shelves : Shelved) (all : Entries) (walk : shelf_entries seat slots ++ entries_of shelves ≡ all) where
  pub run_ended : slots ≡ [] → shelves ≡ [] → all ≡ []
  run_ended no_slot no_shelf = sym walk ∙ ap (λ ss. shelf_entries seat ss ++ entries_of shelves) no_slot ∙ ap entries_of no_shelf

  pub run_turned : (first : Place) (shelf left : Kept) (us : Shelved) → slots ≡ [] → shelves ≡ (first, shelf) ∷ us → left ≡ shelf → shelf_entries first left ++ entries_of us ≡ all
  run_turned first shelf left us no_slot is left_is =
      ap (λ ss. shelf_entries first ss ++ entries_of us) left_is ∙ sym (ap (λ ss. shelf_entries seat ss ++ entries_of shelves) no_slot ∙ ap entries_of is) ∙ walk

  pub run_gave : (s : ℕ × Option Held) (ss : Kept) (place : Place) (row : Option Held) → slots ≡ s ∷ ss → place ≡ place_in seat s.0 → row ≡ s.1
      → all ≡ (place, row) ∷ (shelf_entries seat ss ++ entries_of shelves)
  run_gave s ss place row is place_is row_is =
      sym walk ∙ ap (λ xs. shelf_entries seat xs ++ entries_of shelves) is
      ∙ ap (λ q. (q, s.1) ∷ (shelf_entries seat ss ++ entries_of shelves)) (sym place_is) ∙ ap (λ r. (place, r) ∷ (shelf_entries seat ss ++ entries_of shelves)) (sym row_is)
