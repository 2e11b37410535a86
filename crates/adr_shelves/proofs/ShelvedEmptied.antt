-- What becomes of shelves where an object's values are emptied at once.
use Rattle.std.proofs.Common.{◌≡◌, ℕ, ◌+◌, ◌<◌, ◌≤◌, zero, suc, List, [], ◌∷◌, ◌++◌, length, get_or, set, take, drop, Bool, true, false, cond, ◌&&◌, Option, Some, None, refl, sym, ap, ◌∙◌, subst, arith, add-one}
use Rattle.std.specs.Prelude.{nat_le}
use Rattle.std.specs.Option.{option_cmp}
use Rattle.std.specs.List.{AllByRecursion}
use Rattle.std.specs.List.Sorted.{IsStrictlySortedBy}
use Rattle.std.specs.Map.{keys_of, lookup, set_value}
use Rattle.std.specs.BTreeMap.{is_at}
use Rattle.std.specs.Ordering.{bool_cmp, is_eq, nat_cmp}
use Rattle.std.proofs.lemmas.Cmp.{nat_list_cmp_total, tied_itself}
use Rattle.std.proofs.lemmas.List.{append-nil, drop_all, map-append, take_all, take-append-le}
use Rattle.std.proofs.lemmas.Map.Lookups.{exact_bytes}
use Rattle.adr_values.specs.Order.{birth_order, identifier_order}
use Rattle.adr_values.specs.contracts.stamp.BirthOrd.TheImpl.Laws.{total-law as births_total}
use Rattle.adr_values.specs.declared.stamp.Birth.{Birth}
use Rattle.adr_values.specs.declared.stamp.Oid.{Oid}
use Rattle.adr_values.proofs.ExactOrders.{exact_births}
use Rattle.adr_model.proofs.Keys.{equal_order}
use Rattle.adr_model.specs.Store.{Held}
use Rattle.adr_model.specs.Update.{Identifier, same_identifier}
use Rattle.adr_update.proofs.Slots.{later_none}
use Rattle.adr_shelves.specs.declared.place.Place.{Place}
use Rattle.adr_shelves.specs.Place.{is_in_run, place_in, place_order, rows_start, seat_at, values_start}
use Rattle.adr_shelves.specs.Shelves.{AreAllShelves, AreShelves, entries_of, shelf_entries, emptied}
use Rattle.adr_shelves.proofs.Places.{exact_flags, exact_options, exact_places, places_total}
use Rattle.adr_shelves.proofs.Entries.{Entries}
use Rattle.adr_shelves.proofs.Shelved.{Kept, Shelved, shelves_rest}
use Rattle.adr_shelves.proofs.ShelvedFrees.{shelf_at, shelves_set}

-- ---- slots are emptied one after the other

module _ {K : Type 0} (test : K → Bool) where
  abbrev left_at : K × Option Held → K × Option Held
  left_at x = (x.0, cond (test x.0) None x.1)

  -- the first ones are emptied
  abbrev pub IsSoFar : List (K × Option Held) → ℕ → List (K × Option Held) → Type 0
  IsSoFar es i xs = xs ≡ emptied test (take i es) ++ drop i es

  next : (es : List (K × Option Held)) (i : ℕ) (x : K × Option Held) → i < length es → x ≡ get_or (emptied test (take i es) ++ drop i es) i x
      → set (emptied test (take i es) ++ drop i es) i (left_at x) ≡ emptied test (take (suc i) es) ++ drop (suc i) es
  next [] i x lt is = absurd (omega (arith, lt))
  next (e ∷ es) zero x lt is = ap (λ y. left_at y ∷ es) is
  next (e ∷ es) (suc i) x lt is = ap (λ xs. left_at e ∷ xs) (next es i x (omega (arith, lt)) is)

  turned : (es xs : List (K × Option Held)) (i : ℕ) (x : K × Option Held) → i < length es → x ≡ get_or xs i x → IsSoFar es i xs → IsSoFar es (i + 1) (set xs i (left_at x))
  turned es xs i x lt is so_far =
      ap (λ ys. set ys i (left_at x)) so_far ∙ next es i x lt (is ∙ ap (λ ys. get_or ys i x) so_far) ∙ ap (λ n. emptied test (take n es) ++ drop n es) (sym (add-one i))

  pub turned_full : (es xs new : List (K × Option Held)) (i : ℕ) (x : K × Option Held) → i < length es → x ≡ get_or xs i x → IsSoFar es i xs
      → (k : K) → k ≡ x.0 → test k ≡ true → new ≡ set xs i (k, None) → IsSoFar es (i + 1) new
  turned_full es xs new i x lt is so_far k at passes put =
      put ∙ ap (λ l. set xs i (l, None)) at ∙ sym (ap (λ b. set xs i (x.0, cond b None x.1)) (ap test (sym at) ∙ passes)) ∙ turned es xs i x lt is so_far

  pub turned_on : (es xs new : List (K × Option Held)) (i : ℕ) (x : K × Option Held) → i < length es → x ≡ get_or xs i x → IsSoFar es i xs
      → (k : K) → k ≡ x.0 → test k ≡ false → new ≡ set xs i (get_or xs i x) → IsSoFar es (i + 1) new
  turned_on es xs new i x lt is so_far k at fails same =
      same ∙ ap (set xs i) (sym is) ∙ sym (ap (λ b. set xs i (x.0, cond b None x.1)) (ap test (sym at) ∙ fails)) ∙ turned es xs i x lt is so_far

  pub all_turned : (es xs : List (K × Option Held)) (i : ℕ) → length es ≤ i → IsSoFar es i xs → xs ≡ emptied test es
  all_turned es xs i all so_far =
      so_far ∙ ap (λ ys. emptied test (take i es) ++ ys) (drop_all i es all) ∙ append-nil (emptied test (take i es)) ∙ ap (emptied test) (take_all i es all)

-- the list of a vector, once it is written back
pub written_back : {A : Type 0} (n : ℕ) (xs rest : List A) → length xs ≡ n → take n (xs ++ rest) ≡ xs
written_back n xs rest is = take-append-le n xs rest (omega (arith, is)) ∙ take_all n xs (omega (arith, is))

-- ---- what stays

module _ {K : Type 0} (test : K → Bool) where
  pub emptied_keys : (es : List (K × Option Held)) → keys_of (emptied test es) ≡ keys_of es
  emptied_keys [] = refl
  emptied_keys (e ∷ es) = ap (λ ks. e.0 ∷ ks) (emptied_keys es)

  emptied_both : (xs ys : List (K × Option Held)) → emptied test (xs ++ ys) ≡ emptied test xs ++ emptied test ys
  emptied_both xs ys = map-append (λ e. (e.0, cond (test e.0) None e.1)) xs ys

-- ---- those of one shelf

in_shelf : (test : Place → Bool) (own : ℕ → Bool) (seat : Place) (slots : Kept) → ((a : ℕ) → test (place_in seat a) ≡ own a)
    → emptied test (shelf_entries seat slots) ≡ shelf_entries seat (emptied own slots)
in_shelf test own seat [] alike = refl
in_shelf test own seat (s ∷ ss) alike =
    ap (λ b. (place_in seat s.0, cond b None s.1) ∷ emptied test (shelf_entries seat ss)) (alike s.0)
    ∙ ap (λ (es : Entries). (place_in seat s.0, cond (own s.0) None s.1) ∷ es) (in_shelf test own seat ss alike)

apart_shelf : (test : Place → Bool) (seat : Place) (slots : Kept) → ((a : ℕ) → test (place_in seat a) ≡ false) → emptied test (shelf_entries seat slots) ≡ shelf_entries seat slots
apart_shelf test seat [] apart = refl
apart_shelf test seat (s ∷ ss) apart =
    ap (λ b. (place_in seat s.0, cond b None s.1) ∷ emptied test (shelf_entries seat ss)) (apart s.0)
    ∙ ap (λ (es : Entries). (place_in seat s.0, s.1) ∷ es) (apart_shelf test seat ss apart)

-- ---- the values of an object

both : (a b : Bool) → (a && b) ≡ true → (a ≡ true) × (b ≡ true)
both true b e = (refl, e)
both false b e = cc

-- what is known of a place in the run
pub record IsValueOf (o : Oid) (p : Place) : Type 0 where
  pub row : false ≡ p.is_link
  pub guid : o.guid ≡ p.guid
  pub birth : Some o.birth ≡ p.birth
  pub attr : nat_le 4 p.attr ≡ true

pub told : (o : Oid) (p : Place) → is_in_run (values_start o) p ≡ true → IsValueOf o p
told o p is =
    let one = both (is_eq (bool_cmp false p.is_link)) (same_identifier o.guid p.guid && (is_eq (option_cmp birth_order (Some o.birth) p.birth) && nat_le 4 p.attr)) is in
    let two = both (same_identifier o.guid p.guid) (is_eq (option_cmp birth_order (Some o.birth) p.birth) && nat_le 4 p.attr) one.1 in
    let three = both (is_eq (option_cmp birth_order (Some o.birth) p.birth)) (nat_le 4 p.attr) two.1 in
    record {
      row = exact_flags false p.is_link (equal_order (bool_cmp false p.is_link) one.0);
      guid = exact_bytes o.guid p.guid (equal_order (identifier_order o.guid p.guid) two.0);
      birth = exact_options exact_births (Some o.birth) p.birth (equal_order (option_cmp birth_order (Some o.birth) p.birth) three.0);
      attr = three.1;
    }

-- at the object's seat they are told by their attributes
own_run : (o : Oid) (a : ℕ) → is_in_run (values_start o) (place_in (rows_start o) a) ≡ nat_le 4 a
own_run o a =
    ap (λ t. t && (is_eq (birth_order o.birth o.birth) && nat_le 4 a)) (ap is_eq (tied_itself nat_list_cmp_total o.guid))
    ∙ ap (λ t. t && nat_le 4 a) (ap is_eq (tied_itself births_total o.birth))

-- and no other shelf has any
elsewhere : (o : Oid) (s : Place) → seat_at s ≡ s → is_at (place_order (rows_start o)) s ≡ false → (a : ℕ) → is_in_run (values_start o) (place_in s a) ≡ false
elsewhere o s seated apart a = by (is_in_run (values_start o) (place_in s a)) refl
  where
    at : Bool → Identifier → Option Birth → Place
    at l g b = record { is_link = l; guid = g; birth = b; attr = cond l s.attr 0; other = cond l s.other None }

    by : (t : Bool) → is_in_run (values_start o) (place_in s a) ≡ t → t ≡ false
    by false is = refl
    by true is =
        let v = told o (place_in s a) is in
        let same : rows_start o ≡ s = ap (λ l. at l o.guid (Some o.birth)) v.row ∙ ap (λ g. at s.is_link g (Some o.birth)) v.guid ∙ ap (at s.is_link s.guid) v.birth ∙ seated in
        let wrong : false ≡ true = sym apart ∙ ap (is_at (place_order (rows_start o))) (sym same) ∙ ap is_eq (tied_itself places_total (rows_start o)) in cc

untouched : (o : Oid) (us : Shelved) → AreAllShelves us → lookup (is_at (place_order (rows_start o))) us ≡ None → emptied (is_in_run (values_start o)) (entries_of us) ≡ entries_of us
untouched o [] are none = refl
untouched o (u ∷ us) are none = by (is_at (place_order (rows_start o)) u.0) refl none (untouched o us are.1)
  where
    by : (b : Bool) → is_at (place_order (rows_start o)) u.0 ≡ b → cond b (Some u.1) (lookup (is_at (place_order (rows_start o))) us) ≡ None
        → (lookup (is_at (place_order (rows_start o))) us ≡ None → emptied (is_in_run (values_start o)) (entries_of us) ≡ entries_of us)
        → emptied (is_in_run (values_start o)) (shelf_entries u.0 u.1 ++ entries_of us) ≡ shelf_entries u.0 u.1 ++ entries_of us
    by true at n later = cc
    by false at n later =
        emptied_both (is_in_run (values_start o)) (shelf_entries u.0 u.1) (entries_of us)
        ∙ ap (λ (es : Entries). es ++ emptied (is_in_run (values_start o)) (entries_of us)) (apart_shelf (is_in_run (values_start o)) u.0 u.1 (elsewhere o u.0 are.0.seated at))
        ∙ ap (λ (es : Entries). shelf_entries u.0 u.1 ++ es) (later n)

values_emptied : (o : Oid) (us : Shelved) → AreShelves us → (slots : Kept) → lookup (is_at (place_order (rows_start o))) us ≡ Some slots
    → entries_of (set_value (is_at (place_order (rows_start o))) us (emptied (nat_le 4) slots)) ≡ emptied (is_in_run (values_start o)) (entries_of us)
values_emptied o [] are slots there = cc
values_emptied o (u ∷ us) are slots there = by (is_at (place_order (rows_start o)) u.0) refl there (values_emptied o us (shelves_rest u us are) slots)
  where
    by : (b : Bool) → is_at (place_order (rows_start o)) u.0 ≡ b → cond b (Some u.1) (lookup (is_at (place_order (rows_start o))) us) ≡ Some slots
        → (lookup (is_at (place_order (rows_start o))) us ≡ Some slots
        → entries_of (set_value (is_at (place_order (rows_start o))) us (emptied (nat_le 4) slots)) ≡ emptied (is_in_run (values_start o)) (entries_of us))
        → entries_of (cond b ((u.0, emptied (nat_le 4) slots) ∷ us) (u ∷ set_value (is_at (place_order (rows_start o))) us (emptied (nat_le 4) slots)))
        ≡ emptied (is_in_run (values_start o)) (shelf_entries u.0 u.1 ++ entries_of us)
    by true at found later =
        let same : u.1 ≡ slots = cc in
        let here : rows_start o ≡ u.0 = exact_places (rows_start o) u.0 (equal_order (place_order (rows_start o) u.0) at) in
        let own = subst (λ s. (a : ℕ) → is_in_run (values_start o) (place_in s a) ≡ nat_le 4 a) here (own_run o) in
        let rest = untouched o us are.each.1 (later_none place_order places_total (rows_start o) u us are.ordered at) in
        ap (λ (ss : Kept). shelf_entries u.0 (emptied (nat_le 4) ss) ++ entries_of us) (sym same)
        ∙ ap (λ (es : Entries). es ++ entries_of us) (sym (in_shelf (is_in_run (values_start o)) (nat_le 4) u.0 u.1 own))
        ∙ ap (λ (es : Entries). emptied (is_in_run (values_start o)) (shelf_entries u.0 u.1) ++ es) (sym rest)
        ∙ sym (emptied_both (is_in_run (values_start o)) (shelf_entries u.0 u.1) (entries_of us))
    by false apart found later =
        ap (λ (es : Entries). shelf_entries u.0 u.1 ++ es) (later found)
        ∙ ap (λ (es : Entries). es ++ emptied (is_in_run (values_start o)) (entries_of us)) (sym (apart_shelf (is_in_run (values_start o)) u.0 u.1 (elsewhere o u.0 are.each.0.seated apart)))
        ∙ sym (emptied_both (is_in_run (values_start o)) (shelf_entries u.0 u.1) (entries_of us))

shelves_emptied : (o : Oid) (us : Shelved) → AreShelves us → (slots : Kept) → lookup (is_at (place_order (rows_start o))) us ≡ Some slots
    → AreShelves (set_value (is_at (place_order (rows_start o))) us (emptied (nat_le 4) slots))
shelves_emptied o us are slots there =
    let shelf = shelf_at us are.each (rows_start o) slots there in
    let same = sym (emptied_keys (nat_le 4) slots) in
    shelves_set us are (rows_start o) (emptied (nat_le 4) slots) (record {
      seated = shelf.seated;
      rising = subst (IsStrictlySortedBy nat_cmp) same shelf.rising;
      own = λ l. subst (AllByRecursion (λ a. a ≡ (rows_start o).attr)) same (shelf.own l);
    })

-- the slots of the object's values are emptied, and all else stays
pub record AreEmptied (us new : Shelved) (o : Oid) : Type 0 where
  pub are : AreShelves new
  pub entries : entries_of new ≡ emptied (is_in_run (values_start o)) (entries_of us)

pub new_emptied : (us new : Shelved) → AreShelves us → (o : Oid) (seat : Place) → seat ≡ rows_start o → (slots kept : Kept) → Some slots ≡ lookup (is_at (place_order seat)) us
    → kept ≡ emptied (nat_le 4) slots → new ≡ set_value (is_at (place_order seat)) us kept → AreEmptied us new o
new_emptied us new are o seat at slots kept there set is =
    let found : lookup (is_at (place_order (rows_start o))) us ≡ Some slots = ap (λ s. lookup (is_at (place_order s)) us) (sym at) ∙ sym there in
    let here : new ≡ set_value (is_at (place_order (rows_start o))) us (emptied (nat_le 4) slots) =
    is ∙ ap (λ s. set_value (is_at (place_order s)) us kept) at ∙ ap (set_value (is_at (place_order (rows_start o))) us) set
    in
    record { are = subst AreShelves (sym here) (shelves_emptied o us are slots found); entries = ap entries_of here ∙ values_emptied o us are slots found }

pub none_emptied : (us new : Shelved) → AreShelves us → (o : Oid) (seat : Place) → seat ≡ rows_start o → None ≡ lookup (is_at (place_order seat)) us → new ≡ us → AreEmptied us new o
none_emptied us new are o seat at none is =
    let nowhere : lookup (is_at (place_order (rows_start o))) us ≡ None = ap (λ s. lookup (is_at (place_order s)) us) (sym at) ∙ sym none in
    record { are = subst AreShelves (sym is) are; entries = ap entries_of is ∙ sym (untouched o us are.each nowhere) }
