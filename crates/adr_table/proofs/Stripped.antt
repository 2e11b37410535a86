-- What a death takes, by look-ups.
use Rattle.std.proofs.Common.{◌≡◌, refl, sym, ap, ◌∙◌, subst, ℕ, List, [], ◌∷◌, Bool, true, false, cond, not, ◌&&◌, ◌||◌, Option, Some, None, filter, if◌then◌else◌, arith}
use Rattle.std.specs.Prelude.{nat_le, nat_lt, IfSome}
use Rattle.std.specs.List.Sorted.{IsStrictlySortedBy}
use Rattle.std.specs.Map.{keys_of, lookup}
use Rattle.std.specs.BTreeMap.{is_at}
use Rattle.std.specs.Ordering.{is_eq, ordering_then}
use Rattle.std.specs.declared.cmp.Ordering.{Ordering}
use Rattle.std.specs.declared.cmp.Ordering.TheVariants.{Less, Equal, Greater}
use Rattle.std.proofs.lemmas.Bool.Decides.{nat_tests}
use Rattle.std.proofs.lemmas.Cmp.{eq_by_cmp_equiv, tied_itself, nat_list_cmp_total}
use Rattle.std.proofs.lemmas.Map.Keys.{sorted_tail}
use Rattle.std.specs.List.{cons_option}
use Rattle.adr_values.specs.Order.{identifier_order, birth_order}
use Rattle.adr_values.specs.declared.stamp.Oid.{Oid}
use Rattle.adr_values.specs.contracts.stamp.OidOrd.TheImpl.Laws.{total-law as objects_total}
use Rattle.adr_model.proofs.Keys.{equal_order}
use Rattle.adr_model.specs.Update.{Identifier, Key, RowOf, LinkOf, same_identifier, same_object}
use Rattle.adr_model.specs.Write.{is_of_guid}
use Rattle.adr_model.specs.Store.{Held, is_row_of}
use Rattle.adr_model.specs.Change.{goes_with}
use Rattle.adr_shelves.specs.declared.place.Place.{Place}
use Rattle.adr_shelves.specs.Place.{place_of, place_order, is_in_run, guid_start, links_start, rows_start, values_start}
use Rattle.adr_shelves.specs.Shelves.{flat}
use Rattle.adr_table.specs.Slots.{seen, AreAtHome}
use Rattle.adr_update.specs.Sought.{is_link_from, is_link_to}
use Rattle.adr_shelves.proofs.Places.{places_total, exact_places}
use Rattle.adr_shelves.proofs.Entries.{Entries, AreSorted}
use Rattle.adr_table.proofs.Seen.{later_none}

above_reserved : (a : ℕ) → nat_le 4 a ≡ nat_lt 3 a
above_reserved a = grind (arith, nat_tests)

any_attr : (a : ℕ) → nat_le 0 a ≡ true
any_attr a = grind (arith, nat_tests)

pub in_run_of : (x y : Ordering) (a : Bool) → (is_eq x && (false || (is_eq y && a))) ≡ (is_eq (ordering_then x y) && a)
in_run_of Less y a = refl
in_run_of Equal y a = refl
in_run_of Greater y a = refl

pub goes : (o : Oid) (k : Key) (old : Option Held)
    → cond (is_in_run (links_start o) (place_of k)) None (cond (is_in_run (values_start o) (place_of k)) None (cond (is_link_to o k) None old)) ≡ cond (goes_with o k) None old
goes o (RowOf p a) old =
    ap (λ t. cond t None old) (in_run_of (identifier_order o.guid p.guid) (birth_order o.birth p.birth) (nat_le 4 a))
    ∙ by (same_object o p) (same_object p o) ((eq_by_cmp_equiv objects_total).symm o p)
  where
    by : (b c : Bool) → b ≡ c → cond (b && nat_le 4 a) None old ≡ cond (if c then nat_lt 3 a else false) None old
    by true true e = ap (λ t. cond t None old) (above_reserved a)
    by true false e = cc
    by false true e = cc
    by false false e = refl
goes o (LinkOf l) old =
    ap (λ t. cond t None (cond (same_object l.to o) None old)) (in_run_of (identifier_order o.guid l.from.guid) (birth_order o.birth l.from.birth) (nat_le 0 l.attr))
    ∙ by (same_object o l.from) (same_object l.from o) ((eq_by_cmp_equiv objects_total).symm o l.from) (same_object l.to o) (nat_le 0 l.attr) (any_attr l.attr)
  where
    by : (b c : Bool) → b ≡ c → (t a : Bool) → a ≡ true → cond (b && a) None (cond t None old) ≡ cond (c || t) None old
    by true true e t true f = refl
    by true true e t false f = cc
    by true false e t a f = cc
    by false true e t a f = cc
    by false false e t a f = refl

of_object : (b c a : Bool) → b ≡ c → a ≡ true → (b && a) ≡ c
of_object true c true e f = e
of_object true c false e f = cc
of_object false c a e f = e

-- the runs that begin a GUID's rows, an object's rows and the links from it
pub in_guid_run : (g : Identifier) (k : Key) → is_in_run (guid_start g) (place_of k) ≡ is_of_guid g k
in_guid_run g (RowOf p a) = alike (same_identifier g p.guid) (same_identifier p.guid g) ((eq_by_cmp_equiv nat_list_cmp_total).symm g p.guid)
  where
    alike : (b c : Bool) → b ≡ c → (b && true) ≡ c
    alike true c e = e
    alike false c e = e
in_guid_run g (LinkOf l) = refl

pub in_rows_run : (o : Oid) (k : Key) → is_in_run (rows_start o) (place_of k) ≡ is_row_of o k
in_rows_run o (RowOf p a) =
    in_run_of (identifier_order o.guid p.guid) (birth_order o.birth p.birth) (nat_le 0 a)
    ∙ of_object (same_object o p) (same_object p o) (nat_le 0 a) ((eq_by_cmp_equiv objects_total).symm o p) (any_attr a)
in_rows_run o (LinkOf l) = refl

pub in_links_run : (o : Oid) (k : Key) → is_in_run (links_start o) (place_of k) ≡ is_link_from o k
in_links_run o (RowOf p a) = refl
in_links_run o (LinkOf l) =
    in_run_of (identifier_order o.guid l.from.guid) (birth_order o.birth l.from.birth) (nat_le 0 l.attr)
    ∙ of_object (same_object o l.from) (same_object l.from o) (nat_le 0 l.attr) ((eq_by_cmp_equiv objects_total).symm o l.from) (any_attr l.attr)

pub leaves : (o : Oid) (k : Key) (old : Option Held) → cond (is_in_run (rows_start o) (place_of k)) None old ≡ cond (is_row_of o k) None old
leaves o k old = ap (λ t. cond t None old) (in_rows_run o k)

-- ---- slots of the same places

abbrev pub keep : (Key → Bool) → Option Held → Option Held
keep gone None = None
keep gone (Some h) = cond (gone h.update.key) None (Some h)

-- a row that is found is at the place
pub at_place : (es : Entries) (q : Place) (h : Held) → AreAtHome es → flat (lookup (is_at (place_order q)) es) ≡ Some h → place_of h.update.key ≡ q
at_place [] q h home is = cc
at_place (e ∷ es) q h home is = by (is_at (place_order q) e.0) refl is (at_place es q h home.1)
  where
    own : (o : Option Held) → IfSome o (λ x. place_of x.update.key ≡ e.0) → o ≡ Some h → place_of h.update.key ≡ e.0
    own None at e = cc
    own (Some x) at is = let same : x ≡ h = cc in subst (λ y. place_of y.update.key ≡ e.0) same at

    by : (b : Bool) → is_at (place_order q) e.0 ≡ b → flat (cond b (Some e.1) (lookup (is_at (place_order q)) es)) ≡ Some h
        → (flat (lookup (is_at (place_order q)) es) ≡ Some h → place_of h.update.key ≡ q) → place_of h.update.key ≡ q
    by true at is later = own e.1 home.0 is ∙ sym (exact_places q e.0 (equal_order (place_order q e.0) at))
    by false at is later = later is

abbrev pub Kept : (Key → Bool) → Entries → Entries → Type 0
Kept gone old new = (q : Place) → flat (lookup (is_at (place_order q)) new) ≡ keep gone (flat (lookup (is_at (place_order q)) old))

pub kept : (gone : Key → Bool) (old new : Entries) → AreAtHome old
    → ((k : Key) → flat (lookup (is_at (place_order (place_of k))) new) ≡ cond (gone k) None (flat (lookup (is_at (place_order (place_of k))) old)))
    → ((q : Place) → flat (lookup (is_at (place_order q)) old) ≡ None → flat (lookup (is_at (place_order q)) new) ≡ None)
    → Kept gone old new
kept gone old new home rows fewer q = by (flat (lookup (is_at (place_order q)) old)) refl
  where
    by : (r : Option Held) → flat (lookup (is_at (place_order q)) old) ≡ r → flat (lookup (is_at (place_order q)) new) ≡ keep gone r
    by None is = fewer q is
    by (Some h) is =
        let at : place_of h.update.key ≡ q = at_place old q h home is in
        subst (λ p. flat (lookup (is_at (place_order p)) new) ≡ cond (gone h.update.key) None (flat (lookup (is_at (place_order p)) old))) at (rows h.update.key)
        ∙ ap (λ r. cond (gone h.update.key) None r) is

pub stripped_seen : (gone : Key → Bool) (old new : Entries) → keys_of new ≡ keys_of old → AreSorted old → Kept gone old new → seen new ≡ filter (λ h. not (gone h.update.key)) (seen old)
stripped_seen gone [] [] same sorted k = refl
stripped_seen gone [] (f ∷ fs) same sorted k = cc
stripped_seen gone (e ∷ es) [] same sorted k = cc
stripped_seen gone (e ∷ es) (f ∷ fs) same sorted k =
    ap (λ r. cons_option r (seen fs)) (head (is_at (place_order e.0) e.0) (is_at (place_order e.0) f.0) self (subst (λ p. is_at (place_order e.0) p ≡ true) (sym place) self) (k e.0))
    ∙ ap (λ hs. cons_option (keep gone e.1) hs) (stripped_seen gone es fs later (sorted_tail place_order e.0 (keys_of es) sorted) tail)
    ∙ taken e.1
  where
    place : f.0 ≡ e.0
    place = cc

    later : keys_of fs ≡ keys_of es
    later = cc

    self : is_at (place_order e.0) e.0 ≡ true
    self = ap is_eq (tied_itself places_total e.0)

    head : (b c : Bool) → b ≡ true → c ≡ true → flat (cond c (Some f.1) (lookup (is_at (place_order e.0)) fs)) ≡ keep gone (flat (cond b (Some e.1) (lookup (is_at (place_order e.0)) es))) → f.1 ≡ keep gone e.1
    head true true x y h = h
    head true false x y h = cc
    head false c x y h = cc

    sorted' : AreSorted (f ∷ fs)
    sorted' = subst (λ ps. IsStrictlySortedBy place_order ps) (sym same) sorted

    tail : Kept gone es fs
    tail q = by (is_at (place_order q) e.0) (is_at (place_order q) f.0) refl refl (ap (λ p. is_at (place_order q) p) (sym place)) (k q)
      where
        by : (b c : Bool) → is_at (place_order q) e.0 ≡ b → is_at (place_order q) f.0 ≡ c → is_at (place_order q) e.0 ≡ is_at (place_order q) f.0
            → flat (cond c (Some f.1) (lookup (is_at (place_order q)) fs)) ≡ keep gone (flat (cond b (Some e.1) (lookup (is_at (place_order q)) es)))
            → flat (lookup (is_at (place_order q)) fs) ≡ keep gone (flat (lookup (is_at (place_order q)) es))
        by true true x y z h = ap flat (later_none q f fs sorted' y) ∙ sym (ap (λ r. keep gone (flat r)) (later_none q e es sorted x))
        by true false x y z h = let no : true ≡ false = sym x ∙ z ∙ y in cc
        by false true x y z h = let no : false ≡ true = sym x ∙ z ∙ y in cc
        by false false x y z h = h

    taken : (r : Option Held) → cons_option (keep gone r) (filter (λ h. not (gone h.update.key)) (seen es)) ≡ filter (λ h. not (gone h.update.key)) (cons_option r (seen es))
    taken None = refl
    taken (Some h) = by (gone h.update.key)
      where
        rest : List Held
        rest = filter (λ x. not (gone x.update.key)) (seen es)

        by : (b : Bool) → cons_option (cond b None (Some h)) rest ≡ cond (not b) (h ∷ rest) rest
        by true = refl
        by false = refl
