-- The counts of class rows and of link rows, as the definitions have them.
use Rattle.std.proofs.Common.{◌≡◌, ⊎_elim, refl, sym, ap, ◌∙◌, subst, arith, ℕ, List, [], ◌∷◌, length, Bool, true, false, cond, ◌&&◌, ◌==◌, Option, Some, None, filter, map, if◌then◌else◌}
use Rattle.std.specs.Prelude.{IfSome, is_some}
use Rattle.std.specs.List.{AllByRecursion, cons_option, filter_map}
use Rattle.std.specs.List.Sorted.{IsStrictlySortedBy}
use Rattle.std.specs.Ordering.{ordering_then}
use Rattle.std.specs.declared.cmp.Ordering.{Ordering}
use Rattle.std.specs.declared.cmp.Ordering.TheVariants.{Less, Equal, Greater}
use Rattle.std.proofs.lemmas.Bool.Decides.{nat_tests}
use Rattle.std.proofs.lemmas.Map.Keys.{sorted_head, sorted_tail}
use Rattle.adr_values.specs.declared.stamp.Oid.{Oid}
use Rattle.adr_values.specs.Order.{object_order}
use Rattle.adr_values.proofs.ExactOrders.{exact_objects}
use Rattle.adr_values.specs.contracts.stamp.OidOrd.TheImpl.Laws.{total-law as objects_total}
use Rattle.adr_model.specs.Formed.{AreRising}
use Rattle.adr_model.specs.Live.{born, objects_of}
use Rattle.adr_model.specs.Update.{Key, RowOf, LinkOf, Update, class_attr, key_order}
use Rattle.adr_model.specs.Store.{Held, updates_of}
use Rattle.adr_model.specs.Write.{is_link_row, links_in}
use Rattle.adr_law_knowledge.proofs.Counting.{rises_from}
use Rattle.adr_law_knowledge.proofs.Lists.{in_sorted, not_both_ways, of_sorted, same_members_one_list, sorted_rises}
use Rattle.adr_shelves.specs.Place.{is_of_class, is_of_link, place_of}
use Rattle.adr_shelves.specs.Shelves.{one_more_if, tally}
use Rattle.adr_table.specs.Slots.{AreAtHome, seen}
use Rattle.adr_shelves.proofs.Entries.{Entries}

-- ---- links

link_place : (k : Key) → is_of_link (place_of k) ≡ is_link_row k
link_place (RowOf o a) = refl
link_place (LinkOf l) = refl

pub links_counted : (es : Entries) → AreAtHome es → tally is_of_link es ≡ links_in (seen es)
links_counted [] home = refl
links_counted (e ∷ es) home = by e.1 home.0 (links_counted es home.1)
  where
    longer : (b : Bool) (h : Held) (hs : List Held) (n : ℕ) → n ≡ length hs → one_more_if b n ≡ length (cond b (h ∷ hs) hs)
    longer true h hs n is = omega (arith, is)
    longer false h hs n is = is

    by : (o : Option Held) → IfSome o (λ h. place_of h.update.key ≡ e.0) → tally is_of_link es ≡ links_in (seen es) → one_more_if (is_some o && is_of_link e.0) (tally is_of_link es) ≡ links_in (cons_option o (seen es))
    by None own later = later
    by (Some h) own later =
        ap (λ b. one_more_if b (tally is_of_link es)) (sym (ap is_of_link own) ∙ link_place h.update.key)
        ∙ longer (is_link_row h.update.key) h (filter (λ x. is_link_row x.update.key) (seen es)) (tally is_of_link es) later

-- ---- objects

abbrev pub births : List Held → List Oid
births rows = filter_map (λ (u : Update). born u.key) (updates_of rows)

pub class_place : (k : Key) → is_of_class (place_of k) ≡ is_some (born k)
class_place (RowOf o a) = by (a == class_attr)
  where
    by : (b : Bool) → (true && b) ≡ is_some (if b then Some o else None)
    by true = refl
    by false = refl
class_place (LinkOf l) = refl

births_counted : (es : Entries) → AreAtHome es → tally is_of_class es ≡ length (births (seen es))
births_counted [] home = refl
births_counted (e ∷ es) home = by e.1 home.0 (births_counted es home.1)
  where
    longer : (o : Option Oid) (n : ℕ) → n ≡ length (births (seen es)) → (h : Held) → born h.update.key ≡ o → one_more_if (is_some o) n ≡ length (births (h ∷ seen es))
    longer None n is h b = is ∙ sym (ap (λ x. length (cons_option x (births (seen es)))) b)
    longer (Some p) n is h b = let e : length (births (h ∷ seen es)) ≡ length (p ∷ births (seen es)) = ap (λ x. length (cons_option x (births (seen es)))) b in omega (arith, is, e)

    by : (o : Option Held) → IfSome o (λ h. place_of h.update.key ≡ e.0) → tally is_of_class es ≡ length (births (seen es)) → one_more_if (is_some o && is_of_class e.0) (tally is_of_class es) ≡ length (births (cons_option o (seen es)))
    by None own later = later
    by (Some h) own later =
        ap (λ b. one_more_if b (tally is_of_class es)) (sym (ap is_of_class own) ∙ class_place h.update.key)
        ∙ longer (born h.update.key) (tally is_of_class es) later h refl

pub row_of_attr : (attr a : ℕ) (p o : Oid) → (if a == attr then Some p else None) ≡ Some o → RowOf p a ≡ RowOf o attr
row_of_attr attr a p o is = by (a == attr) refl is
  where
    same : (a == attr) ≡ true → a ≡ attr
    same t = grind (arith, nat_tests)

    by : (b : Bool) → (a == attr) ≡ b → (if b then Some p else None) ≡ Some o → RowOf p a ≡ RowOf o attr
    by true t e = let obj : p ≡ o = cc in ap (λ x. RowOf x a) obj ∙ ap (λ x. RowOf o x) (same t)
    by false t e = cc

-- births rise with the keys of rows
born_row : (k : Key) (o : Oid) → born k ≡ Some o → k ≡ RowOf o class_attr
born_row (RowOf p a) o is = row_of_attr class_attr a p o is
born_row (LinkOf l) o is = cc

class_less : (o p : Oid) → key_order (RowOf o class_attr) (RowOf p class_attr) ≡ Less → object_order o p ≡ Less
class_less o p less = by (object_order o p) less
  where
    by : (x : Ordering) → ordering_then x Equal ≡ Less → x ≡ Less
    by Less e = refl
    by Equal e = cc
    by Greater e = cc

all_born : (o : Oid) (rows : List Held) → AllByRecursion (λ j. key_order (RowOf o class_attr) j ≡ Less) (map (λ (h : Held). h.update.key) rows) → AllByRecursion (λ p. object_order o p ≡ Less) (births rows)
all_born o [] below = tt
all_born o (h ∷ hs) below = by (born h.update.key) refl (all_born o hs below.1)
  where
    by : (b : Option Oid) → born h.update.key ≡ b → AllByRecursion (λ p. object_order o p ≡ Less) (births hs) → AllByRecursion (λ p. object_order o p ≡ Less) (cons_option b (births hs))
    by None is later = later
    by (Some p) is later = (class_less o p (subst (λ j. key_order (RowOf o class_attr) j ≡ Less) (born_row h.update.key p is) below.0), later)

none_rises : IsStrictlySortedBy object_order []
unfolding IsStrictlySortedBy
none_rises = tt

one_more : (k : Oid) (ks : List Oid) → AllByRecursion (λ j. object_order k j ≡ Less) ks → IsStrictlySortedBy object_order ks → IsStrictlySortedBy object_order (k ∷ ks)
unfolding IsStrictlySortedBy
one_more k ks b s = (b, s)

births_rise : (rows : List Held) → AreRising rows → IsStrictlySortedBy object_order (births rows)
births_rise [] rising = none_rises
births_rise (h ∷ hs) rising = by (born h.update.key) refl (births_rise hs (sorted_tail key_order h.update.key (map (λ (x : Held). x.update.key) hs) rising))
  where
    by : (b : Option Oid) → born h.update.key ≡ b → IsStrictlySortedBy object_order (births hs) → IsStrictlySortedBy object_order (cons_option b (births hs))
    by None is later = later
    by (Some o) is later =
        one_more o (births hs) (all_born o hs
        (subst (λ k. AllByRecursion (λ j. key_order k j ≡ Less) (map (λ (x : Held). x.update.key) hs)) (born_row h.update.key o is)
        (sorted_head key_order h.update.key (map (λ (x : Held). x.update.key) hs) rising))) later

-- births that rise are the objects, as they stand
pub objects_born : (rows : List Held) → AreRising rows → objects_of (updates_of rows) ≡ births rows
objects_born rows rising =
    let one_way = not_both_ways object_order objects_total exact_objects in
    let objects_rise = sorted_rises object_order objects_total exact_objects (births rows) [] tt in
    same_members_one_list object_order one_way (objects_of (updates_of rows)) (births rows) objects_rise (rises_from object_order (births rows) (births_rise rows rising))
    (λ o m. ⊎_elim (λ n. n) (λ n. absurd n) (of_sorted object_order objects_total exact_objects (births rows) [] o m))
    (λ o m. in_sorted object_order objects_total exact_objects (births rows) [] o m)

pub objects_counted : (es : Entries) → AreAtHome es → AreRising (seen es) → tally is_of_class es ≡ length (objects_of (updates_of (seen es)))
objects_counted es home rising = births_counted es home ∙ ap length (sym (objects_born (seen es) rising))
