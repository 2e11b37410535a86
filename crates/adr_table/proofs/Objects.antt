-- What becomes of slots and rows where copies of an object's rows are put, of which none was there.
use Rattle.std.proofs.Common.{◌≡◌, refl, sym, ap, ◌∙◌, subst, ℕ, List, [], ◌∷◌, Bool, true, false, cond, not, ◌&&◌, ◌||◌, Option, Some, None, Result, Ok, Err, filter, fold, map}
use Rattle.std.specs.Prelude.{IfSome, OnErr, OnOk, is_some}
use Rattle.std.specs.List.{cons_option, list_all, list_any}
use Rattle.std.specs.List.Sorted.{IsStrictlySortedBy}
use Rattle.std.specs.Map.{keys_of, lookup}
use Rattle.std.specs.BTreeMap.{is_at}
use Rattle.std.specs.BTreeSet.{BTreeSet, contains}
use Rattle.std.specs.Ordering.{is_eq}
use Rattle.std.proofs.lemmas.Cmp.{tied_itself}
use Rattle.std.proofs.lemmas.List.Folds.{fold-map}
use Rattle.std.proofs.lemmas.List.Kept.{IsStrictlySortedBy-filter}
use Rattle.adr_values.specs.declared.stamp.LinkKey.{LinkKey}
use Rattle.adr_values.specs.declared.stamp.Oid.{Oid}
use Rattle.adr_values.specs.declared.stamp.Unit.TheVariants.{Object}
use Rattle.adr_values.specs.contracts.stamp.OidOrd.TheImpl.Laws.{total-law as objects_total}
use Rattle.adr_model.proofs.Keys.{equal_order}
use Rattle.adr_model.proofs.Members.{all_pass, each_fails, each_passes, mapped_member}
use Rattle.adr_model.specs.Change.{put}
use Rattle.adr_model.specs.Live.{born}
use Rattle.adr_model.specs.Member.{Each}
use Rattle.adr_model.specs.Store.{Held, holds_object, is_row_of, row_held, with_row}
use Rattle.adr_model.specs.Update.{Key, RowOf, LinkOf, Update, class_attr, same_unit, unit_of}
use Rattle.adr_shelves.specs.declared.place.Place.{Place}
use Rattle.adr_shelves.specs.Place.{is_of_class, is_of_link, is_of_unit, place_of, place_order, rows_start, seat_at}
use Rattle.adr_shelves.specs.Shelves.{flat, freed, held_at, is_life, is_life_of, one_more_if, tally, with_held, with_update, without_unit}
use Rattle.adr_shelves.proofs.Entries.{AreSorted, Entries}
use Rattle.adr_shelves.proofs.Places.{exact_places}
use Rattle.adr_table.specs.declared.locals.Local.{Local}
use Rattle.adr_table.specs.declared.slots.Slots.{Slots}
use Rattle.adr_table.specs.Slots.{AreAtHome, IsTidy, rows_seen, seen}
use Rattle.adr_table.specs.Deaths.{AreListed, IsListed}
use Rattle.adr_table.specs.Locals.{IsLocated, IsNamed, local_order}
use Rattle.adr_table.proofs.Fills.{AreFilled, filled, has_class, life_parts, lives_listed as held_listed, lives_put as held_put}
use Rattle.adr_table.proofs.Hinted.{is_held}
use Rattle.adr_table.proofs.LocalsSeats.{same_unit_is, seat_is}
use Rattle.adr_table.proofs.Seen.{found}
use Rattle.adr_table.proofs.UnitFrees.{freed_home, freed_same, freed_seen, freed_tally}

-- ---- slots without a unit stay in order

keys_without : (test : Place → Bool) (es : Entries) → keys_of (filter (λ (e : Place × Option Held). not (test e.0)) es) ≡ filter (λ p. not (test p)) (keys_of es)
keys_without test [] = refl
keys_without test (e ∷ es) = by (not (test e.0)) (keys_without test es)
  where
    left : Entries
    left = filter (λ (x : Place × Option Held). not (test x.0)) es

    by : (b : Bool) → keys_of left ≡ filter (λ p. not (test p)) (keys_of es)
        → keys_of (cond b (e ∷ left) left) ≡ cond b (e.0 ∷ filter (λ p. not (test p)) (keys_of es)) (filter (λ p. not (test p)) (keys_of es))
    by true later = ap (λ ps. e.0 ∷ ps) later
    by false later = later

sorted_without : (test : Place → Bool) (es : Entries) → AreSorted es → AreSorted (filter (λ (e : Place × Option Held). not (test e.0)) es)
sorted_without test es sorted =
    subst (IsStrictlySortedBy place_order) (sym (keys_without test es)) (IsStrictlySortedBy-filter place_order (λ p. not (test p)) (keys_of es) sorted)

-- ---- the rows of an object and its unit

module _ (o : Oid) where
  -- a row stands in the object's unit where it is one of its rows
  of_unit : (k : Key) → is_of_unit (rows_start o) (place_of k) ≡ is_row_of o k
  of_unit k = ap (is_at (place_order (rows_start o))) (seat_is k) ∙ same_unit_is (Object o) (unit_of k) ∙ by k
    where
      by : (j : Key) → same_unit (unit_of j) (Object o) ≡ is_row_of o j
      by (RowOf p a) = refl
      by (LinkOf l) = refl

  -- where no row of the object is seen, only empty slots go with its unit
  without_freed : (es : Entries) → AreAtHome es → holds_object (seen es) o ≡ false → without_unit (rows_start o) es ≡ freed (is_of_unit (rows_start o)) es
  without_freed [] home none = refl
  without_freed (e ∷ es) home none = by e.1 (is_of_unit (rows_start o) e.0) refl home.0 none (without_freed es home.1)
    where
      left : Entries
      left = without_unit (rows_start o) es

      kept : Entries
      kept = freed (is_of_unit (rows_start o)) es

      row : (h : Held) (t r : Bool) → t ≡ r → (r || holds_object (seen es) o) ≡ false → (holds_object (seen es) o ≡ false → left ≡ kept)
          → cond (not t) ((e.0, Some h) ∷ left) left ≡ (e.0, Some h) ∷ kept
      row h true true alike unheld later = cc
      row h true false alike unheld later = cc
      row h false true alike unheld later = cc
      row h false false alike unheld later = ap (λ (xs : Entries). (e.0, Some h) ∷ xs) (later unheld)

      by : (v : Option Held) (t : Bool) → is_of_unit (rows_start o) e.0 ≡ t → IfSome v (λ h. place_of h.update.key ≡ e.0)
          → holds_object (cons_option v (seen es)) o ≡ false → (holds_object (seen es) o ≡ false → left ≡ kept)
          → cond (not t) ((e.0, v) ∷ left) left ≡ cond (is_some v || not t) ((e.0, v) ∷ kept) kept
      by None true is own unheld later = later unheld
      by None false is own unheld later = ap (λ (xs : Entries). (e.0, None) ∷ xs) (later unheld)
      by (Some h) t is own unheld later =
          row h t (is_row_of o h.update.key) (sym is ∙ ap (is_of_unit (rows_start o)) (sym own) ∙ of_unit h.update.key) unheld later

  -- ---- the class row

  -- where none of its rows is seen, that isn't either
  none_held : (es : Entries) → AreSorted es → AreAtHome es → holds_object (seen es) o ≡ false → has_class o es ≡ false
  none_held es sorted home none = ap is_some (found es (RowOf o class_attr) sorted home) ∙ by (row_held (seen es) (RowOf o class_attr)) refl
    where
      by : (r : Option Held) → row_held (seen es) (RowOf o class_attr) ≡ r → is_some r ≡ false
      by None is = refl
      by (Some h) is =
          let t = is_held (seen es) (RowOf o class_attr) h is in
          let no : is_row_of o h.update.key ≡ false = each_fails (λ x. is_row_of o x.update.key) (seen es) none h t.0 in
          let own : is_row_of o h.update.key ≡ true = ap (is_row_of o) t.1 ∙ ap is_eq (tied_itself objects_total o) in cc

-- ---- copies of updates

any_copied : (local : ℕ) (us : List Update) → list_any (λ h. is_some (born h.update.key)) (map (held_at local) us) ≡ list_any (λ u. is_some (born u.key)) us
any_copied local [] = refl
any_copied local (u ∷ us) = ap (λ b. is_some (born u.key) || b) (any_copied local us)

each_copied : (P : Held → Type 0) (local : ℕ) (us : List Update) → Each (λ u. P (held_at local u)) us → Each P (map (held_at local) us)
each_copied P local us each h m = let t = mapped_member (held_at local) us h m in subst P (sym t.2) (each t.0 t.1)

-- ---- all slots, once they are put

pub record IsObjectPut (local : ℕ) (us : List Update) (es new : Entries) : Type 0 where
  pub rows : seen new ≡ fold with_row (seen es) (map (held_at local) us)
  pub home : AreAtHome new
  pub objects : tally is_of_class new ≡ one_more_if (list_any (λ u. is_some (born u.key)) us) (tally is_of_class es)
  pub links : tally is_of_link new ≡ tally is_of_link es
  pub same : (l : LinkKey) → flat (lookup (is_at (place_order (place_of (LinkOf l)))) new) ≡ flat (lookup (is_at (place_order (place_of (LinkOf l)))) es)

pub object_put : (o : Oid) (local : ℕ) (us : List Update) (slots : Slots) (new : Entries) → IsTidy slots → list_all (λ u. is_row_of o u.key) us ≡ true → holds_object (rows_seen slots) o ≡ false
    → new ≡ fold (with_update local) (without_unit (rows_start o) slots.map) us → IsObjectPut local us slots.map new
object_put o local us slots new tidy all none is = record {
  rows = are.rows ∙ ap (λ rows. fold with_row rows (map (held_at local) us)) (ap seen bare ∙ freed_seen test slots.map);
  home = are.home;
  objects = are.objects
      ∙ ap (λ b. one_more_if (not b && list_any (λ h. is_some (born h.update.key)) (map (held_at local) us)) (tally is_of_class left)) unborn
      ∙ ap (λ b. one_more_if b (tally is_of_class left)) (any_copied local us)
      ∙ ap (one_more_if (list_any (λ u. is_some (born u.key)) us)) (ap (tally is_of_class) bare ∙ freed_tally test is_of_class slots.map);
  links = are.links ∙ ap (tally is_of_link) bare ∙ freed_tally test is_of_link slots.map;
  same = λ l. are.same l ∙ ap (at (place_of (LinkOf l))) bare ∙ freed_same test slots.map (place_of (LinkOf l)) tidy.ordered;
}
  where
    test : Place → Bool
    test = is_of_unit (rows_start o)

    left : Entries
    left = without_unit (rows_start o) slots.map

    at : Place → Entries → Option Held
    at q xs = flat (lookup (is_at (place_order q)) xs)

    bare : left ≡ freed test slots.map
    bare = without_freed o slots.map tidy.home none

    unborn : has_class o left ≡ false
    unborn = ap is_some (ap (at (place_of (RowOf o class_attr))) bare ∙ freed_same test slots.map (place_of (RowOf o class_attr)) tidy.ordered) ∙ none_held o slots.map tidy.ordered tidy.home none

    are : AreFilled o (map (held_at local) us) left new
    are = filled o (map (held_at local) us) left new (sorted_without test slots.map tidy.ordered) (subst AreAtHome (sym bare) (freed_home test slots.map tidy.home))
        (each_copied (λ h. is_row_of o h.update.key ≡ true) local us (each_passes (λ u. is_row_of o u.key) us all))
        (is ∙ sym (fold-map with_held (held_at local) left us))

-- how many objects there are, by the count before
pub one_more : {local : ℕ} {us : List Update} {es new : Entries} → IsObjectPut local us es new
    → (b : Bool) → b ≡ list_any (λ u. is_some (born u.key)) us → (n : ℕ) → n ≡ tally is_of_class es → tally is_of_class new ≡ one_more_if b n
one_more {es = es} put b any n count = put.objects ∙ ap (λ c. one_more_if c (tally is_of_class es)) (sym any) ∙ ap (one_more_if b) (sym count)

-- ---- rows of a table

-- copies of rows of an object, none of which is a death

lives : (o : Oid) (local : ℕ) (us : List Update) → list_all (is_life_of o) us ≡ true → Each (λ h. is_life o h ≡ true) (map (held_at local) us)
lives o local us all = each_copied (λ h. is_life o h ≡ true) local us (each_passes (is_life_of o) us all)

pub lives_own : (o : Oid) (us : List Update) → list_all (is_life_of o) us ≡ true → list_all (λ u. is_row_of o u.key) us ≡ true
lives_own o us all = all_pass (λ u. is_row_of o u.key) us (λ u m. (life_parts o (held_at 0 u) (each_passes (is_life_of o) us all u m)).0)

pub lives_put : (local : ℕ) (o : Oid) (us : List Update) (rows : List Held) → list_all (is_life_of o) us ≡ true → fold with_row rows (map (held_at local) us) ≡ fold put rows (map (held_at local) us)
lives_put local o us rows all = held_put o (map (held_at local) us) rows (lives o local us all)

-- where they are put, or none is, all is listed that was
pub lives_listed : {T E : Type 0} (local : ℕ) (r : Result T E) (o : Oid) (us : List Update) (old new : Slots) (dead : BTreeSet Oid) → list_all (is_life_of o) us ≡ true → AreListed old dead
    → OnOk r (rows_seen new ≡ fold with_row (rows_seen old) (map (held_at local) us)) → OnErr r (rows_seen new ≡ rows_seen old) → AreListed new dead
lives_listed local (Ok x) o us old new dead all listed put same = held_listed o (map (held_at local) us) old new dead (lives o local us all) listed put
lives_listed local (Err e) o us old new dead all listed put same = subst (Each (λ h. IsListed dead h.update.key)) (sym same) listed

-- what is kept for an object under a row's number is the hint of that row
pub named_located : (locals : BTreeSet Local) (o : Oid) (h : Held) → is_row_of o h.update.key ≡ true → IsNamed locals o h.local → IsLocated locals h
named_located locals o h own named =
    let k = h.update.key in
    let there = exact_places (rows_start o) (seat_at (place_of k)) (equal_order (place_order (rows_start o) (seat_at (place_of k))) (of_unit o k ∙ own)) in
    subst (λ (p : Place). contains local_order locals (record { usn = h.local; unit = Some p }) ≡ true) (there ∙ seat_is k) named
