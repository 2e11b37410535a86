-- What is left of an object's rows after objects were removed: all of them, or none.
use Rattle.std.proofs.Common.{◌≡◌, ℕ, List, [], ◌∷◌, Bool, true, false, cond, not, ◌&&◌, ◌||◌, refl, sym, ap, ◌∙◌, Option, Some, None, Bor, is_some, is_none, fold}
use Rattle.std.specs.List.{list_all, list_any}
use Rattle.std.specs.Option.{option_copied}
use Rattle.std.specs.BTreeMap.{is_at}
use Rattle.std.specs.BTreeSet.{insert_key}
use Rattle.std.proofs.lemmas.Bool.{or_parts}
use Rattle.std.proofs.lemmas.Cmp.{eq_by_cmp_equiv}
use Rattle.adr_values.specs.Order.{object_order}
use Rattle.adr_values.specs.declared.stamp.Oid.{Oid}
use Rattle.adr_values.specs.declared.stamp.LinkKey.{LinkKey}
use Rattle.adr_values.specs.declared.stamp.Unit.TheVariants.{Object, Link}
use Rattle.adr_values.specs.contracts.stamp.OidOrd.TheImpl.Laws.{total-law as objects_total}
use Rattle.adr_values.proofs.ExactOrders.{exact_objects}
use Rattle.adr_values.specs.Table.{Table, must_of, class_at, is_forward, kind_at}
use Rattle.adr_model.specs.Update.{Key, RowOf, LinkOf, Update, same_object, class_attr, name_attr, deleted_attr}
use Rattle.adr_model.specs.Live.{is_among}
use Rattle.adr_model.specs.Store.{Held, holds_object, is_row_of, row_held}
use Rattle.adr_model.specs.Change.{without_object}
use Rattle.adr_model.specs.Take.{class_said, is_birth, is_reserved_row}
use Rattle.adr_model.proofs.Keys.{objects_tell}
use Rattle.adr_table.proofs.Linked.{held_filtered}
use Rattle.adr_law_tree.proofs.Kept.{any_folded}
use Rattle.adr_law_calls.specs.Tested.{all_of_object, fits_class, is_alive_formed, is_class_known, is_formed_by, is_object_formed, is_touched_formed, says_allowed_name, says_dead}

-- ---- the set of removed objects

turned : (o p : Oid) → same_object o p ≡ same_object p o
turned o p = (eq_by_cmp_equiv objects_total).symm o p

any_turned : (o : Oid) (ks : List Oid) → list_any (is_at (object_order o)) ks ≡ is_among ks o
any_turned o [] = refl
any_turned o (k ∷ ks) = ap (λ b. b || list_any (is_at (object_order o)) ks) (turned o k) ∙ ap (λ b. same_object k o || b) (any_turned o ks)

pub among_set : (o : Oid) (keys os : List Oid) → keys ≡ fold (insert_key object_order) [] os → list_any (is_at (object_order o)) keys ≡ is_among os o
among_set o keys os is = any_turned o keys ∙ ap (λ ks. is_among ks o) is ∙ any_folded object_order exact_objects (λ p. same_object p o) os []

-- ---- one object removed

none_of : (rows : List Held) (p : Oid) → holds_object (without_object rows p) p ≡ false
none_of [] p = refl
none_of (x ∷ xs) p = by (is_row_of p x.update.key) refl (none_of xs p)
  where
    by : (b : Bool) → is_row_of p x.update.key ≡ b → holds_object (without_object xs p) p ≡ false → holds_object (cond (not b) (x ∷ without_object xs p) (without_object xs p)) p ≡ false
    by true e later = later
    by false e later = ap (λ b. b || holds_object (without_object xs p) p) e ∙ later

fewer_held : (rows : List Held) (o p : Oid) → holds_object rows o ≡ false → holds_object (without_object rows p) o ≡ false
fewer_held [] o p e = refl
fewer_held (x ∷ xs) o p e = let parts = or_parts (is_row_of o x.update.key) (holds_object xs o) e in by (not (is_row_of p x.update.key)) parts.0 (fewer_held xs o p parts.1)
  where
    by : (b : Bool) → is_row_of o x.update.key ≡ false → holds_object (without_object xs p) o ≡ false → holds_object (cond b (x ∷ without_object xs p) (without_object xs p)) o ≡ false
    by true f later = ap (λ b. b || holds_object (without_object xs p) o) f ∙ later
    by false f later = later

-- a row isn't of two objects
not_both : (o p : Oid) → same_object o p ≡ false → (k : Key) → is_row_of o k ≡ true → is_row_of p k ≡ false
not_both o p differs (RowOf q attr) e = ap (λ r. same_object r p) (objects_tell q o e) ∙ differs
not_both o p differs (LinkOf l) e = refl

all_but : (rows : List Held) (o p : Oid) (test : Update → Bool) → same_object o p ≡ false → all_of_object (without_object rows p) o test ≡ all_of_object rows o test
all_but [] o p test differs = refl
all_but (x ∷ xs) o p test differs = by (is_row_of p x.update.key) (is_row_of o x.update.key) refl refl (all_but xs o p test differs)
  where
    rest : List Held
    rest = without_object xs p

    by : (a b : Bool) → is_row_of p x.update.key ≡ a → is_row_of o x.update.key ≡ b → all_of_object rest o test ≡ all_of_object xs o test
        → all_of_object (cond (not a) (x ∷ rest) rest) o test ≡ ((not b || test x.update) && all_of_object xs o test)
    by true true e f later = let no : false ≡ true = sym (not_both o p differs x.update.key f) ∙ e in cc
    by true false e f later = later
    by false b e f later = ap (λ t. (not t || test x.update) && all_of_object rest o test) f ∙ ap (λ t. (not b || test x.update) && t) later

held_but : (rows : List Held) (o p : Oid) → same_object o p ≡ false → holds_object (without_object rows p) o ≡ holds_object rows o
held_but [] o p differs = refl
held_but (x ∷ xs) o p differs = by (is_row_of p x.update.key) (is_row_of o x.update.key) refl refl (held_but xs o p differs)
  where
    rest : List Held
    rest = without_object xs p

    by : (a b : Bool) → is_row_of p x.update.key ≡ a → is_row_of o x.update.key ≡ b → holds_object rest o ≡ holds_object xs o
        → holds_object (cond (not a) (x ∷ rest) rest) o ≡ (b || holds_object xs o)
    by true true e f later = let no : false ≡ true = sym (not_both o p differs x.update.key f) ∙ e in cc
    by true false e f later = later
    by false b e f later = ap (λ t. t || holds_object rest o) f ∙ ap (λ t. b || t) later

row_but : (rows : List Held) (o p : Oid) (attr : ℕ) → same_object o p ≡ false → row_held (without_object rows p) (RowOf o attr) ≡ row_held rows (RowOf o attr)
row_but rows o p attr differs = held_filtered (λ k. not (is_row_of p k)) rows (RowOf o attr) ∙ ap (λ b. cond (not b) (row_held rows (RowOf o attr)) None) differs

-- ---- objects removed

fewer_left : (os : List Oid) (rows : List Held) (o : Oid) → holds_object rows o ≡ false → holds_object (fold without_object rows os) o ≡ false
fewer_left [] rows o e = e
fewer_left (p ∷ os) rows o e = fewer_left os (without_object rows p) o (fewer_held rows o p e)

gone_left : (os : List Oid) (rows : List Held) (o : Oid) → is_among os o ≡ true → holds_object (fold without_object rows os) o ≡ false
gone_left [] rows o e = absurd (cc)
gone_left (p ∷ os) rows o e = by (same_object p o) refl e (gone_left os (without_object rows p) o)
  where
    by : (b : Bool) → same_object p o ≡ b → (b || is_among os o) ≡ true → (is_among os o ≡ true → holds_object (fold without_object (without_object rows p) os) o ≡ false)
        → holds_object (fold without_object (without_object rows p) os) o ≡ false
    by true f g later = fewer_left os (without_object rows p) o (ap (λ q. holds_object (without_object rows p) q) (sym (objects_tell p o f)) ∙ none_of rows p)
    by false f g later = later g

-- what the rows of an object tell, is told of two lists alike
record TellAlike (o : Oid) (rows others : List Held) : Type 0 where
  held : holds_object rows o ≡ holds_object others o
  row : (attr : ℕ) → row_held rows (RowOf o attr) ≡ row_held others (RowOf o attr)
  all : (test : Update → Bool) → all_of_object rows o test ≡ all_of_object others o test

alike_left : (os : List Oid) (rows : List Held) (o : Oid) → is_among os o ≡ false → TellAlike o (fold without_object rows os) rows
alike_left [] rows o e = record { held = refl; row = λ attr. refl; all = λ test. refl }
alike_left (p ∷ os) rows o e =
    let parts = or_parts (same_object p o) (is_among os o) e in
    let differs = turned o p ∙ parts.0 in
    let later = alike_left os (without_object rows p) o parts.1 in
    record {
      held = later.held ∙ held_but rows o p differs;
      row = λ attr. later.row attr ∙ row_but rows o p attr differs;
      all = λ test. later.all test ∙ all_but rows o p test differs;
    }

all_alike : (p q : ℕ → Bool) (xs : List ℕ) → ((n : ℕ) → p n ≡ q n) → list_all p xs ≡ list_all q xs
all_alike p q [] e = refl
all_alike p q (x ∷ xs) e = ap (λ b. b && list_all p xs) (e x) ∙ ap (λ b. q x && b) (all_alike p q xs e)

module _ (table : Table) (o : Oid) (rows others : List Held) (h : TellAlike o rows others) where
  alive_alike : (class : Option ℕ) → is_alive_formed table rows o class ≡ is_alive_formed table others o class
  alive_alike None = refl
  alive_alike (Some class) =
      ap (λ b. is_some (class_at table class) && (b && list_all (λ attr. is_some (row_held rows (RowOf o attr))) (must_of table class))) (h.all (fits_class table class))
      ∙ ap (λ b. is_some (class_at table class) && (all_of_object others o (fits_class table class) && b))
      (all_alike (λ attr. is_some (row_held rows (RowOf o attr))) (λ attr. is_some (row_held others (RowOf o attr))) (must_of table class) (λ attr. ap is_some (h.row attr)))

  by_alike : (b n d : Option Held) → is_formed_by table rows o b n d ≡ is_formed_by table others o b n d
  by_alike None n d = refl
  by_alike (Some b) None d = refl
  by_alike (Some b) (Some n) None = ap (λ t. is_birth o b.update && (says_allowed_name n.update.said && t)) (alive_alike (class_said b.update.said))
  by_alike (Some b) (Some n) (Some d) =
      ap (λ t. is_birth o b.update && (is_class_known table (class_said b.update.said) && (says_allowed_name n.update.said && (says_dead d.update.said && t)))) (h.all (λ u. is_reserved_row u.key))

  formed_alike : is_object_formed table rows o ≡ is_object_formed table others o
  formed_alike =
      by_alike (row_held rows (RowOf o class_attr)) (row_held rows (RowOf o name_attr)) (row_held rows (RowOf o deleted_attr))
      ∙ ap (λ b. is_formed_by table others o b (row_held rows (RowOf o name_attr)) (row_held rows (RowOf o deleted_attr))) (h.row class_attr)
      ∙ ap (λ n. is_formed_by table others o (row_held others (RowOf o class_attr)) n (row_held rows (RowOf o deleted_attr))) (h.row name_attr)
      ∙ ap (is_formed_by table others o (row_held others (RowOf o class_attr)) (row_held others (RowOf o name_attr))) (h.row deleted_attr)

  touched_alike : is_touched_formed table rows (Object o) ≡ (not (holds_object others o) || is_object_formed table others o)
  touched_alike = ap (λ b. not b || is_object_formed table rows o) h.held ∙ ap (λ b. not (holds_object others o) || b) formed_alike

-- ---- a touched unit

module _ (table : Table) (os : List Oid) (rows : List Held) (o : Oid) where
  -- an object that was removed isn't held
  pub removed_formed : is_among os o ≡ true → true ≡ is_touched_formed table (fold without_object rows os) (Object o)
  removed_formed e = sym (ap (λ b. not b || is_object_formed table (fold without_object rows os) o) (gone_left os rows o e))

  -- another one that wasn't held isn't either
  pub absent_formed : is_among os o ≡ false → holds_object rows o ≡ false → true ≡ is_touched_formed table (fold without_object rows os) (Object o)
  absent_formed e f = sym (touched_alike table o (fold without_object rows os) rows (alike_left os rows o e) ∙ ap (λ b. not b || is_object_formed table rows o) f)

  -- of another one that was held all rows are left
  pub left_formed : is_among os o ≡ false → holds_object rows o ≡ true → is_object_formed table rows o ≡ is_touched_formed table (fold without_object rows os) (Object o)
  left_formed e f = sym (touched_alike table o (fold without_object rows os) rows (alike_left os rows o e) ∙ ap (λ b. not b || is_object_formed table rows o) f)

-- links stay
link_row : (os : List Oid) (rows : List Held) (l : LinkKey) → row_held (fold without_object rows os) (LinkOf l) ≡ row_held rows (LinkOf l)
link_row [] rows l = refl
link_row (p ∷ os) rows l = link_row os (without_object rows p) l ∙ held_filtered (λ k. not (is_row_of p k)) rows (LinkOf l)

pub link_formed : (table : Table) (os : List Oid) (rows : List Held) (l : LinkKey) → (is_none (row_held rows (LinkOf l)) || is_forward (kind_at table l.attr)) ≡ is_touched_formed table (fold without_object rows os) (Link l)
link_formed table os rows l = ap (λ r. is_none r || is_forward (kind_at table l.attr)) (sym (link_row os rows l))

pub none_copied : (r : Option (Bor Held)) (b : Bool) → is_some r ≡ not b → is_none (option_copied r) ≡ b
none_copied None true e = refl
none_copied None false e = cc
none_copied (Some h) true e = cc
none_copied (Some h) false e = refl
