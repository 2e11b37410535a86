-- What becomes of slots and rows where rows of one object are put.
use Rattle.std.proofs.Common.{◌≡◌, refl, sym, ap, ◌∙◌, subst, ⊎_elim, inl, inr, arith, ℕ, ◌<◌, ◌≤◌, length, List, [], ◌∷◌, ◌++◌, Bool, true, false, cond, not, ◌&&◌, ◌||◌, ◌==◌, Option, Some, None, fold, get_or, if◌then◌else◌}
use Rattle.std.specs.Prelude.{IsSome, is_some}
use Rattle.std.specs.List.{list_any}
use Rattle.std.specs.Map.{keys_of, lookup}
use Rattle.std.specs.Option.{is_none}
use Rattle.std.specs.BTreeMap.{insert_entry, is_at}
use Rattle.std.specs.BTreeSet.{BTreeSet}
use Rattle.std.specs.Ordering.{is_eq}
use Rattle.std.proofs.lemmas.Bool.{and_parts, and_right}
use Rattle.std.proofs.lemmas.Bool.Decides.{nat_tests}
use Rattle.std.proofs.lemmas.Cmp.{tied_itself}
use Rattle.std.proofs.lemmas.List.Sums.{fold-append}
use Rattle.adr_values.specs.declared.stamp.LinkKey.{LinkKey}
use Rattle.adr_values.specs.declared.stamp.Oid.{Oid}
use Rattle.adr_values.specs.Order.{object_order}
use Rattle.adr_values.proofs.ExactOrders.{exact_objects}
use Rattle.adr_model.proofs.Keys.{equal_order}
use Rattle.adr_model.proofs.Members.{member_left, member_right}
use Rattle.adr_model.specs.Change.{killed_by, put, stripped}
use Rattle.adr_model.specs.Live.{born}
use Rattle.adr_model.specs.Member.{Each, Member}
use Rattle.adr_model.specs.Store.{Held, is_row_of, with_row}
use Rattle.adr_model.specs.Update.{Key, RowOf, LinkOf, class_attr}
use Rattle.adr_law_knowledge.proofs.RisingHeld.{of_with_row}
use Rattle.adr_shelves.specs.declared.place.Place.{Place}
use Rattle.adr_shelves.specs.Place.{is_of_class, is_of_link, place_of, place_order}
use Rattle.adr_shelves.specs.Shelves.{behind_front, flat, front, is_life, one_more_if, tally, with_held}
use Rattle.adr_shelves.proofs.Entries.{AreSorted, Entries}
use Rattle.adr_shelves.proofs.Places.{exact_places, places_total, same_place}
use Rattle.adr_shelves.proofs.ShelvedWrites.{sorted_put as sorted_with}
use Rattle.adr_table.specs.declared.slots.Slots.{Slots}
use Rattle.adr_table.specs.Slots.{AreAtHome, rows_seen, seen}
use Rattle.adr_table.specs.Deaths.{AreListed, IsListed}
use Rattle.adr_table.proofs.Births.{class_place}
use Rattle.adr_table.proofs.Counts.{put_count}
use Rattle.adr_table.proofs.Listed.{none_killed}
use Rattle.adr_table.proofs.Seen.{home_still, put_found, put_keys, written}

-- slots with one more stay in order
pub sorted_put : (es : Entries) (p : Place) (v : Option Held) → AreSorted es → AreSorted (insert_entry place_order es p v)
sorted_put es p v sorted = sorted_with place_order p v places_total es sorted

-- ---- the rows of an object

module _ (o : Oid) where
  own_key : (k : Key) → is_row_of o k ≡ true → (a : ℕ) × (k ≡ RowOf o a)
  own_key (RowOf p a) own = (a, ap (λ q. RowOf q a) (exact_objects p o (equal_order (object_order p o) own)))
  own_key (LinkOf l) own = cc

  abbrev pub has_class : Entries → Bool
  has_class es = is_some (flat (lookup (is_at (place_order (place_of (RowOf o class_attr)))) es))

  -- a row of the object stands at the place of its class where it gives birth
  at_class : (k : Key) → is_row_of o k ≡ true → is_at (place_order (place_of k)) (place_of (RowOf o class_attr)) ≡ is_some (born k)
  at_class k own = let t = own_key k own in subst (λ j. is_at (place_order (place_of j)) (place_of (RowOf o class_attr)) ≡ is_some (born j)) (sym t.1) (by t.0 (t.0 == class_attr) refl)
    where
      same : (a : ℕ) → (a == class_attr) ≡ true → a ≡ class_attr
      same a t = grind (arith, nat_tests)

      apart : (a : ℕ) → (a == class_attr) ≡ false → (t : Bool) → is_at (place_order (place_of (RowOf o a))) (place_of (RowOf o class_attr)) ≡ t → t ≡ false
      apart a out false at = refl
      apart a out true at =
          let one : RowOf o a ≡ RowOf o class_attr = same_place (RowOf o a) (RowOf o class_attr) at in
          let attr : a ≡ class_attr = cc in
          let wrong : true ≡ false = sym (ap (λ b. b == class_attr) attr) ∙ out in cc

      by : (a : ℕ) (b : Bool) → (a == class_attr) ≡ b → is_at (place_order (place_of (RowOf o a))) (place_of (RowOf o class_attr)) ≡ is_some (if b then Some o else None)
      by a true is =
          ap (λ b. is_at (place_order (place_of (RowOf o b))) (place_of (RowOf o class_attr))) (same a is)
          ∙ ap is_eq (tied_itself places_total (place_of (RowOf o class_attr)))
      by a false is = apart a is (is_at (place_order (place_of (RowOf o a))) (place_of (RowOf o class_attr))) refl

-- ---- rows are put, one after the other

put_sorted : (hs : List Held) (es : Entries) → AreSorted es → AreSorted (fold with_held es hs)
put_sorted [] es sorted = sorted
put_sorted (h ∷ hs) es sorted = put_sorted hs (with_held es h) (sorted_put es (place_of h.update.key) (Some h) sorted)

put_home : (hs : List Held) (es : Entries) → AreAtHome es → AreAtHome (fold with_held es hs)
put_home [] es home = home
put_home (h ∷ hs) es home = put_home hs (with_held es h) (home_still es (place_of h.update.key) (Some h) refl home)

put_seen : (hs : List Held) (es : Entries) → AreSorted es → AreAtHome es → seen (fold with_held es hs) ≡ fold with_row (seen es) hs
put_seen [] es sorted home = refl
put_seen (h ∷ hs) es sorted home =
    put_seen hs (with_held es h) (sorted_put es (place_of h.update.key) (Some h) sorted) (home_still es (place_of h.update.key) (Some h) refl home)
    ∙ ap (λ rows. fold with_row rows hs) (written es h sorted home)

-- what is found where none of them stands stays
put_apart : (q : Place) (hs : List Held) (es : Entries) → Each (λ x. is_at (place_order (place_of x.update.key)) q ≡ false) hs
    → lookup (is_at (place_order q)) (fold with_held es hs) ≡ lookup (is_at (place_order q)) es
put_apart q [] es apart = refl
put_apart q (h ∷ hs) es apart =
    put_apart q hs (with_held es h) (λ x m. apart x (inr m))
    ∙ put_found es (place_of h.update.key) q (Some h)
    ∙ ap (λ b. cond b (Some (Some h)) (lookup (is_at (place_order q)) es)) (apart h (inl refl))

-- a row counts where none was
counted : (kind : Place → Bool) (h : Held) (es : Entries) → AreSorted es
    → tally kind (with_held es h) ≡ one_more_if (not (is_some (flat (lookup (is_at (place_order (place_of h.update.key))) es))) && kind (place_of h.update.key)) (tally kind es)
counted kind h es sorted =
    put_count kind es (with_held es h) (place_of h.update.key) h refl sorted
    (not (is_some (flat (lookup (is_at (place_order (place_of h.update.key))) es))) && kind (place_of h.update.key)) refl (tally kind es) refl

-- rows at places of another kind leave the count
put_uncounted : (kind : Place → Bool) (hs : List Held) (es : Entries) → AreSorted es → Each (λ x. kind (place_of x.update.key) ≡ false) hs → tally kind (fold with_held es hs) ≡ tally kind es
put_uncounted kind [] es sorted other = refl
put_uncounted kind (h ∷ hs) es sorted other =
    put_uncounted kind hs (with_held es h) (sorted_put es (place_of h.update.key) (Some h) sorted) (λ x m. other x (inr m))
    ∙ counted kind h es sorted
    ∙ ap (λ b. one_more_if b (tally kind es)) (and_right (not (is_some (flat (lookup (is_at (place_order (place_of h.update.key))) es)))) (kind (place_of h.update.key)) (other h (inl refl)))

-- of the rows of one object only the first class row counts, and none where one was
module _ (o : Oid) where
  class_there : (h : Held) (es : Entries) → is_row_of o h.update.key ≡ true → has_class o (with_held es h) ≡ (is_some (born h.update.key) || has_class o es)
  class_there h es own =
      ap (λ v. is_some (flat v)) (put_found es (place_of h.update.key) (place_of (RowOf o class_attr)) (Some h))
      ∙ by (is_at (place_order (place_of h.update.key)) (place_of (RowOf o class_attr))) (lookup (is_at (place_order (place_of (RowOf o class_attr)))) es)
      ∙ ap (λ b. b || is_some (flat (lookup (is_at (place_order (place_of (RowOf o class_attr)))) es))) (at_class o h.update.key own)
    where
      by : (b : Bool) (old : Option (Option Held)) → is_some (flat (cond b (Some (Some h)) old)) ≡ (b || is_some (flat old))
      by true old = refl
      by false old = refl

  class_counted : (h : Held) (es : Entries) → AreSorted es → is_row_of o h.update.key ≡ true
      → tally is_of_class (with_held es h) ≡ one_more_if (not (has_class o es) && is_some (born h.update.key)) (tally is_of_class es)
  class_counted h es sorted own =
      counted is_of_class h es sorted
      ∙ ap (λ b. one_more_if b (tally is_of_class es)) (ap (λ b. not (was (place_of h.update.key)) && b) (class_place h.update.key) ∙ by (is_some (born h.update.key)) (at_class o h.update.key own))
    where
      was : Place → Bool
      was p = is_some (flat (lookup (is_at (place_order p)) es))

      by : (b : Bool) → is_at (place_order (place_of h.update.key)) (place_of (RowOf o class_attr)) ≡ b → (not (was (place_of h.update.key)) && b) ≡ (not (was (place_of (RowOf o class_attr))) && b)
      by true at = ap (λ p. not (was p) && true) (exact_places (place_of h.update.key) (place_of (RowOf o class_attr)) (equal_order (place_order (place_of h.update.key) (place_of (RowOf o class_attr))) at))
      by false at = and_right (not (was (place_of h.update.key))) false refl ∙ sym (and_right (not (was (place_of (RowOf o class_attr)))) false refl)

  put_counted : (hs : List Held) (es : Entries) → AreSorted es → Each (λ x. is_row_of o x.update.key ≡ true) hs
      → tally is_of_class (fold with_held es hs) ≡ one_more_if (not (has_class o es) && list_any (λ x. is_some (born x.update.key)) hs) (tally is_of_class es)
  put_counted [] es sorted own = sym (ap (λ b. one_more_if b (tally is_of_class es)) (and_right (not (has_class o es)) false refl))
  put_counted (h ∷ hs) es sorted own =
      put_counted hs (with_held es h) (sorted_put es (place_of h.update.key) (Some h) sorted) (λ x m. own x (inr m))
      ∙ ap (λ b. one_more_if (not b && list_any (λ x. is_some (born x.update.key)) hs) (tally is_of_class (with_held es h))) (class_there h es (own h (inl refl)))
      ∙ ap (one_more_if (not (is_some (born h.update.key) || has_class o es) && list_any (λ x. is_some (born x.update.key)) hs)) (class_counted h es sorted (own h (inl refl)))
      ∙ by (is_some (born h.update.key)) (has_class o es) (list_any (λ x. is_some (born x.update.key)) hs) (tally is_of_class es)
    where
      by : (here was later : Bool) (n : ℕ) → one_more_if (not (here || was) && later) (one_more_if (not was && here) n) ≡ one_more_if (not was && (here || later)) n
      by true true later n = refl
      by true false later n = refl
      by false true later n = refl
      by false false later n = refl

-- where each has a slot, the places stay
still_there : (es : Entries) (p q : Place) (v : Option Held) → IsSome (lookup (is_at (place_order q)) es) → IsSome (lookup (is_at (place_order q)) (insert_entry place_order es p v))
still_there es p q v some = subst IsSome (sym (put_found es p q v)) (by (is_at (place_order p) q))
  where
    by : (b : Bool) → IsSome (cond b (Some v) (lookup (is_at (place_order q)) es))
    by true = refl
    by false = some

puts_keys : (hs : List Held) (es : Entries) → AreSorted es → Each (λ h. IsSome (lookup (is_at (place_order (place_of h.update.key))) es)) hs → keys_of (fold with_held es hs) ≡ keys_of es
puts_keys [] es sorted some = refl
puts_keys (h ∷ hs) es sorted some =
    puts_keys hs (with_held es h) (sorted_put es (place_of h.update.key) (Some h) sorted)
    (λ x m. still_there es (place_of h.update.key) (place_of x.update.key) (Some h) (some x (inr m)))
    ∙ put_keys es (place_of h.update.key) (Some h) sorted (some h (inl refl))

-- ---- all slots, once rows of an object are put

pub record AreFilled (o : Oid) (hs : List Held) (es new : Entries) : Type 0 where
  pub rows : seen new ≡ fold with_row (seen es) hs
  pub home : AreAtHome new
  pub objects : tally is_of_class new ≡ one_more_if (not (has_class o es) && list_any (λ h. is_some (born h.update.key)) hs) (tally is_of_class es)
  pub links : tally is_of_link new ≡ tally is_of_link es
  pub same : (l : LinkKey) → flat (lookup (is_at (place_order (place_of (LinkOf l)))) new) ≡ flat (lookup (is_at (place_order (place_of (LinkOf l)))) es)

pub filled : (o : Oid) (hs : List Held) (es new : Entries) → AreSorted es → AreAtHome es → Each (λ h. is_row_of o h.update.key ≡ true) hs → new ≡ fold with_held es hs → AreFilled o hs es new
filled o hs es new sorted home own is = record {
  rows = ap seen is ∙ put_seen hs es sorted home;
  home = subst AreAtHome (sym is) (put_home hs es home);
  objects = ap (tally is_of_class) is ∙ put_counted o hs es sorted own;
  links = ap (tally is_of_link) is ∙ put_uncounted is_of_link hs es sorted (λ h m. ap (λ k. is_of_link (place_of k)) (own_key o h.update.key (own h m)).1);
  same = λ l. ap (λ (xs : Entries). flat (lookup (is_at (place_order (place_of (LinkOf l)))) xs)) is
      ∙ ap flat (put_apart (place_of (LinkOf l)) hs es (λ h m. ap (λ k. is_at (place_order (place_of k)) (place_of (LinkOf l))) (own_key o h.update.key (own h m)).1));
}

pub filled_keys : (hs : List Held) (es new : Entries) → AreSorted es → Each (λ h. IsSome (lookup (is_at (place_order (place_of h.update.key))) es)) hs → new ≡ fold with_held es hs → keys_of new ≡ keys_of es
filled_keys hs es new sorted some is = ap keys_of is ∙ puts_keys hs es sorted some

-- how many objects there are, by the count before
pub filled_count : {o : Oid} {hs : List Held} {es new : Entries} → AreFilled o hs es new
    → (b : Bool) → b ≡ (not (has_class o es) && list_any (λ h. is_some (born h.update.key)) hs) → (n : ℕ) → n ≡ tally is_of_class es → tally is_of_class new ≡ one_more_if b n
filled_count {es = es} are b came n count = are.objects ∙ ap (λ c. one_more_if c (tally is_of_class es)) (sym came) ∙ ap (one_more_if b) (sym count)

-- ---- the items at the front of a list

module _ {A : Type 0} (test : A → Bool) where
  pub front_passes : (xs : List A) → Each (λ x. test x ≡ true) (front test xs)
  front_passes [] = λ x m. absurd m
  front_passes (y ∷ ys) = by (test y) refl (front_passes ys)
    where
      by : (b : Bool) → test y ≡ b → Each (λ x. test x ≡ true) (front test ys) → Each (λ x. test x ≡ true) (cond b (y ∷ front test ys) [])
      by true is later x (inl e) = ap test e ∙ is
      by true is later x (inr m) = later x m
      by false is later x m = absurd m

  front_first : (xs : List A) → front test xs ++ behind_front test xs ≡ xs
  front_first [] = refl
  front_first (y ∷ ys) = by (test y) (front_first ys)
    where
      by : (b : Bool) → front test ys ++ behind_front test ys ≡ ys → cond b (y ∷ front test ys) [] ++ cond b (behind_front test ys) (y ∷ ys) ≡ y ∷ ys
      by true later = ap (λ zs. y ∷ zs) later
      by false later = refl

  behind_within : (xs : List A) → length (behind_front test xs) ≤ length xs
  behind_within [] = omega arith
  behind_within (y ∷ ys) = by (test y) (behind_within ys)
    where
      by : (b : Bool) → length (behind_front test ys) ≤ length ys → length (cond b (behind_front test ys) (y ∷ ys)) ≤ length (y ∷ ys)
      by true later = omega (arith, later)
      by false later = omega arith

  pub behind_fewer : (xs : List A) → (front test xs ≡ [] → ⊥) → length (behind_front test xs) < length xs
  behind_fewer [] some = absurd (some refl)
  behind_fewer (y ∷ ys) some = by (test y) some
    where
      by : (b : Bool) → (cond b (y ∷ front test ys) [] ≡ [] → ⊥) → length (cond b (behind_front test ys) (y ∷ ys)) < length (y ∷ ys)
      by true any = omega (arith, behind_within ys)
      by false any = absurd (any refl)

  -- what holds of all holds of both parts
  pub each_front : (P : A → Type 0) (xs : List A) → Each P xs → Each P (front test xs)
  each_front P xs each x m = each x (subst (Member x) (front_first xs) (member_left (front test xs) (behind_front test xs) x m))

  pub each_behind : (P : A → Type 0) (xs : List A) → Each P xs → Each P (behind_front test xs)
  each_behind P xs each x m = each x (subst (Member x) (front_first xs) (member_right (front test xs) (behind_front test xs) x m))

-- ---- rows of a table

-- what holds of the old rows and of the new ones holds of all
each_put : (P : Held → Type 0) (rows new : List Held) → Each P rows → Each P new → Each P (fold with_row rows new)
each_put P rows [] old own = old
each_put P rows (h ∷ hs) old own =
    each_put P (with_row rows h) hs (λ x m. ⊎_elim (λ e. subst P (sym e) (own h (inl refl))) (λ n. old x n) (of_with_row rows h x m)) (λ x m. own x (inr m))

pub each_filled : (old new : Slots) (P : Held → Type 0) (hs : List Held) → Each P (rows_seen old) → Each P hs → rows_seen new ≡ fold with_row (rows_seen old) hs → Each P (rows_seen new)
each_filled old new P hs each own put = subst (Each P) (sym put) (each_put P (rows_seen old) hs each own)

-- rows of an object, none of which is a death

pub life_parts : (o : Oid) (h : Held) → is_life o h ≡ true → (is_row_of o h.update.key ≡ true) × (killed_by h.update.key ≡ None)
life_parts o h is = let t = and_parts (is_row_of o h.update.key) (is_none (killed_by h.update.key)) is in (t.0, by (killed_by h.update.key) t.1)
  where
    by : (r : Option Oid) → is_none r ≡ true → r ≡ None
    by None none = refl
    by (Some p) none = cc

-- those at the front are its rows
pub front_lives : (o : Oid) (hs : List Held) → Each (λ h. is_row_of o h.update.key ≡ true) (front (is_life o) hs)
front_lives o hs h m = (life_parts o h (front_passes (is_life o) hs h m)).0

-- and some are where the first row is one
pub life_first : (o : Oid) (hs : List Held) (h : Held) → 0 < length hs → h ≡ get_or hs 0 h → is_life o h ≡ true → front (is_life o) hs ≡ [] → ⊥
life_first o [] h some first life bare = omega (arith, some)
life_first o (x ∷ xs) h some first life bare =
    let wrong : x ∷ front (is_life o) xs ≡ [] = sym (ap (λ b. cond b (x ∷ front (is_life o) xs) []) (ap (is_life o) (sym first) ∙ life)) ∙ bare in cc

-- they take no other rows with them
pub lives_put : (o : Oid) (hs rows : List Held) → Each (λ h. is_life o h ≡ true) hs → fold with_row rows hs ≡ fold put rows hs
lives_put o [] rows lives = refl
lives_put o (h ∷ hs) rows lives =
    lives_put o hs (with_row rows h) (λ x m. lives x (inr m)) ∙ ap (λ r. fold put (stripped r (with_row rows h)) hs) (sym (life_parts o h (lives h (inl refl))).1)

-- and have nothing to be listed, so all is listed that was
pub lives_listed : (o : Oid) (hs : List Held) (old new : Slots) (dead : BTreeSet Oid) → Each (λ h. is_life o h ≡ true) hs → AreListed old dead
    → rows_seen new ≡ fold with_row (rows_seen old) hs → AreListed new dead
lives_listed o hs old new dead lives listed put =
    each_filled old new (λ h. IsListed dead h.update.key) hs listed (λ h m. none_killed dead h.update.key (life_parts o h (lives h m)).1) put

-- those at the front are put, and then the others
pub front_put : (o : Oid) (hs rows : List Held) → fold put (fold with_row rows (front (is_life o) hs)) (behind_front (is_life o) hs) ≡ fold put rows hs
front_put o hs rows =
    ap (λ xs. fold put xs (behind_front (is_life o) hs)) (lives_put o (front (is_life o) hs) rows (front_passes (is_life o) hs))
    ∙ sym (fold-append put rows (front (is_life o) hs) (behind_front (is_life o) hs))
    ∙ ap (fold put rows) (front_first (is_life o) hs)
