-- What becomes of slots where the rows of an object are put that stand at the front of others.
use Rattle.std.proofs.Common.{◌≡◌, ℕ, nat_eq, fold, List, [], ◌∷◌, Bool, true, false, cond, not, ◌&&◌, ◌||◌, Option, Some, None, inl, inr, refl, sym, ap, ◌∙◌, subst, arith}
use Rattle.std.specs.Prelude.{IsSome, is_some}
use Rattle.std.specs.List.{list_all, list_any}
use Rattle.std.specs.List.Sorted.{IsStrictlySortedBy}
use Rattle.std.specs.Map.{keys_of, lookup, set_value}
use Rattle.std.specs.Option.{is_none, unwrap_or}
use Rattle.std.specs.Ordering.{is_eq, match_ordering, nat_cmp}
use Rattle.std.specs.declared.cmp.Ordering.{Ordering}
use Rattle.std.specs.declared.cmp.Ordering.TheVariants.{Less, Equal, Greater}
use Rattle.std.specs.BTreeMap.{insert_entry, is_at}
use Rattle.std.specs.Cmp.{IsTotalOrder}
use Rattle.std.proofs.lemmas.Bool.Decides.{nat_tests}
use Rattle.std.proofs.lemmas.Cmp.{nat_cmp_total, tied_itself}
use Rattle.std.proofs.lemmas.Map.Keys.{sorted_tail}
use Rattle.std.proofs.lemmas.Map.Lookups.{exact_unsigned}
use Rattle.adr_values.specs.declared.stamp.Oid.{Oid}
use Rattle.adr_values.proofs.Comparing.{both_true}
use Rattle.adr_model.specs.Change.{killed_by}
use Rattle.adr_model.specs.Live.{born}
use Rattle.adr_model.specs.Member.{Each, Member}
use Rattle.adr_model.specs.Store.{Held, is_row_of}
use Rattle.adr_model.specs.Update.{Key, RowOf, LinkOf, class_attr}
use Rattle.adr_model.proofs.Keys.{equal_order}
use Rattle.adr_model.proofs.Members.{each_passes}
use Rattle.adr_update.proofs.Slots.{none_below}
use Rattle.adr_shelves.specs.declared.place.Place.{Place}
use Rattle.adr_shelves.specs.Place.{place_of, place_order, rows_start, seat_at}
use Rattle.adr_shelves.specs.Shelf.{HasOwn, with_own_held}
use Rattle.adr_shelves.specs.Shelves.{AreShelves, behind_front, entries_of, flat, front, is_life, with_held}
use Rattle.adr_shelves.proofs.Places.{places_total, proper_place}
use Rattle.adr_shelves.proofs.Entries.{Entries}
use Rattle.adr_shelves.proofs.Shelved.{Kept, Shelved}
use Rattle.adr_shelves.proofs.ShelvedFrees.{found_in, found_none, shelf_at}
use Rattle.adr_shelves.proofs.ShelvedObjects.{row_seat, rows_have}
use Rattle.adr_shelves.proofs.ShelvedWrites.{HaveNow, kept_as_is, kept_at, lookup_put, sorted_put}

-- ---- what is written where it is found

module _ {K X : Type 0} (order : K → K → Ordering) (total : IsTotalOrder order) (k : K) (v : X) where
  pub set_put : (w : X) (es : List (K × X)) → IsStrictlySortedBy order (keys_of es) → lookup (is_at (order k)) es ≡ Some w → set_value (is_at (order k)) es v ≡ insert_entry order es k v
  set_put w [] sorted there = cc
  set_put w (e ∷ es) sorted there = by (order k e.0) refl there (set_put w es (sorted_tail order e.0 (keys_of es) sorted))
    where
      by : (o : Ordering) → order k e.0 ≡ o → cond (is_eq o) (Some e.1) (lookup (is_at (order k)) es) ≡ Some w
          → (lookup (is_at (order k)) es ≡ Some w → set_value (is_at (order k)) es v ≡ insert_entry order es k v)
          → cond (is_eq o) ((e.0, v) ∷ es) (e ∷ set_value (is_at (order k)) es v) ≡ match_ordering o ((k, v) ∷ e ∷ es) ((e.0, v) ∷ es) (e ∷ insert_entry order es k v)
      by Less at is later = let wrong : None ≡ Some w = sym (none_below order total k e es sorted at) ∙ there in cc
      by Equal at is later = refl
      by Greater at is later = ap (λ xs. e ∷ xs) (later is)

-- ---- the items at the front

module _ {A : Type 0} (test : A → Bool) where
  front_more : (all later : List A) (x : A) → all ≡ x ∷ later → test x ≡ true → front test all ≡ x ∷ front test later
  front_more all later x is passes = ap (front test) is ∙ ap (λ b. cond b (x ∷ front test later) []) passes

  behind_more : (all later : List A) (x : A) → all ≡ x ∷ later → test x ≡ true → behind_front test all ≡ behind_front test later
  behind_more all later x is passes = ap (behind_front test) is ∙ ap (λ b. cond b (behind_front test later) (x ∷ later)) passes

  -- where there are none, all are behind
  behind_none : (xs : List A) → front test xs ≡ [] → behind_front test xs ≡ xs
  behind_none [] none = refl
  behind_none (x ∷ xs) none = by (test x) none
    where
      by : (b : Bool) → cond b (x ∷ front test xs) [] ≡ [] → cond b (behind_front test xs) (x ∷ xs) ≡ x ∷ xs
      by true wrong = cc
      by false n = refl

  -- what the test tells is true of each
  front_all : (told : A → Bool) → ((x : A) → test x ≡ true → told x ≡ true) → (xs : List A) → list_all told (front test xs) ≡ true
  front_all told tells [] = refl
  front_all told tells (x ∷ xs) = by (test x) refl (front_all told tells xs)
    where
      by : (b : Bool) → test x ≡ b → list_all told (front test xs) ≡ true → list_all told (cond b (x ∷ front test xs) []) ≡ true
      by true is later = ap (λ d. d && list_all told (front test xs)) (tells x is) ∙ later
      by false is later = refl

-- the rows of an object
life_own : (o : Oid) (h : Held) → is_life o h ≡ true → is_row_of o h.update.key ≡ true
life_own o h life = (both_true (is_row_of o h.update.key) (is_none (killed_by h.update.key)) life).0

lives_own : (o : Oid) (rows : List Held) → list_all (λ h. is_row_of o h.update.key) (front (is_life o) rows) ≡ true
lives_own o rows = front_all (is_life o) (λ h. is_row_of o h.update.key) (life_own o) rows

-- ---- slots of a shelf while rows are put

-- whether a class row is put where none is
abbrev pub class_comes : Kept → List Held → Bool
class_comes slots rows = not (is_some (flat (lookup (is_at (nat_cmp class_attr)) slots))) && list_any (λ h. is_some (born h.update.key)) rows

-- what is left to put leads to the same as all led to at first
pub record IsFilling (o : Oid) (first : Kept) (all : List Held) (slots : Kept) (rows : List Held) (came : Bool) : Type 0 where
  pub rising : IsStrictlySortedBy nat_cmp (keys_of slots)
  pub there : Each (HasOwn slots) (front (is_life o) rows)
  pub rest : behind_front (is_life o) rows ≡ behind_front (is_life o) all
  pub entries : fold with_own_held slots (front (is_life o) rows) ≡ fold with_own_held first (front (is_life o) all)
  pub comes : (came || class_comes slots (front (is_life o) rows)) ≡ class_comes first (front (is_life o) all)

at_is : (k a : ℕ) → is_at (nat_cmp k) a ≡ nat_eq a k
at_is k a = by (is_at (nat_cmp k) a) refl (nat_eq a k) refl
  where
    by : (b : Bool) → is_at (nat_cmp k) a ≡ b → (d : Bool) → nat_eq a k ≡ d → b ≡ d
    by true x true y = refl
    by true x false y =
        let same : k ≡ a = exact_unsigned k a (equal_order (nat_cmp k a) x) in grind (arith, nat_tests)
    by false x true y =
        let same : a ≡ k = grind (arith, nat_tests) in
        let wrong : false ≡ true = sym x ∙ ap (is_at (nat_cmp k)) same ∙ ap is_eq (tied_itself nat_cmp_total k) in cc
    by false x false y = refl

-- the class row of an object gives birth to it, and no other row does
born_is : (o : Oid) (k : Key) → is_row_of o k ≡ true → is_some (born k) ≡ nat_eq (place_of k).attr class_attr
born_is o (RowOf p a) own = by (nat_eq a class_attr)
  where
    by : (b : Bool) → is_some (cond b (Some p) None) ≡ b
    by true = refl
    by false = refl
born_is o (LinkOf l) own = cc

came_more : (came b full any was : Bool) → (b ≡ true → was ≡ full) → ((came || (b && not was)) || (not (cond b true full) && any)) ≡ (came || (not full && (b || any)))
came_more true b full any was same = refl
came_more false true true any true same = refl
came_more false true true any false same = let wrong = same refl in cc
came_more false true false any true same = let wrong = same refl in cc
came_more false true false any false same = refl
came_more false false full any was same = refl

module _ (o : Oid) (first : Kept) (all : List Held) (slots : Kept) (rows : List Held) (came : Bool) (filling : IsFilling o first all slots rows came)
    (h : Held) (later : List Held) (is : rows ≡ h ∷ later) (life : is_life o h ≡ true) where
  next : front (is_life o) rows ≡ h ∷ front (is_life o) later
  next = front_more (is_life o) rows later h is life

  pub next_there : HasOwn slots h
  next_there = filling.there h (subst (Member h) (sym next) (inl refl))

  looked_up : (q : ℕ) → lookup (is_at (nat_cmp q)) (with_own_held slots h) ≡ cond (is_at (nat_cmp q) (place_of h.update.key).attr) (Some (Some h)) (lookup (is_at (nat_cmp q)) slots)
  looked_up q = lookup_put nat_cmp nat_cmp_total exact_unsigned (place_of h.update.key).attr (Some h) q slots

  still_there : Each (HasOwn (with_own_held slots h)) (front (is_life o) later)
  still_there x m =
      ap is_some (looked_up (place_of x.update.key).attr)
      ∙ by (is_at (nat_cmp (place_of x.update.key).attr) (place_of h.update.key).attr) (filling.there x (subst (Member x) (sym next) (inr m)))
    where
      by : (b : Bool) → is_some (lookup (is_at (nat_cmp (place_of x.update.key).attr)) slots) ≡ true
          → is_some (cond b (Some (Some h)) (lookup (is_at (nat_cmp (place_of x.update.key).attr)) slots)) ≡ true
      by true there = refl
      by false there = there

  module _ (was : Bool) (told : was ≡ is_some (flat (lookup (is_at (nat_cmp (place_of h.update.key).attr)) slots))) where
    class_full : is_some (flat (lookup (is_at (nat_cmp class_attr)) (with_own_held slots h)))
        ≡ cond (nat_eq (place_of h.update.key).attr class_attr) true (is_some (flat (lookup (is_at (nat_cmp class_attr)) slots)))
    class_full =
        ap (λ w. is_some (flat w)) (looked_up class_attr)
        ∙ ap (λ b. is_some (flat (cond b (Some (Some h)) (lookup (is_at (nat_cmp class_attr)) slots)))) (at_is class_attr (place_of h.update.key).attr)
        ∙ by (nat_eq (place_of h.update.key).attr class_attr)
      where
        by : (b : Bool) → is_some (flat (cond b (Some (Some h)) (lookup (is_at (nat_cmp class_attr)) slots))) ≡ cond b true (is_some (flat (lookup (is_at (nat_cmp class_attr)) slots)))
        by true = refl
        by false = refl

    same_slot : nat_eq (place_of h.update.key).attr class_attr ≡ true → was ≡ is_some (flat (lookup (is_at (nat_cmp class_attr)) slots))
    same_slot at =
        let same : (place_of h.update.key).attr ≡ class_attr = grind (arith, nat_tests) in told ∙ ap (λ a. is_some (flat (lookup (is_at (nat_cmp a)) slots))) same

    comes_more : ((came || (nat_eq (place_of h.update.key).attr class_attr && not was)) || class_comes (with_own_held slots h) (front (is_life o) later)) ≡ class_comes first (front (is_life o) all)
    comes_more =
        let any : Bool = list_any (λ h. is_some (born h.update.key)) (front (is_life o) later) in
        let is_class : Bool = nat_eq (place_of h.update.key).attr class_attr in
        let before : Bool = is_some (flat (lookup (is_at (nat_cmp class_attr)) slots)) in
        ap (λ f. (came || (is_class && not was)) || (not f && any)) class_full
        ∙ came_more came is_class before any was same_slot
        ∙ sym (ap (λ b. came || (not before && (b || any))) (born_is o h.update.key (life_own o h life)))
        ∙ sym (ap (λ xs. came || class_comes slots xs) next)
        ∙ filling.comes

    filled_one : IsFilling o first all (with_own_held slots h) later (came || (nat_eq (place_of h.update.key).attr class_attr && not was))
    filled_one = record {
      rising = sorted_put nat_cmp (place_of h.update.key).attr (Some h) nat_cmp_total slots filling.rising;
      there = still_there;
      rest = sym (behind_more (is_life o) rows later h is life) ∙ filling.rest;
      entries = sym (ap (fold with_own_held slots) next) ∙ filling.entries;
      comes = comes_more;
    }

  -- one more row is put
  pub filled_more : (a : ℕ) → a ≡ (place_of h.update.key).attr → (new : Kept) → new ≡ insert_entry nat_cmp slots a (Some h) → (was : Bool) → was ≡ is_some (flat (lookup (is_at (nat_cmp a)) slots))
      → (comes : Bool) → comes ≡ (came || (nat_eq a class_attr && not was)) → IsFilling o first all new later comes
  filled_more a at new put was told comes so =
      let here : new ≡ with_own_held slots h = put ∙ ap (λ b. insert_entry nat_cmp slots b (Some h)) at in
      let told_here = told ∙ ap (λ b. is_some (flat (lookup (is_at (nat_cmp b)) slots))) at in
      let so_here : comes ≡ (came || (nat_eq (place_of h.update.key).attr class_attr && not was)) = so ∙ ap (λ b. came || (nat_eq b class_attr && not was)) at in
      subst (λ (s : Kept). IsFilling o first all s later comes) (sym here)
      (subst (λ (b : Bool). IsFilling o first all (with_own_held slots h) later b) (sym so_here) (filled_one was told_here))

-- whether one came, as it is found step by step
pub came_before : (came x : Bool) → came ≡ true → came ≡ (came || x)
came_before true x is = refl
came_before false x is = cc

pub comes_now : (came b x : Bool) → came ≡ false → b ≡ true → x ≡ (came || (b && x))
comes_now false true x is at = refl
comes_now true b x is at = cc
comes_now false false x is at = cc

pub comes_not : (came b x : Bool) → came ≡ false → b ≡ false → b ≡ (came || (b && x))
comes_not false false x is at = refl
comes_not true b x is at = cc
comes_not false true x is at = cc

-- all are put
module _ (o : Oid) (first : Kept) (all : List Held) (slots : Kept) (rows : List Held) (came : Bool) (filling : IsFilling o first all slots rows came) (none : front (is_life o) rows ≡ []) where
  pub all_behind : (left : List Held) → left ≡ rows → left ≡ behind_front (is_life o) all
  all_behind left is = is ∙ sym (behind_none (is_life o) rows none) ∙ filling.rest

  pub all_entries : slots ≡ fold with_own_held first (front (is_life o) all)
  all_entries = sym (ap (fold with_own_held slots) none) ∙ filling.entries

  pub all_came : came ≡ class_comes first (front (is_life o) all)
  all_came = by came (not (is_some (flat (lookup (is_at (nat_cmp class_attr)) slots)))) ∙ sym (ap (λ xs. came || class_comes slots xs) none) ∙ filling.comes
    where
      by : (c x : Bool) → c ≡ (c || (x && false))
      by true x = refl
      by false true = refl
      by false false = refl

-- ---- the shelves after the rows of an object were put

-- each row has a slot
abbrev pub HaveSlots : Entries → List Held → Type 0
HaveSlots es rows = Each (λ h. IsSome (lookup (is_at (place_order (place_of h.update.key))) es)) rows

pub record IsFilled (us new : Shelved) (o : Oid) (rows left : List Held) (came : Bool) : Type 0 where
  pub are : AreShelves new
  pub rest : left ≡ behind_front (is_life o) rows
  pub entries : entries_of new ≡ fold with_held (entries_of us) (front (is_life o) rows)
  pub comes : came ≡ (not (is_some (flat (lookup (is_at (place_order (place_of (RowOf o class_attr)))) (entries_of us)))) && list_any (λ h. is_some (born h.update.key)) (front (is_life o) rows))

module _ (us : Shelved) (are : AreShelves us) (o : Oid) (rows : List Held) (seat : Place) (at : seat ≡ rows_start o) where
  seat_found : (found : Option Kept) → found ≡ lookup (is_at (place_order seat)) us → lookup (is_at (place_order (rows_start o))) us ≡ found
  seat_found found is = ap (λ s. lookup (is_at (place_order s)) us) (sym at) ∙ sym is

  -- the seat of a row at the front
  seat_of : (h : Held) → Member h (front (is_life o) rows) → seat_at (place_of h.update.key) ≡ rows_start o
  seat_of h m = row_seat o h.update.key (each_passes (λ h. is_row_of o h.update.key) (front (is_life o) rows) (lives_own o rows) h m)

  module _ (slots : Kept) (there : Some slots ≡ lookup (is_at (place_order seat)) us) where
    found : lookup (is_at (place_order (rows_start o))) us ≡ Some slots
    found = seat_found (Some slots) there

    pub slots_rise : IsStrictlySortedBy nat_cmp (keys_of slots)
    slots_rise = (shelf_at us are.each (rows_start o) slots found).rising

    pub have_own : HaveSlots (entries_of us) (front (is_life o) rows) → Each (HasOwn slots) (front (is_life o) rows)
    have_own have h m =
        let here : lookup (is_at (place_order (seat_at (place_of h.update.key)))) us ≡ Some slots = ap (λ s. lookup (is_at (place_order s)) us) (seat_of h m) ∙ found in
        sym (ap is_some (found_in us are (place_of h.update.key) (proper_place h.update.key) slots here)) ∙ have h m

    pub new_filled : (new : Shelved) (kept : Kept) → kept ≡ fold with_own_held slots (front (is_life o) rows) → new ≡ set_value (is_at (place_order seat)) us kept
        → (left : List Held) → left ≡ behind_front (is_life o) rows → (came : Bool) → came ≡ class_comes slots (front (is_life o) rows) → IsFilled us new o rows left came
    new_filled new kept put is left rest came told =
        let made : Kept = fold with_own_held slots (front (is_life o) rows) in
        let shelf = shelf_at us are.each (rows_start o) slots found in
        let here : new ≡ insert_entry place_order us (rows_start o) made =
        is ∙ ap (λ s. set_value (is_at (place_order s)) us kept) at ∙ ap (set_value (is_at (place_order (rows_start o))) us) put
        ∙ set_put place_order places_total (rows_start o) made slots us are.ordered found
        in
        let same : kept_at us (rows_start o) ≡ slots = ap (λ (w : Option Kept). unwrap_or w []) found in
        let have : HaveNow new (fold with_held (entries_of us) (front (is_life o) rows)) =
        rows_have (λ h. h.update.key) (λ h w. Some h) us are o (front (is_life o) rows) (lives_own o rows) slots shelf new here
        (entries_of us) (sym (ap (λ (k : Kept). entries_of (insert_entry place_order us (rows_start o) k)) same) ∙ kept_as_is us are.ordered (rows_start o))
        in
        record {
          are = have.are;
          rest = rest;
          entries = have.entries;
          comes =
              told
              ∙ sym (ap (λ w. not (is_some (flat w)) && list_any (λ h. is_some (born h.update.key)) (front (is_life o) rows)) (found_in us are (place_of (RowOf o class_attr)) refl slots found));
        }

  -- without a shelf there is no row at the front
  module _ (nowhere : None ≡ lookup (is_at (place_order seat)) us) (have : HaveSlots (entries_of us) (front (is_life o) rows)) where
    none_front : front (is_life o) rows ≡ []
    none_front = by (front (is_life o) rows) have seat_of
      where
        by : (xs : List Held) → HaveSlots (entries_of us) xs → ((h : Held) → Member h xs → seat_at (place_of h.update.key) ≡ rows_start o) → xs ≡ []
        by [] slots seats = refl
        by (h ∷ xs) slots seats =
            let none = found_none us are (place_of h.update.key) (proper_place h.update.key) (ap (λ s. lookup (is_at (place_order s)) us) (seats h (inl refl)) ∙ seat_found None nowhere) in
            let wrong : false ≡ true = sym (ap is_some none) ∙ slots h (inl refl) in cc

    pub none_filled : (new : Shelved) → new ≡ us → (left : List Held) → left ≡ rows → (came : Bool) → came ≡ false → IsFilled us new o rows left came
    none_filled new is left all came told =
        let slot : Option (Option Held) = lookup (is_at (place_order (place_of (RowOf o class_attr)))) (entries_of us) in
        record {
          are = subst AreShelves (sym is) are;
          rest = all ∙ sym (behind_none (is_life o) rows none_front);
          entries = ap entries_of is ∙ sym (ap (fold with_held (entries_of us)) none_front);
          comes = told ∙ by (not (is_some (flat slot))) ∙ sym (ap (λ xs. not (is_some (flat slot)) && list_any (λ h. is_some (born h.update.key)) xs) none_front);
        }
      where
        by : (b : Bool) → false ≡ (b && false)
        by true = refl
        by false = refl
