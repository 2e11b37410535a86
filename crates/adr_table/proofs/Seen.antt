-- What is seen of slots that are looked up, made and written.
use Rattle.std.proofs.Common.{◌≡◌, List, [], ◌∷◌, Bool, true, false, cond, Option, Some, None, Bor, refl, sym, ap, ◌∙◌, subst}
use Rattle.std.specs.Option.{option_copied}
use Rattle.std.specs.Prelude.{IfSome, IsSome, is_some, unwrap_or}
use Rattle.std.specs.List.{cons_option, AllByRecursion}
use Rattle.std.specs.Map.{keys_of, lookup, set_value}
use Rattle.std.specs.BTreeMap.{insert_entry, is_at}
use Rattle.std.specs.Ordering.{is_eq, match_ordering}
use Rattle.std.specs.declared.cmp.Ordering.{Ordering}
use Rattle.std.specs.declared.cmp.Ordering.TheVariants.{Less, Equal, Greater}
use Rattle.std.proofs.lemmas.Cmp.{eq_by_cmp_equiv, tied_itself}
use Rattle.std.proofs.lemmas.Map.Keys.{sorted_head, sorted_tail}
use Rattle.adr_model.specs.Update.{Key, key_order, same_key}
use Rattle.adr_model.proofs.Keys.{equal_order}
use Rattle.adr_model.specs.Store.{Held, row_held, with_row}
use Rattle.adr_update.proofs.Slots.{found as at_home_found, emptied_home as still_emptied, home_still as still_at_home, later_none as none_later, made as unseen_made, none_below as none_under, slot_made as made_or_there, still_some}
use Rattle.adr_shelves.proofs.Entries.{AreSorted, Entries}
use Rattle.adr_shelves.specs.declared.place.Place.{Place}
use Rattle.adr_shelves.specs.Place.{place_of, place_order}
use Rattle.adr_shelves.specs.Shelves.{flat}
use Rattle.adr_table.specs.Slots.{seen, AreAtHome}
use Rattle.adr_shelves.proofs.Places.{places_total, exact_places, order_is}

abbrev pub IsAt : Place → Option Held → Type 0
IsAt p o = IfSome o (λ h. place_of h.update.key ≡ p)

-- ---- look-ups

tests_alike : (h : Held) (key : Key) (p : Place) → place_of h.update.key ≡ p → same_key h.update.key key ≡ is_at (place_order (place_of key)) p
tests_alike h key p home =
    ap is_eq (sym (order_is h.update.key key))
    ∙ (eq_by_cmp_equiv places_total).symm (place_of h.update.key) (place_of key)
    ∙ ap (λ q. is_eq (place_order (place_of key) q)) home

pub later_none : (p : Place) (e : Place × Option Held) (es : Entries) → AreSorted (e ∷ es) → is_at (place_order p) e.0 ≡ true → lookup (is_at (place_order p)) es ≡ None
later_none p e es sorted at = none_later place_order places_total p e es sorted at

pub none_below : (e : Place × Option Held) (es : Entries) (p : Place) → AreSorted (e ∷ es) → place_order p e.0 ≡ Less → lookup (is_at (place_order p)) (e ∷ es) ≡ None
none_below e es p sorted less = none_under place_order places_total p e es sorted less

pub found : (es : Entries) (key : Key) → AreSorted es → AreAtHome es → flat (lookup (is_at (place_order (place_of key))) es) ≡ row_held (seen es) key
found es key sorted home =
    at_home_found place_order IsAt AreAtHome (λ e es at rest. (at, rest)) (λ e es h. h) places_total flat refl (λ o. refl)
    (place_of key) (λ xs. row_held (seen xs) key) refl (λ p xs. refl)
    (λ p h xs at. ap (λ b. cond b (Some h) (row_held (seen xs) key)) (tests_alike h key p at)) es sorted home

-- ---- a new slot

pub made : (es : Entries) (p : Place) → lookup (is_at (place_order p)) es ≡ None → seen (insert_entry place_order es p None) ≡ seen es
made = unseen_made place_order seen (λ p es. refl) (λ e es fs is. ap (λ hs. cons_option e.1 hs) is)

pub home_still : (es : Entries) (p : Place) (v : Option Held) → IfSome v (λ h. place_of h.update.key ≡ p) → AreAtHome es → AreAtHome (insert_entry place_order es p v)
home_still = still_at_home place_order IsAt AreAtHome (λ e es at rest. (at, rest)) (λ e es h. h) exact_places

-- ---- a slot emptied

pub emptied_home : (es : Entries) (p : Place) → AreAtHome es → AreAtHome (set_value (is_at (place_order p)) es None)
emptied_home = still_emptied place_order IsAt AreAtHome (λ e es at rest. (at, rest)) (λ e es h. h) (λ p. tt)

-- ---- a row written

-- a row below all places comes first
first : (es : Entries) (h : Held) → AllByRecursion (λ q. place_order (place_of h.update.key) q ≡ Less) (keys_of es) → AreAtHome es → with_row (seen es) h ≡ h ∷ seen es
first [] h below home = refl
first (e ∷ es) h below home = by e.1 home.0 (first es h below.1 home.1)
  where
    by : (o : Option Held) → IfSome o (λ x. place_of x.update.key ≡ e.0) → with_row (seen es) h ≡ h ∷ seen es → with_row (cons_option o (seen es)) h ≡ h ∷ cons_option o (seen es)
    by None at later = later
    by (Some x) at later =
        let less : key_order h.update.key x.update.key ≡ Less = sym (order_is h.update.key x.update.key) ∙ ap (place_order (place_of h.update.key)) at ∙ below.0 in
        ap (λ o. match_ordering o (h ∷ x ∷ seen es) (h ∷ seen es) (x ∷ with_row (seen es) h)) less

below_all : (p q : Place) (ps : List Place) → place_order p q ≡ Less → AllByRecursion (λ r. place_order q r ≡ Less) ps → AllByRecursion (λ r. place_order p r ≡ Less) ps
below_all p q [] less b = tt
below_all p q (r ∷ rs) less b = (places_total.trans p q r less b.0, below_all p q rs less b.1)

pub written : (es : Entries) (h : Held) → AreSorted es → AreAtHome es → seen (insert_entry place_order es (place_of h.update.key) (Some h)) ≡ with_row (seen es) h
written [] h sorted home = refl
written (e ∷ es) h sorted home = by (place_order (place_of h.update.key) e.0) refl (written es h (sorted_tail place_order e.0 (keys_of es) sorted) home.1)
  where
    p : Place
    p = place_of h.update.key

    head : AllByRecursion (λ r. place_order e.0 r ≡ Less) (keys_of es)
    head = sorted_head place_order e.0 (keys_of es) sorted

    -- at a slot of the row's place, or behind one below it
    here : (o : Option Held) → IfSome o (λ x. place_of x.update.key ≡ e.0) → place_order p e.0 ≡ Equal → h ∷ seen es ≡ with_row (cons_option o (seen es)) h
    here None at is = sym (first es h (subst (λ q. AllByRecursion (λ r. place_order q r ≡ Less) (keys_of es)) (sym (exact_places p e.0 is)) head) home.1)
    here (Some x) at is =
        let same : key_order h.update.key x.update.key ≡ Equal = sym (order_is h.update.key x.update.key) ∙ ap (place_order p) at ∙ is in
        sym (ap (λ o. match_ordering o (h ∷ x ∷ seen es) (h ∷ seen es) (x ∷ with_row (seen es) h)) same)

    behind : (o : Option Held) → IfSome o (λ x. place_of x.update.key ≡ e.0) → place_order p e.0 ≡ Greater → cons_option o (with_row (seen es) h) ≡ with_row (cons_option o (seen es)) h
    behind None at is = refl
    behind (Some x) at is =
        let more : key_order h.update.key x.update.key ≡ Greater = sym (order_is h.update.key x.update.key) ∙ ap (place_order p) at ∙ is in
        sym (ap (λ o. match_ordering o (h ∷ x ∷ seen es) (h ∷ seen es) (x ∷ with_row (seen es) h)) more)

    by : (o : Ordering) → place_order p e.0 ≡ o → seen (insert_entry place_order es p (Some h)) ≡ with_row (seen es) h
        → seen (match_ordering o ((p, Some h) ∷ e ∷ es) ((e.0, Some h) ∷ es) (e ∷ insert_entry place_order es p (Some h))) ≡ with_row (seen (e ∷ es)) h
    by Less is later = sym (first (e ∷ es) h (is, below_all p e.0 (keys_of es) is head) home)
    by Equal is later = here e.1 home.0 is
    by Greater is later = ap (λ hs. cons_option e.1 hs) later ∙ behind e.1 home.0 is

-- ---- by look-ups

pub flat_either : (b : Bool) (v : Option Held) (old : Option (Option Held)) → flat (cond b (Some v) old) ≡ cond b v (flat old)
flat_either true v old = refl
flat_either false v old = refl

pub not_some : {X : Type 0} (o : Option X) → is_some o ≡ false → o ≡ None
not_some None is = refl
not_some (Some x) is = cc

pub copied_some : {X : Type 0} (o : Option (Bor X)) → is_some (option_copied o) ≡ is_some o
copied_some None = refl
copied_some (Some x) = refl

-- whichever of two places comes first
at_either : (p q : Place) → is_at (place_order q) p ≡ is_at (place_order p) q
at_either p q = (eq_by_cmp_equiv places_total).symm q p

one_place : (p q : Place) → is_at (place_order p) q ≡ true → p ≡ q
one_place p q at = exact_places p q (equal_order (place_order p q) at)

-- what is found once something is put
found_put : (es : Entries) (p q : Place) (v : Option Held)
    → lookup (is_at (place_order q)) (insert_entry place_order es p v) ≡ cond (is_at (place_order q) p) (Some v) (lookup (is_at (place_order q)) es)
found_put [] p q v = refl
found_put (e ∷ es) p q v = by (place_order p e.0) refl (found_put es p q v)
  where
    old : Option (Option Held)
    old = lookup (is_at (place_order q)) es

    here : (b : Bool) → is_at (place_order q) e.0 ≡ b → is_at (place_order q) p ≡ b → cond (is_at (place_order q) e.0) (Some v) old ≡ cond (is_at (place_order q) p) (Some v) (cond (is_at (place_order q) e.0) (Some e.1) old)
    here true a b = ap (λ t. cond t (Some v) old) a ∙ sym (ap (λ t. cond t (Some v) (cond (is_at (place_order q) e.0) (Some e.1) old)) b)
    here false a b = ap (λ t. cond t (Some v) old) a ∙ sym (ap (λ t. cond t (Some v) (cond (is_at (place_order q) e.0) (Some e.1) old)) b ∙ ap (λ t. cond t (Some e.1) old) a)

    apart : place_order p e.0 ≡ Greater → is_at (place_order q) p ≡ true → is_at (place_order q) e.0 ≡ true → ⊥
    apart above at there =
        let same : p ≡ e.0 = sym (one_place q p at) ∙ one_place q e.0 there in
        let wrong : Greater ≡ Equal = sym above ∙ ap (λ r. place_order r e.0) same ∙ tied_itself places_total e.0 in cc

    swap : (a b : Bool) → (a ≡ true → b ≡ true → ⊥) → cond b (Some e.1) (cond a (Some v) old) ≡ cond a (Some v) (cond b (Some e.1) old)
    swap true true not_both = absurd (not_both refl refl)
    swap true false not_both = refl
    swap false true not_both = refl
    swap false false not_both = refl

    by : (o : Ordering) → place_order p e.0 ≡ o
        → lookup (is_at (place_order q)) (insert_entry place_order es p v) ≡ cond (is_at (place_order q) p) (Some v) (lookup (is_at (place_order q)) es)
        → lookup (is_at (place_order q)) (match_ordering o ((p, v) ∷ e ∷ es) ((e.0, v) ∷ es) (e ∷ insert_entry place_order es p v)) ≡ cond (is_at (place_order q) p) (Some v) (lookup (is_at (place_order q)) (e ∷ es))
    by Less is later = refl
    by Equal is later = here (is_at (place_order q) e.0) refl (ap (is_at (place_order q)) (exact_places p e.0 is))
    by Greater is later =
        ap (λ o. cond (is_at (place_order q) e.0) (Some e.1) o) later
        ∙ swap (is_at (place_order q) p) (is_at (place_order q) e.0) (apart is)

pub put_found : (es : Entries) (p q : Place) (v : Option Held)
    → lookup (is_at (place_order q)) (insert_entry place_order es p v) ≡ cond (is_at (place_order p) q) (Some v) (lookup (is_at (place_order q)) es)
put_found es p q v = found_put es p q v ∙ ap (λ b. cond b (Some v) (lookup (is_at (place_order q)) es)) (at_either p q)

pub put_there : (es : Entries) (p : Place) (v : Option Held) → IsSome (lookup (is_at (place_order p)) (insert_entry place_order es p v))
put_there es p v =
    ap is_some (put_found es p p v)
    ∙ ap (λ b. is_some (cond b (Some v) (lookup (is_at (place_order p)) es))) (ap is_eq (tied_itself places_total p))

-- where a slot is put that was there, the places stay
pub put_keys : (es : Entries) (p : Place) (v : Option Held) → AreSorted es → IsSome (lookup (is_at (place_order p)) es) → keys_of (insert_entry place_order es p v) ≡ keys_of es
put_keys [] p v sorted some = cc
put_keys (e ∷ es) p v sorted some = by (place_order p e.0) refl some (put_keys es p v (sorted_tail place_order e.0 (keys_of es) sorted))
  where
    by : (o : Ordering) → place_order p e.0 ≡ o → IsSome (cond (is_eq o) (Some e.1) (lookup (is_at (place_order p)) es))
        → (IsSome (lookup (is_at (place_order p)) es) → keys_of (insert_entry place_order es p v) ≡ keys_of es)
        → keys_of (match_ordering o ((p, v) ∷ e ∷ es) ((e.0, v) ∷ es) (e ∷ insert_entry place_order es p v)) ≡ e.0 ∷ keys_of es
    by Less is there later =
        let none : lookup (is_at (place_order p)) (e ∷ es) ≡ None = none_below e es p sorted is in
        let wrong : false ≡ true = ap is_some (sym none) ∙ some in cc
    by Equal is there later = refl
    by Greater is there later = ap (λ ks. e.0 ∷ ks) (later there)

-- what is found once a slot is emptied, if there was one
pub emptied_found : (es : Entries) (p q : Place)
    → flat (lookup (is_at (place_order q)) (set_value (is_at (place_order p)) es None)) ≡ cond (is_at (place_order p) q) None (flat (lookup (is_at (place_order q)) es))
emptied_found [] p q = by (is_at (place_order p) q)
  where
    by : (b : Bool) → ◌≡◌ {A = Option Held} None (cond b None None)
    by true = refl
    by false = refl
emptied_found (e ∷ es) p q = by (is_at (place_order p) e.0) refl (emptied_found es p q)
  where
    old : Option (Option Held)
    old = lookup (is_at (place_order q)) es

    here : (a b : Bool) → a ≡ b → flat (cond a (Some None) old) ≡ cond b None (flat (cond a (Some e.1) old))
    here true true is = refl
    here true false is = cc
    here false true is = cc
    here false false is = refl

    there : (a b : Bool) → (a ≡ true → b ≡ false) → (new : Option (Option Held)) → flat new ≡ cond b None (flat old)
        → flat (cond a (Some e.1) new) ≡ cond b None (flat (cond a (Some e.1) old))
    there true true apart new later = let wrong : true ≡ false = apart refl in cc
    there true false apart new later = refl
    there false b apart new later = later

    apart : is_at (place_order p) e.0 ≡ false → is_at (place_order q) e.0 ≡ true → is_at (place_order p) q ≡ false
    apart out at = subst (λ r. is_at (place_order p) r ≡ false) (sym (one_place q e.0 at)) out

    by : (b : Bool) → is_at (place_order p) e.0 ≡ b
        → flat (lookup (is_at (place_order q)) (set_value (is_at (place_order p)) es None)) ≡ cond (is_at (place_order p) q) None (flat (lookup (is_at (place_order q)) es))
        → flat (lookup (is_at (place_order q)) (cond b ((e.0, None) ∷ es) (e ∷ set_value (is_at (place_order p)) es None)))
        ≡ cond (is_at (place_order p) q) None (flat (cond (is_at (place_order q) e.0) (Some e.1) old))
    by true at later = here (is_at (place_order q) e.0) (is_at (place_order p) q) (ap (is_at (place_order q)) (sym (one_place p e.0 at)) ∙ at_either p q)
    by false out later =
        there (is_at (place_order q) e.0) (is_at (place_order p) q) (apart out) (lookup (is_at (place_order q)) (set_value (is_at (place_order p)) es None)) later

-- where a slot is made, if there is none, the old slots and those with a new empty one say all
pub slot_made : (P : Entries → Type 0) (es new : Entries) (p : Place) → AreSorted es
    → new ≡ insert_entry place_order es p (unwrap_or (lookup (is_at (place_order p)) es) None)
    → P es → (lookup (is_at (place_order p)) es ≡ None → P (insert_entry place_order es p None)) → P new
slot_made P es new p sorted = made_or_there place_order places_total P es new p None sorted

-- a new slot leaves the rows that are found, and the slots
pub new_none : (es : Entries) (p q : Place) → lookup (is_at (place_order p)) es ≡ None
    → flat (lookup (is_at (place_order q)) (insert_entry place_order es p None)) ≡ flat (lookup (is_at (place_order q)) es)
new_none es p q none = ap flat (found_put es p q None) ∙ by (is_at (place_order q) p) refl
  where
    by : (b : Bool) → is_at (place_order q) p ≡ b → flat (cond b (Some None) (lookup (is_at (place_order q)) es)) ≡ flat (lookup (is_at (place_order q)) es)
    by true at =
        let same : p ≡ q = sym (exact_places q p (equal_order (place_order q p) at)) in
        sym (ap flat (subst (λ r. lookup (is_at (place_order r)) es ≡ None) same none))
    by false at = refl

pub still_there : (es : Entries) (p q : Place) → lookup (is_at (place_order p)) es ≡ None
    → IsSome (lookup (is_at (place_order q)) es) → IsSome (lookup (is_at (place_order q)) (insert_entry place_order es p None))
still_there es p q none some = subst IsSome (sym (found_put es p q None)) (still_some (is_at (place_order q) p) None (lookup (is_at (place_order q)) es) some)
