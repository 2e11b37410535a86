-- What is seen of slots that are looked up, made, filled, emptied and freed.
use Rattle.std.proofs.Common.{◌≡◌, ◌≤◌, ◌+◌, ℕ, suc, List, [], ◌∷◌, Bool, true, false, cond, not, ◌&&◌, Option, Some, None, refl, sym, ap, ◌∙◌, subst, map, length, arith}
use Rattle.std.specs.Prelude.{if◌then◌else◌, IfSome, unwrap_or}
use Rattle.std.specs.List.{cons_option, AllByRecursion}
use Rattle.std.specs.List.Sorted.{IsStrictlySortedBy}
use Rattle.std.specs.Map.{keys_of, lookup, remove_entry, set_value}
use Rattle.std.specs.BTreeMap.{insert_entry, is_at}
use Rattle.std.specs.Ordering.{is_eq, ordering_reverse}
use Rattle.std.specs.declared.cmp.Ordering.{Ordering}
use Rattle.std.specs.declared.cmp.Ordering.TheVariants.{Less, Equal, Greater}
use Rattle.std.proofs.lemmas.Cmp.{nat_list_cmp_total}
use Rattle.std.proofs.lemmas.Map.Keys.{sorted_head, sorted_tail}
use Rattle.std.proofs.lemmas.Map.Lookups.{exact_bytes}
use Rattle.adr_values.specs.Order.{identifier_order}
use Rattle.adr_model.specs.Update.{Identifier, same_identifier}
use Rattle.adr_model.specs.Place.{Node, node_at}
use Rattle.adr_model.proofs.Keys.{equal_order}
use Rattle.adr_law_tree.specs.InOrder.{AreInOrder}
use Rattle.adr_update.proofs.Slots.{emptied_home as still_emptied, found as at_home_found, freed, freed_home as still_without, home_still as still_at_home, made, slot_made}
use Rattle.adr_tree.specs.Slots.{seen, AreAtHome, flat}

abbrev pub Slots : Type 0
Slots = List (Identifier × Option Node)

abbrev pub AreSorted : Slots → Type 0
AreSorted es = IsStrictlySortedBy identifier_order (keys_of es)

pub flipped : (g h : Identifier) → same_identifier g h ≡ same_identifier h g
flipped g h = ap is_eq (nat_list_cmp_total.antisymm g h) ∙ turned (identifier_order h g)
  where
    turned : (o : Ordering) → is_eq (ordering_reverse o) ≡ is_eq o
    turned Less = refl
    turned Equal = refl
    turned Greater = refl

-- ---- look-ups

tests_alike : (n : Node) (g k : Identifier) → n.object.guid ≡ k → same_identifier n.object.guid g ≡ is_at (identifier_order g) k
tests_alike n g k home = flipped n.object.guid g ∙ ap (same_identifier g) home

-- a node stands at its own GUID
abbrev IsAt : Identifier → Option Node → Type 0
IsAt g o = IfSome o (λ n. n.object.guid ≡ g)

pub found : (es : Slots) (g : Identifier) → AreSorted es → AreAtHome es → flat (lookup (is_at (identifier_order g)) es) ≡ node_at (seen es) g
found es g sorted home =
    at_home_found identifier_order IsAt AreAtHome (λ e es at rest. (at, rest)) (λ e es h. h) nat_list_cmp_total flat refl (λ o. refl)
    g (λ xs. node_at (seen xs) g) refl (λ k xs. refl)
    (λ k n xs at. ap (λ b. cond b (Some n) (node_at (seen xs) g)) (tests_alike n g k at)) es sorted home

-- ---- a slot that is made, if there is none

-- what a slot holds, or nothing where there is no slot
abbrev pub held_at : Slots → Identifier → Option Node
held_at es g = unwrap_or (lookup (is_at (identifier_order g)) es) None

pub same_seen : (es : Slots) (g : Identifier) (v : Option Node) → AreSorted es → v ≡ held_at es g → seen (insert_entry identifier_order es g v) ≡ seen es
same_seen es g v sorted is =
    slot_made identifier_order nat_list_cmp_total (λ xs. seen xs ≡ seen es) es (insert_entry identifier_order es g v) g None sorted (ap (insert_entry identifier_order es g) is) refl
    (made identifier_order seen (λ k xs. refl) (λ e xs ys same. ap (λ ns. cons_option e.1 ns) same) es g)

pub held_home : (es : Slots) (g : Identifier) → AreAtHome es → IfSome (held_at es g) (λ n. n.object.guid ≡ g)
held_home [] g home = tt
held_home (e ∷ es) g home = by (is_at (identifier_order g) e.0) refl (held_home es g home.1)
  where
    by : (b : Bool) → is_at (identifier_order g) e.0 ≡ b → IfSome (held_at es g) (λ n. n.object.guid ≡ g)
        → IfSome (unwrap_or (cond b (Some e.1) (lookup (is_at (identifier_order g)) es)) None) (λ n. n.object.guid ≡ g)
    by true at later = subst (λ k. IfSome e.1 (λ n. n.object.guid ≡ k)) (sym (exact_bytes g e.0 (equal_order (identifier_order g e.0) at))) home.0
    by false at later = later

pub home_still : (es : Slots) (g : Identifier) (v : Option Node) → IfSome v (λ n. n.object.guid ≡ g) → AreAtHome es → AreAtHome (insert_entry identifier_order es g v)
home_still = still_at_home identifier_order IsAt AreAtHome (λ e es at rest. (at, rest)) (λ e es h. h) exact_bytes

-- ---- a slot emptied

pub emptied_seen : (es : Slots) (g : Identifier) → flat (lookup (is_at (identifier_order g)) es) ≡ None → seen (set_value (is_at (identifier_order g)) es None) ≡ seen es
emptied_seen [] g none = refl
emptied_seen (e ∷ es) g none = by (is_at (identifier_order g) e.0) none (emptied_seen es g)
  where
    by : (b : Bool) → flat (cond b (Some e.1) (lookup (is_at (identifier_order g)) es)) ≡ None
        → (flat (lookup (is_at (identifier_order g)) es) ≡ None → seen (set_value (is_at (identifier_order g)) es None) ≡ seen es)
        → seen (cond b ((e.0, None) ∷ es) (e ∷ set_value (is_at (identifier_order g)) es None)) ≡ seen (e ∷ es)
    by true n later = ap (λ o. cons_option o (seen es)) (sym n)
    by false n later = ap (λ ns. cons_option e.1 ns) (later n)

pub emptied_home : (es : Slots) (g : Identifier) → AreAtHome es → AreAtHome (set_value (is_at (identifier_order g)) es None)
emptied_home = still_emptied identifier_order IsAt AreAtHome (λ e es at rest. (at, rest)) (λ e es h. h) (λ g. tt)

-- an empty slot holds nothing still
pub none_still : (f : Identifier → Option (Option Node)) (g h : Identifier) → f g ≡ None → flat (f h) ≡ cond (same_identifier g h) None (flat (f h))
none_still f g h none = by (same_identifier g h) refl
  where
    by : (b : Bool) → same_identifier g h ≡ b → flat (f h) ≡ cond b None (flat (f h))
    by true at = ap flat (subst (λ k. f k ≡ None) (exact_bytes g h (equal_order (identifier_order g h) at)) none)
    by false at = refl

-- ---- a slot freed

pub freed_seen : (es : Slots) (g : Identifier) → lookup (is_at (identifier_order g)) es ≡ Some None → seen (remove_entry (is_at (identifier_order g)) es) ≡ seen es
freed_seen = freed identifier_order seen (λ g es. refl) (λ e es fs is. ap (λ ns. cons_option e.1 ns) is)

pub freed_home : (es : Slots) (g : Identifier) → AreAtHome es → AreAtHome (remove_entry (is_at (identifier_order g)) es)
freed_home = still_without identifier_order IsAt AreAtHome (λ e es at rest. (at, rest)) (λ e es h. h)

-- ---- by look-ups

pub flat_either : (b : Bool) (v : Option Node) (old : Option (Option Node)) → flat (cond b (Some v) old) ≡ cond b v (flat old)
flat_either true v old = refl
flat_either false v old = refl

-- a flag that is written as it is, or not set where there is none, leaves what is looked up
pub same_flag : (f : Identifier → Option Bool) (g h : Identifier) (v : Bool) → v ≡ unwrap_or (f g) false → unwrap_or (cond (is_at (identifier_order g) h) (Some v) (f h)) false ≡ unwrap_or (f h) false
same_flag f g h v is = by (is_at (identifier_order g) h) refl
  where
    by : (b : Bool) → is_at (identifier_order g) h ≡ b → unwrap_or (cond b (Some v) (f h)) false ≡ unwrap_or (f h) false
    by true at = is ∙ ap (λ k. unwrap_or (f k) false) (exact_bytes g h (equal_order (identifier_order g h) at))
    by false at = refl

-- ---- the list that is seen

below_seen : (k : Identifier) (es : Slots) → AllByRecursion (λ l. identifier_order k l ≡ Less) (keys_of es) → AreAtHome es
    → AllByRecursion (λ l. identifier_order k l ≡ Less) (map (λ (n : Node). n.object.guid) (seen es))
below_seen k [] below home = tt
below_seen k (e ∷ es) below home = by e.1 home.0 (below_seen k es below.1 home.1)
  where
    by : (o : Option Node) → IfSome o (λ n. n.object.guid ≡ e.0) → AllByRecursion (λ l. identifier_order k l ≡ Less) (map (λ (n : Node). n.object.guid) (seen es))
        → AllByRecursion (λ l. identifier_order k l ≡ Less) (map (λ (n : Node). n.object.guid) (cons_option o (seen es)))
    by None at rest = rest
    by (Some n) at rest = (ap (identifier_order k) at ∙ below.0, rest)

pub in_order : (es : Slots) → AreSorted es → AreAtHome es → AreInOrder (seen es)
unfolding IsStrictlySortedBy
in_order [] sorted home = tt
in_order (e ∷ es) sorted home = by e.1 home.0 (in_order es (sorted_tail identifier_order e.0 (keys_of es) sorted) home.1)
  where
    by : (o : Option Node) → IfSome o (λ n. n.object.guid ≡ e.0) → AreInOrder (seen es) → AreInOrder (cons_option o (seen es))
    by None at rest = rest
    by (Some n) at rest =
        (subst (λ k. AllByRecursion (λ l. identifier_order k l ≡ Less) (map (λ (n : Node). n.object.guid) (seen es))) (sym at) (below_seen e.0 es (sorted_head identifier_order e.0 (keys_of es) sorted) home.1), rest)

pub length_seen : (es : Slots) → length (seen es) ≤ length es
length_seen [] = omega arith
length_seen (e ∷ es) = by e.1 (length_seen es)
  where
    by : (o : Option Node) → length (seen es) ≤ length es → length (cons_option o (seen es)) ≤ suc (length es)
    by None less = omega (arith, less)
    by (Some n) less = omega (arith, less)

-- a flag that isn't set needs not be cleared
pub not_set : (f : Identifier → Bool) (g h : Identifier) → f g ≡ false → f h ≡ (f h && not (same_identifier g h))
not_set f g h none = by (same_identifier g h) refl
  where
    and_true : (b : Bool) → b ≡ (b && true)
    and_true true = refl
    and_true false = refl

    by : (b : Bool) → same_identifier g h ≡ b → f h ≡ (f h && not b)
    by true at = let e : f h ≡ false = subst (λ k. f k ≡ false) (exact_bytes g h (equal_order (identifier_order g h) at)) none in e ∙ sym (ap (λ b. b && false) e)
    by false at = and_true (f h)

pub len_stays : (b : Bool) (m n : ℕ) → b ≡ true → n ≡ m + (if b then 0 else 1) → n ≡ m
len_stays true m n is e = let f : n ≡ m + 0 = e in omega (arith, f)
len_stays false m n is e = cc
