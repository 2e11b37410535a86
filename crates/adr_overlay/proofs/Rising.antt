-- Look-ups among rows in order of their keys.
use Rattle.std.proofs.Common.{◌≡◌, List, [], ◌∷◌, true, cond, refl, sym, ap, ◌∙◌, Some, None}
use Rattle.std.specs.Ordering.{is_eq, ordering_reverse}
use Rattle.std.specs.declared.cmp.Ordering.TheVariants.{Less, Greater}
use Rattle.std.proofs.lemmas.Cmp.{tied_itself}
use Rattle.adr_model.specs.Update.{Key, key_order, same_key}
use Rattle.adr_model.specs.Store.{Held, row_held}
use Rattle.adr_model.specs.Formed.{AreRising}
use Rattle.adr_model.proofs.Keys.{equal_order, exact_keys, keys_total}
use Rattle.adr_law_knowledge.proofs.RisingHeld.{IsBelow, head_below, below_same}

-- ---- the order

turned : (k l : Key) → key_order k l ≡ Less → key_order l k ≡ Greater
turned k l less = keys_total.antisymm l k ∙ ap ordering_reverse less

pub turned_back : (k l : Key) → key_order k l ≡ Greater → key_order l k ≡ Less
turned_back k l more = keys_total.antisymm l k ∙ ap ordering_reverse more

pub one_key : (k l : Key) → same_key k l ≡ true → k ≡ l
one_key k l e = exact_keys k l (equal_order (key_order k l) e)

pub same_itself : (k : Key) → same_key k k ≡ true
same_itself k = ap is_eq (tied_itself keys_total k)

-- ---- look-ups

pub none_below : (k : Key) (rows : List Held) → IsBelow k rows → row_held rows k ≡ None
none_below k [] b = refl
none_below k (x ∷ xs) b = ap (λ o. cond (is_eq o) (Some x) (row_held xs k)) (turned k x.update.key b.0) ∙ none_below k xs b.1

pub none_past : (k : Key) (x : Held) (xs : List Held) → AreRising (x ∷ xs) → x.update.key ≡ k → row_held xs k ≡ None
none_past k x xs r e = none_below k xs (below_same k x.update.key xs (sym e) (head_below x xs r))

pub first_held : (x : Held) (xs : List Held) (k : Key) → x.update.key ≡ k → row_held (x ∷ xs) k ≡ Some x
first_held x xs k e = ap (λ b. cond b (Some x) (row_held xs k)) (ap (λ j. same_key x.update.key j) (sym e) ∙ same_itself x.update.key)
