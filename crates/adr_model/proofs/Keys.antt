-- Keys are ordered and told apart by their order; and what wins at a key of which there is one update.
use Rattle.std.proofs.Common.{◌≡◌, ◌⊎◌, inl, inr, ⊎_elim, ℕ, List, [], ◌∷◌, Bool, true, false, cond, Option, Some, None, refl, ap, ◌∙◌}
use Rattle.std.specs.Cmp.{IsTotalOrder}
use Rattle.std.specs.Ordering.{ordering_reverse, ordering_then, is_eq, nat_cmp}
use Rattle.std.specs.declared.cmp.Ordering.{Ordering}
use Rattle.std.specs.declared.cmp.Ordering.TheVariants.{Less, Equal, Greater}
use Rattle.std.proofs.lemmas.Cmp.{nat_cmp_total, on_total, then_total}
use Rattle.std.proofs.lemmas.Map.Lookups.{CmpEqualImpliesEq, exact_pairs, exact_unsigned}
use Rattle.adr_values.specs.declared.stamp.Oid.{Oid}
use Rattle.adr_values.specs.Order.{object_order}
use Rattle.adr_values.specs.contracts.stamp.OidOrd.TheImpl.Laws.{total-law as objects_total}
use Rattle.adr_values.specs.contracts.stamp.LinkKeyOrd.TheImpl.Laws.{total-law as links_total}
use Rattle.adr_values.proofs.ExactOrders.{exact_objects, exact_links}
use Rattle.adr_model.specs.Update.{Key, RowOf, LinkOf, Update, key_order, same_key, same_object, is_older}
use Rattle.adr_model.specs.Winner.{or_younger, winner}
use Rattle.adr_model.specs.Member.{Member}

pub equal_order : (o : Ordering) → is_eq o ≡ true → o ≡ Equal
equal_order Less e = cc
equal_order Equal e = refl
equal_order Greater e = cc

pub exact_keys : CmpEqualImpliesEq key_order
exact_keys (RowOf o a) (RowOf p b) h = ap (λ (k : Oid × ℕ). RowOf k.0 k.1) (exact_pairs object_order nat_cmp exact_objects exact_unsigned (o, a) (p, b) h)
exact_keys (RowOf o a) (LinkOf l) h = cc
exact_keys (LinkOf k) (RowOf p b) h = cc
exact_keys (LinkOf k) (LinkOf l) h = ap LinkOf (exact_links k l h)

pub objects_tell : (o p : Oid) → same_object o p ≡ true → o ≡ p
objects_tell o p e = exact_objects o p (equal_order (object_order o p) e)

-- rows' keys by object and then by attribute
rows_total : IsTotalOrder (λ (x y : Oid × ℕ). ordering_then (object_order x.0 y.0) (nat_cmp x.1 y.1))
rows_total = then_total (on_total (λ (x : Oid × ℕ). x.0) objects_total) (on_total (λ (x : Oid × ℕ). x.1) nat_cmp_total)

either_way : (x y : Key) → key_order x y ≡ ordering_reverse (key_order y x)
either_way (RowOf o a) (RowOf p b) = rows_total.antisymm (o, a) (p, b)
either_way (RowOf o a) (LinkOf l) = refl
either_way (LinkOf k) (RowOf p b) = refl
either_way (LinkOf k) (LinkOf l) = links_total.antisymm k l

onward : (x y z : Key) → key_order x y ≡ Less → key_order y z ≡ Less → key_order x z ≡ Less
onward (RowOf o a) (RowOf p b) (RowOf q c) e f = rows_total.trans (o, a) (p, b) (q, c) e f
onward (RowOf o a) (RowOf p b) (LinkOf l) e f = refl
onward (RowOf o a) (LinkOf k) (RowOf q c) e f = cc
onward (RowOf o a) (LinkOf k) (LinkOf l) e f = refl
onward (LinkOf k) (RowOf p b) z e f = cc
onward (LinkOf k) (LinkOf l) (RowOf q c) e f = cc
onward (LinkOf k) (LinkOf l) (LinkOf m) e f = links_total.trans k l m e f

tied : (x y z : Key) → key_order x y ≡ Equal → key_order x z ≡ key_order y z
tied (RowOf o a) (RowOf p b) (RowOf q c) e = rows_total.congr (o, a) (p, b) (q, c) e
tied (RowOf o a) (RowOf p b) (LinkOf l) e = refl
tied (RowOf o a) (LinkOf l) z e = cc
tied (LinkOf k) (RowOf p b) z e = cc
tied (LinkOf k) (LinkOf l) (RowOf q c) e = refl
tied (LinkOf k) (LinkOf l) (LinkOf m) e = links_total.congr k l m e

pub keys_total : IsTotalOrder key_order
keys_total = record { antisymm = either_way; trans = onward; congr = tied }

-- the winner at a key of which there is one update at most
abbrev Won : List Update → Update → Option Update → Type 0
Won us u o = (o ≡ Some u) ⊎ (((v : Update) → Member v us → same_key v.key u.key ≡ false) × (o ≡ None))

same_either : (b : Bool) (u v : Update) → v ≡ u → cond b (Some u) (Some v) ≡ Some u
same_either true u v e = refl
same_either false u v e = ap Some e

won : (us : List Update) (u : Update) → ((v : Update) → Member v us → same_key v.key u.key ≡ true → v ≡ u) → Won us u (winner us u.key)
won [] u one = inr ((λ v m. absurd m), refl)
won (v ∷ us) u one = by (same_key v.key u.key) refl (winner us u.key) (won us u (λ w m. one w (inr m)))
  where
    by : (b : Bool) → same_key v.key u.key ≡ b → (o : Option Update) → Won us u o → Won (v ∷ us) u (or_younger b v o)
    by true is o (inl e) = inl (ap (λ (p : Option Update). or_younger true v p) e ∙ same_either (is_older v u) u v (one v (inl refl) is))
    by true is o (inr (none, e)) = inl (ap (λ (p : Option Update). or_younger true v p) e ∙ ap Some (one v (inl refl) is))
    by false is o (inl e) = inl e
    by false is o (inr (none, e)) = inr ((λ w m. ⊎_elim (λ here. ap (λ (x : Update). same_key x.key u.key) here ∙ is) (λ there. none w there) m), e)

pub winner_found : (us : List Update) (u : Update) → Member u us → same_key u.key u.key ≡ true → ((v : Update) → Member v us → same_key v.key u.key ≡ true → v ≡ u) → winner us u.key ≡ Some u
winner_found us u m same one = by (won us u one)
  where
    by : Won us u (winner us u.key) → winner us u.key ≡ Some u
    by (inl e) = e
    by (inr (none, e)) = let f : same_key u.key u.key ≡ false = none u m in cc
