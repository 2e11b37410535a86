-- The orders of keys and of stamps: total, and equal only for the same.
use Rattle.std.proofs.Common.{◌≡◌, ◌<◌, ◌⊎◌, inl, inr, ℕ, Bool, true, false, refl, sym, ap, ◌∙◌, subst, not, ◌&&◌}
use Rattle.std.proofs.lemmas.Bool.{and_from}
use Rattle.std.specs.Cmp.{nat_cmp_is}
use Rattle.std.specs.Ordering.{ordering_reverse, ordering_then, is_eq, is_lt, is_gt, nat_cmp}
use Rattle.std.specs.declared.cmp.Ordering.{Ordering}
use Rattle.std.specs.declared.cmp.Ordering.TheVariants.{Less, Equal, Greater}
use Rattle.std.proofs.lemmas.Cmp.{tied_itself, upto, nat_cmp_total}
use Rattle.adr_values.specs.declared.stamp.Oid.{Oid}
use Rattle.adr_values.specs.Order.{identifier_order, stamp_order, link_stamp_order}
use Rattle.adr_values.specs.contracts.stamp.OidOrd.TheImpl.Laws.{total-law as objects_total}
use Rattle.adr_values.specs.contracts.stamp.LinkStampOrd.TheImpl.Laws.{total-law as link_stamps_total}
use Rattle.adr_values.proofs.ExactOrders.{exact_link_stamps}
use Rattle.adr_model.specs.Update.{Key, Update, key_order, same_key, same_object, is_older, at_least}
use Rattle.adr_model.specs.Reflects.{Supersedes}
use Rattle.adr_model.proofs.Keys.{equal_order, exact_keys, keys_total}

pub keys_tell : (k l : Key) → same_key k l ≡ true → k ≡ l
keys_tell k l e = exact_keys k l (equal_order (key_order k l) e)

pub same_as_itself : (k : Key) → same_key k k ≡ true
same_as_itself k = ap is_eq (tied_itself keys_total k)

pub same_where_equal : (k l : Key) → k ≡ l → same_key k l ≡ true
same_where_equal k l e = subst (λ m. same_key k m ≡ true) e (same_as_itself k)

pub objects_same : (o p : Oid) → o ≡ p → same_object o p ≡ true
objects_same o p e = subst (λ q. same_object o q ≡ true) e (ap is_eq (tied_itself objects_total o))

-- stamps
older_turned : (u v : Update) → is_older u v ≡ is_gt (link_stamp_order v.stamp u.stamp)
older_turned u v = ap is_lt (link_stamps_total.antisymm u.stamp v.stamp) ∙ by (link_stamp_order v.stamp u.stamp)
  where
    by : (o : Ordering) → is_lt (ordering_reverse o) ≡ is_gt o
    by Less = refl
    by Equal = refl
    by Greater = refl

pub not_older_trans : (u v w : Update) → is_older u v ≡ false → is_older v w ≡ false → is_older u w ≡ false
not_older_trans u v w p q =
    older_turned u w ∙ upto link_stamps_total w.stamp v.stamp u.stamp (sym (older_turned v w) ∙ q) (sym (older_turned u v) ∙ p)

pub not_older_self : (u : Update) → is_older u u ≡ false
not_older_self u = ap is_lt (tied_itself link_stamps_total u.stamp)

-- of two updates one isn't older
pub older_one_way : (u v : Update) → is_older u v ≡ true → is_older v u ≡ false
older_one_way u v e = older_turned v u ∙ by (link_stamp_order u.stamp v.stamp) e
  where
    by : (o : Ordering) → is_lt o ≡ true → is_gt o ≡ false
    by Less e = refl
    by Equal e = refl
    by Greater e = cc

pub neither_older : (u v : Update) → is_older u v ≡ false → is_older v u ≡ false → u.stamp ≡ v.stamp
neither_older u v p q = exact_link_stamps u.stamp v.stamp (by (link_stamp_order u.stamp v.stamp) p (sym (older_turned v u) ∙ q))
  where
    by : (o : Ordering) → is_lt o ≡ false → is_gt o ≡ false → o ≡ Equal
    by Less e f = cc
    by Equal e f = refl
    by Greater e f = cc

-- of stamps that were created at one moment, the one of the greater version is the younger
pub older_by_version : (u v : Update) → u.stamp.created ≡ v.stamp.created → u.stamp.stamp.version < v.stamp.stamp.version → is_older u v ≡ true
older_by_version u v same less =
    ap (λ o. is_lt (ordering_then o (stamp_order u.stamp.stamp v.stamp.stamp))) (level u.stamp.created v.stamp.created same)
    ∙ ap (λ o. is_lt (ordering_then o rest)) (below u.stamp.stamp.version v.stamp.stamp.version less)
  where
    rest : Ordering
    rest = ordering_then (nat_cmp u.stamp.stamp.time v.stamp.stamp.time) (ordering_then (identifier_order u.stamp.stamp.inv v.stamp.stamp.inv) (nat_cmp u.stamp.stamp.usn v.stamp.stamp.usn))

    level : (m n : ℕ) → m ≡ n → nat_cmp m n ≡ Equal
    level m n e = subst (λ x. nat_cmp m x ≡ Equal) e (tied_itself nat_cmp_total m)

    below : (m n : ℕ) → m < n → nat_cmp m n ≡ Less
    below m n l = sym (nat_cmp_is m n Less l)

pub supersedes_trans : (u v w : Update) → Supersedes u v → Supersedes v w → Supersedes u w
supersedes_trans u v w p q = record { key = p.key ∙ q.key; stamp = not_older_trans u v w p.stamp q.stamp }

pub supersedes_self : (u : Update) → Supersedes u u
supersedes_self u = record { key = refl; stamp = not_older_self u }

pub supersedes_either : (u v : Update) → u.key ≡ v.key → Supersedes u v ⊎ Supersedes v u
supersedes_either u v e = by (is_older u v) refl
  where
    by : (b : Bool) → is_older u v ≡ b → Supersedes u v ⊎ Supersedes v u
    by true older = inr (record { key = sym e; stamp = older_one_way u v older })
    by false newer = inl (record { key = e; stamp = newer })

-- the test of an update that another one supersedes
pub supersedes_where_at_least : (u v : Update) → at_least u v ≡ true → Supersedes u v
supersedes_where_at_least u v e = by (same_key u.key v.key) (is_older u v) refl refl e
  where
    by : (s o : Bool) → same_key u.key v.key ≡ s → is_older u v ≡ o → (s && not o) ≡ true → Supersedes u v
    by true true p q e = cc
    by true false p q e = record { key = keys_tell u.key v.key p; stamp = q }
    by false o p q e = cc

pub at_least_where_supersedes : (u v : Update) → Supersedes u v → at_least u v ≡ true
at_least_where_supersedes u v s = and_from _ _ (same_where_equal u.key v.key s.key) (ap not s.stamp)
