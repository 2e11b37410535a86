-- Names by age, and the youngest of some.
use Rattle.std.proofs.Common.{◌≡◌, ◌⊎◌, inl, inr, ⊎_elim, Bool, true, false, cond, List, [], ◌∷◌, refl, sym, ap, ◌∙◌, subst}
use Rattle.std.specs.Ordering.{is_eq, is_lt, is_gt, ordering_then, ordering_reverse}
use Rattle.std.specs.declared.cmp.Ordering.{Ordering}
use Rattle.std.specs.declared.cmp.Ordering.TheVariants.{Less, Equal, Greater}
use Rattle.std.specs.Cmp.{IsTotalOrder}
use Rattle.std.proofs.lemmas.Cmp.{tied_itself, nat_list_cmp_total, on_total, then_total, upto}
use Rattle.adr_values.specs.Order.{identifier_order, link_stamp_order}
use Rattle.adr_values.specs.contracts.stamp.LinkStampOrd.TheImpl.Laws.{total-law as link_stamps_total}
use Rattle.adr_model.specs.Member.{Member}
use Rattle.adr_model.specs.Update.{same_identifier}
use Rattle.adr_model.specs.Place.{Node, named_before}
use Rattle.adr_law_tree.specs.Breaker.{youngest_of}

abbrev pub age : Node → Node → Ordering
age m n = ordering_then (link_stamp_order m.stamp n.stamp) (identifier_order m.object.guid n.object.guid)

pub ages_total : IsTotalOrder age
ages_total = then_total (on_total (λ (n : Node). n.stamp) link_stamps_total) (on_total (λ (n : Node). n.object.guid) nat_list_cmp_total)

turned : (o : Ordering) → is_lt o ≡ false → is_gt (ordering_reverse o) ≡ false
turned Less e = cc
turned Equal e = refl
turned Greater e = refl

turned_back : (o : Ordering) → is_gt o ≡ false → is_lt (ordering_reverse o) ≡ false
turned_back Less e = refl
turned_back Equal e = refl
turned_back Greater e = cc

not_older : (m n : Node) → named_before m n ≡ false → is_gt (age n m) ≡ false
not_older m n e = ap is_gt (ages_total.antisymm n m) ∙ turned (age m n) e

older_not : (m n : Node) → is_gt (age n m) ≡ false → named_before m n ≡ false
older_not m n e = ap is_lt (ages_total.antisymm m n) ∙ turned_back (age n m) e

pub never_before : (a b c : Node) → named_before a b ≡ false → named_before b c ≡ false → named_before a c ≡ false
never_before a b c e f = older_not a c (upto ages_total c b a (not_older b c f) (not_older a b e))

pub not_itself : (n : Node) → named_before n n ≡ false
not_itself n = ap is_lt (tied_itself ages_total n)

turned_less : (o : Ordering) → is_lt o ≡ true → is_lt (ordering_reverse o) ≡ false
turned_less Less e = refl
turned_less Equal e = cc
turned_less Greater e = cc

pub not_both : (m n : Node) → named_before m n ≡ true → named_before n m ≡ false
not_both m n e = ap is_lt (ages_total.antisymm n m) ∙ turned_less (age m n) e

-- names that neither is younger than have one GUID
pub alike_guids : (m n : Node) → named_before m n ≡ false → named_before n m ≡ false → same_identifier m.object.guid n.object.guid ≡ true
alike_guids m n e f = by (link_stamp_order m.stamp n.stamp) (identifier_order m.object.guid n.object.guid) e (ap is_lt (sym (ages_total.antisymm n m)) ∙ f)
  where
    by : (r s : Ordering) → is_lt (ordering_then r s) ≡ false → is_lt (ordering_reverse (ordering_then r s)) ≡ false → is_eq s ≡ true
    by Less s e f = cc
    by Equal Less e f = cc
    by Equal Equal e f = refl
    by Equal Greater e f = cc
    by Greater s e f = cc

pub record IsYoungest (n : Node) (ns : List Node) (r : Node) : Type 0 where
  pub is_one : (r ≡ n) ⊎ Member r ns
  pub first : named_before r n ≡ false
  pub rest : (m : Node) → Member m ns → named_before r m ≡ false

pub is_youngest : (n : Node) (ns : List Node) → IsYoungest n ns (youngest_of n ns)
is_youngest n [] = record { is_one = inl refl; first = not_itself n; rest = λ m k. absurd k }
is_youngest n (m ∷ ms) = by (named_before n m) refl (is_youngest m ms) (is_youngest n ms)
  where
    by : (b : Bool) → named_before n m ≡ b → IsYoungest m ms (youngest_of m ms) → IsYoungest n ms (youngest_of n ms) → IsYoungest n (m ∷ ms) (youngest_of (cond b m n) ms)
    by true is y z = record {
      is_one = ⊎_elim (λ e. inr (inl e)) (λ k. inr (inr k)) y.is_one;
      first = never_before (youngest_of m ms) m n y.first (not_both n m is);
      rest = λ a k. ⊎_elim (λ e. subst (λ (c : Node). named_before (youngest_of m ms) c ≡ false) (sym e) y.first) (λ l. y.rest a l) k;
    }
    by false is y z = record {
      is_one = ⊎_elim (λ e. inl e) (λ k. inr (inr k)) z.is_one;
      first = z.first;
      rest = λ a k. ⊎_elim (λ e. subst (λ (c : Node). named_before (youngest_of n ms) c ≡ false) (sym e) (never_before (youngest_of n ms) n m z.first is)) (λ l. z.rest a l) k;
    }
