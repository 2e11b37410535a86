-- Which objects there are, each by its birth, and which stand: those without a death.
use Rattle.std.proofs.Common.{◌≡◌, ◌⊎◌, inl, inr, ◌≤◌, length, List, [], Bool, true, false, Some, None, refl, ap, ◌∙◌, not, ◌==◌, filter_map, if◌then◌else◌}
use Rattle.std.specs.List.{list_any}
use Rattle.std.proofs.lemmas.Bool.{eqb-true, not-true}
use Rattle.adr_values.specs.declared.stamp.Oid.{Oid}
use Rattle.adr_values.specs.Order.{object_order}
use Rattle.adr_values.specs.contracts.stamp.OidOrd.TheImpl.Laws.{total-law as objects_total}
use Rattle.adr_values.proofs.ExactOrders.{exact_objects}
use Rattle.adr_model.specs.Member.{Member, Each}
use Rattle.adr_model.specs.Update.{Key, RowOf, LinkOf, Update, class_attr, deleted_attr, is_death_of}
use Rattle.adr_model.specs.Reflects.{IsDeathOf}
use Rattle.adr_model.specs.Live.{born, objects_of, standing}
use Rattle.adr_model.proofs.Members.{none_passes, each_fails, of_filter, in_filter, of_filter_map, in_filter_map}
use Rattle.adr_law_knowledge.specs.Stands.{Stands}
use Rattle.adr_law_knowledge.specs.Rises.{Rises}
use Rattle.adr_law_knowledge.proofs.Comparing.{keys_tell, same_where_equal}
use Rattle.adr_law_knowledge.proofs.Lists.{filter_rises, sorted_rises, of_sorted, in_sorted}
use Rattle.adr_law_knowledge.proofs.Counting.{no_longer}

pub birth_key : (k : Key) (o : Oid) → born k ≡ Some o → k ≡ RowOf o class_attr
birth_key (RowOf p attr) o e = by (attr == class_attr) refl e
  where
    by : (b : Bool) → (attr == class_attr) ≡ b → (if b then Some p else None) ≡ Some o → RowOf p attr ≡ RowOf o class_attr
    by true is e = let same : p ≡ o = cc in ap (λ x. RowOf x attr) same ∙ ap (λ a. RowOf o a) (eqb-true attr class_attr is)
    by false is e = cc
birth_key (LinkOf l) o e = cc

pub born_once : (us : List Update) (o : Oid) → Member o (objects_of us) → (b : Update) × Member b us × (b.key ≡ RowOf o class_attr)
born_once us o m = by (of_sorted object_order objects_total exact_objects (filter_map (λ (u : Update). born u.key) us) [] o m)
  where
    by : Member o (filter_map (λ (u : Update). born u.key) us) ⊎ ⊥ → (b : Update) × Member b us × (b.key ≡ RowOf o class_attr)
    by (inl n) = let t = of_filter_map (λ (u : Update). born u.key) us o n in (t.0, t.1, birth_key t.0.key o t.2)
    by (inr n) = absurd n

pub among_objects : (us : List Update) (b : Update) (o : Oid) → Member b us → b.key ≡ RowOf o class_attr → Member o (objects_of us)
among_objects us b o m is =
    in_sorted object_order objects_total exact_objects (filter_map (λ (u : Update). born u.key) us) [] o
    (in_filter_map (λ (u : Update). born u.key) us b o m (ap born is))

objects_rise : (us : List Update) → Rises object_order (objects_of us)
objects_rise us = sorted_rises object_order objects_total exact_objects (filter_map (λ (u : Update). born u.key) us) [] tt

-- there are no more objects than in a list that has each object of which there is a class row
pub objects_within : (us : List Update) (os : List Oid) → Each (λ b. (o : Oid) → b.key ≡ RowOf o class_attr → Member o os) us → length (objects_of us) ≤ length os
objects_within us os each = no_longer object_order objects_total exact_objects (objects_of us) os
    (objects_rise us)
    (λ o m. let b = born_once us o m in each b.0 b.1 o b.2)

pub of_standing : (us : List Update) (o : Oid) → Member o (standing us) → Stands us o
of_standing us o m = record { birth = b.0; born = b.1; is_birth = b.2; alive = alive }
  where
    t : Member o (objects_of us) × (not (list_any (is_death_of o) us) ≡ true)
    t = of_filter (λ (p : Oid). not (list_any (is_death_of p) us)) (objects_of us) o m

    b : (b : Update) × Member b us × (b.key ≡ RowOf o class_attr)
    b = born_once us o t.0

    alive : Each (λ d. IsDeathOf o d → ⊥) us
    alive d n is = let f : is_death_of o d ≡ false = each_fails (is_death_of o) us (not-true (list_any (is_death_of o) us) t.1) d n in
        let p : is_death_of o d ≡ true = same_where_equal d.key (RowOf o deleted_attr) is in absurd (cc)

pub in_standing : (us : List Update) (o : Oid) → Stands us o → Member o (standing us)
in_standing us o s = in_filter (λ (p : Oid). not (list_any (is_death_of p) us)) (objects_of us) o (among_objects us s.birth o s.born s.is_birth) (ap not (none_passes (is_death_of o) us alive))
  where
    alive : (d : Update) → Member d us → is_death_of o d ≡ false
    alive d m = by (is_death_of o d) refl
      where
        by : (b : Bool) → is_death_of o d ≡ b → b ≡ false
        by true is = absurd (s.alive d m (keys_tell d.key (RowOf o deleted_attr) is))
        by false is = refl

pub standing_rises : (us : List Update) → Rises object_order (standing us)
standing_rises us =
    filter_rises object_order (λ (p : Oid). not (list_any (is_death_of p) us)) (objects_of us)
    (objects_rise us)
