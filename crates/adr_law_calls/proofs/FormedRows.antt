-- What stands after rows were put, as updates, and which of the rows are whose.
use Rattle.std.proofs.Common.{◌≡◌, ◌⊎◌, inl, inr, ⊎_elim, ℕ, ◌<◌, List, Bool, true, false, refl, sym, ap, ◌∙◌, subst, if◌then◌else◌, arith}
use Rattle.std.specs.Prelude.{nat_lt}
use Rattle.std.specs.List.{list_any}
use Rattle.std.proofs.lemmas.Bool.{or_left, or_right}
use Rattle.std.proofs.lemmas.Bool.Decides.{nat_tests}
use Rattle.adr_values.specs.declared.stamp.Oid.{Oid}
use Rattle.adr_values.specs.declared.stamp.LinkKey.{LinkKey}
use Rattle.adr_model.specs.Member.{Member, Each}
use Rattle.adr_model.specs.Update.{RowOf, LinkOf, Update, same_object, is_death_of, deleted_attr}
use Rattle.adr_model.specs.Reflects.{IsDeathOf}
use Rattle.adr_model.specs.Store.{Held, updates_of}
use Rattle.adr_model.specs.Change.{goes_with}
use Rattle.adr_model.proofs.Members.{mapped_member, each_fails, some_passes}
use Rattle.adr_model.proofs.Keys.{objects_tell}
use Rattle.adr_law_knowledge.proofs.Comparing.{keys_tell, same_where_equal, objects_same}
use Rattle.adr_law_knowledge.proofs.Knows.{only_end}
use Rattle.adr_law_calls.specs.Puts.{held_at, under, IsReplaced, IsStripped, ArePut}
use Rattle.adr_law_calls.proofs.Rows.{updated, held_as, about}

-- ---- keys

pub object_or_not : (p o : Oid) → (p ≡ o) ⊎ (p ≡ o → ⊥)
object_or_not p o = by (same_object p o) refl
  where
    by : (b : Bool) → same_object p o ≡ b → (p ≡ o) ⊎ (p ≡ o → ⊥)
    by true is = inl (objects_tell p o is)
    by false is = inr (λ e. let t : same_object p o ≡ true = objects_same p o e in cc)

-- ---- what goes with an object

pub goes_of_object : (o p : Oid) (attr : ℕ) → goes_with o (RowOf p attr) ≡ true → p ≡ o
goes_of_object o p attr g = sym (only_end p attr o (about o (RowOf p attr) g))

pub value_goes : (o : Oid) (attr : ℕ) → deleted_attr < attr → goes_with o (RowOf o attr) ≡ true
value_goes o attr above = ap (λ b. if b then nat_lt deleted_attr attr else false) (objects_same o o refl) ∙ grind (arith, nat_tests)

pub link_goes_from : (l : LinkKey) → goes_with l.from (LinkOf l) ≡ true
link_goes_from l = or_left _ _ (objects_same l.from l.from refl)

pub link_goes_to : (l : LinkKey) → goes_with l.to (LinkOf l) ≡ true
link_goes_to l = or_right _ _ (objects_same l.to l.to refl)

-- ---- what stands after rows were put

pub death_or_none : (us : List Update) (o : Oid) → ((d : Update) × Member d us × IsDeathOf o d) ⊎ Each (λ u. IsDeathOf o u → ⊥) us
death_or_none us o = by (list_any (is_death_of o) us) refl
  where
    by : (b : Bool) → list_any (is_death_of o) us ≡ b → ((d : Update) × Member d us × IsDeathOf o d) ⊎ Each (λ u. IsDeathOf o u → ⊥) us
    by true is = let t = some_passes (is_death_of o) us is in inl (t.0, t.1, keys_tell t.0.key (RowOf o deleted_attr) t.2)
    by false is = inr (λ u m e. let f : is_death_of o u ≡ false = each_fails (is_death_of o) us is u m in let t : is_death_of o u ≡ true = same_where_equal u.key (RowOf o deleted_attr) e in cc)

-- what becomes of a row: one of its key takes its place, a death takes it, or it stands
abbrev pub Fares : List Update → List Update → Update → Type 0
Fares us after r = ((u : Update) × Member u us × (u.key ≡ r.key)) ⊎ (((d : Update) × (o : Oid) × Member d us × IsDeathOf o d × (goes_with o r.key ≡ true)) ⊎ Member r after)

module _ (usn : ℕ) (before after : List Held) (us : List Update) (p : ArePut usn us before after) where
  pub stands : Each (λ u. Member u (updates_of after)) us
  stands u m = updated after (held_at usn u) (p.written u m)

  pub stood : (r : Update) → Member r (updates_of after) → Member r us ⊎ Member r (updates_of before)
  stood r m = let t = held_as after r m in by t.0 t.2 (p.from t.0 t.1)
    where
      by : (x : Held) → r ≡ x.update → Member x (under usn us) ⊎ Member x before → Member r us ⊎ Member r (updates_of before)
      by x e (inl n) = let t = mapped_member (held_at usn) us x n in inl (subst (λ (z : Update). Member z us) (sym (e ∙ ap (λ (h : Held). h.update) t.2)) t.1)
      by x e (inr n) = inr (subst (λ (z : Update). Member z (updates_of before)) (sym e) (updated before x n))

  pub fares : Each (Fares us (updates_of after)) (updates_of before)
  fares r m = let t = held_as before r m in by t.0 t.2 (p.kept t.0 t.1)
    where
      by : (x : Held) → r ≡ x.update → IsReplaced us x ⊎ (IsStripped us x ⊎ Member x after) → Fares us (updates_of after) r
      by x e (inl (u, n, same)) = inl (u, n, same ∙ sym (ap (λ (z : Update). z.key) e))
      by x e (inr (inl (d, o, n, is, g))) = inr (inl (d, o, n, is, ap (λ (z : Update). goes_with o z.key) e ∙ g))
      by x e (inr (inr n)) = inr (inr (subst (λ (z : Update). Member z (updates_of after)) (sym e) (updated after x n)))

  -- with a death stands nothing that it takes, but for what is put with it
  pub bare : (d r : Update) (o : Oid) → Member d us → IsDeathOf o d → Member r (updates_of after) → Member r us ⊎ (goes_with o r.key ≡ false)
  bare d r o m is n = let t = held_as after r n in ⊎_elim
      (λ i. let u = mapped_member (held_at usn) us t.0 i in inl (subst (λ (z : Update). Member z us) (sym (t.2 ∙ ap (λ (h : Held). h.update) u.2)) u.1))
      (λ f. inr (ap (λ (u : Update). goes_with o u.key) t.2 ∙ f))
      (p.bare d m o is t.0 t.1)
