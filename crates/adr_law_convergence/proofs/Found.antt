-- Controllers and what is bound, by their names.
use Rattle.std.proofs.Common.{◌≡◌, ◌⊎◌, inl, inr, List, [], ◌∷◌, Bool, true, false, cond, Option, Some, None, refl, sym, ap, ◌∙◌, subst}
use Rattle.std.specs.List.{find}
use Rattle.std.specs.Option.{option_map}
use Rattle.std.specs.Str.{bytes_eq}
use Rattle.std.proofs.lemmas.Slice.Eq.{bytes_eq-Decides}
use Rattle.adr_model.specs.Member.{Member, Each}
use Rattle.adr_model.specs.Replica.{Replica}
use Rattle.adr_model.specs.World.{Name, World, bound_at, bound, replica_at, with_replica}
use Rattle.adr_model.proofs.Members.{mapped_member, member_mapped, member_of_either, found_member}

pub same_name : (a b : Name) → bytes_eq a b ≡ true → a ≡ b
same_name a b h = (bytes_eq-Decides a b).0 h

pub same_name_tests : (a b : Name) → a ≡ b → bytes_eq a b ≡ true
same_name_tests a b e = (bytes_eq-Decides a b).1 e

-- the controller of a name
pub replica_found : (w : World) (name : Name) (r : Replica) → replica_at w name ≡ Some r → Member r w.replicas × (r.name ≡ name)
replica_found w name r h = let t = found_member (λ (q : Replica). bytes_eq q.name name) w.replicas r h in (t.0, same_name r.name name t.1)

-- what is bound to a name is among what is bound
pub bound_member : {A : Type 0} (P : A → Type 0) (xs : List (Name × A)) (name : Name) (x : A) → Each (λ (y : Name × A). P y.1) xs → bound_at xs name ≡ Some x → P x
bound_member {A = A} P xs name x all h = by (find (λ (y : Name × A). bytes_eq y.0 name) xs) refl h
  where
    by : (o : Option (Name × A)) → find (λ (y : Name × A). bytes_eq y.0 name) xs ≡ o → option_map (λ (y : Name × A). y.1) o ≡ Some x → P x
    by None is e = absurd (cc)
    by (Some y) is e = let s : y.1 ≡ x = cc in subst P s (all y (found_member (λ (z : Name × A). bytes_eq z.0 name) xs y is).0)

pub each_bound : {A : Type 0} (P : A → Type 0) (xs : List (Name × A)) (name : Name) (o : Option A) → Each (λ (y : Name × A). P y.1) xs → ((x : A) → o ≡ Some x → P x) → Each (λ (y : Name × A). P y.1) (bound xs name o)
each_bound P xs name None all new y m = all y m
each_bound {A = A} P xs name (Some x) all new y m = by (member_of_either xs ((name, x) ∷ []) y m)
  where
    by : Member y xs ⊎ Member y ((name, x) ∷ []) → P y.1
    by (inl n) = all y n
    by (inr (inl e)) = subst (λ (z : Name × A). P z.1) (sym e) (new x refl)
    by (inr (inr n)) = absurd n

-- who stands after a controller was put in place of another one: that one, or one of another name
abbrev Stands : List Replica → Replica → Replica → Type 0
Stands rs r q = (q ≡ r) ⊎ (Member q rs × (q.name ≡ r.name → ⊥))

pub in_place : (rs : List Replica) (r q : Replica) → Member q (with_replica rs r) → Stands rs r q
in_place rs r q m = let t = mapped_member (λ (x : Replica). cond (bytes_eq x.name r.name) r x) rs q m in by t.0 t.1 (bytes_eq t.0.name r.name) refl t.2
  where
    by : (x : Replica) → Member x rs → (b : Bool) → bytes_eq x.name r.name ≡ b → q ≡ cond b r x → Stands rs r q
    by x n true is e = inl e
    by x n false is e = inr (subst (λ (y : Replica). Member y rs) (sym e) n, λ s. let u : bytes_eq x.name r.name ≡ true = same_name_tests x.name r.name (ap (λ (y : Replica). y.name) (sym e) ∙ s) in cc)

-- who stood and has another name still stands, and the new one does where its name was there
pub still_there : (rs : List Replica) (r x : Replica) → Member x rs → Member (cond (bytes_eq x.name r.name) r x) (with_replica rs r)
still_there rs r x m = member_mapped (λ (y : Replica). cond (bytes_eq y.name r.name) r y) rs x m
