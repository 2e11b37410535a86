-- A schema that has all classes and attributes of another one allows all that that one allows.
use Rattle.std.proofs.Common.{◌≡◌, ℕ, ◌≤◌, nat_le, if◌then◌else◌, arith, List, [], ◌∷◌, Bool, true, false, cond, ◌==◌, ◌||◌, Option, Some, None, IsSome, refl, sym, ap, ◌∙◌, subst, eqb-true}
use Rattle.std.specs.List.{find, list_all, AllByRecursion}
use Rattle.std.specs.Option.{option_map, option_map_or}
use Rattle.std.proofs.lemmas.Bool.{and_parts, leb-true, leb-false}
use Rattle.adr_values.specs.declared.table.Kind.{Kind}
use Rattle.adr_values.specs.Table.{Class, Attribute, Table, class_at, attribute_at, has, kind_at}
use Rattle.adr_values.specs.Schemas.{schema_1, schema_2}
use Rattle.adr_values.specs.Numbered.{numbered}
use Rattle.adr_values.specs.Extends.{Extends, SchemasGrow}

-- what is found is one of those of which all holds
module _ {X : Type 0} (P : X → Type 0) where
  found_has : (p : X → Bool) (xs : List X) → AllByRecursion P xs → (x : X) → find p xs ≡ Some x → P x × (p x ≡ true)
  found_has p [] all x e = absurd (cc)
  found_has p (y ∷ ys) all x e = by (p y) refl e (found_has p ys all.1 x)
    where
      by : (b : Bool) → p y ≡ b → cond b (Some y) (find p ys) ≡ Some x → (find p ys ≡ Some x → P x × (p x ≡ true)) → P x × (p x ≡ true)
      by true is h rest = let same : y ≡ x = cc in (subst P same all.0, ap p (sym same) ∙ is)
      by false is h rest = rest h

-- where all of some numbers are among others, each of them is
has_of_all : (ms ns : List ℕ) (n : ℕ) → list_all (has ns) ms ≡ true → has ms n ≡ true → has ns n ≡ true
has_of_all [] ns n all h = absurd (cc)
has_of_all (m ∷ ms) ns n all h = by (m == n) refl h (λ g. has_of_all ms ns n parts.1 g)
  where
    parts : (has ns m ≡ true) × (list_all (has ns) ms ≡ true)
    parts = and_parts (has ns m) (list_all (has ns) ms) all

    by : (b : Bool) → (m == n) ≡ b → (b || has ms n) ≡ true → (has ms n ≡ true → has ns n ≡ true) → has ns n ≡ true
    by true is h rest = subst (λ k. has ns k ≡ true) (eqb-true m n is) parts.0
    by false is h rest = rest h

-- a class is there, with the same attributes that it must have, and no fewer that it may have and no fewer superiors
abbrev pub IsThere : Class → Option Class → Type 0
IsThere c None = ⊥
IsThere c (Some d) = (d.must ≡ c.must) × (list_all (has d.may) c.may ≡ true) × (list_all (has d.superiors) c.superiors ≡ true)

module _ (t u : Table) (classes : AllByRecursion (λ (c : Class). IsThere c (class_at u c.number)) t.classes)
    (attributes : AllByRecursion (λ (a : Attribute). kind_at u a.number ≡ Some a.kind) t.attributes) where
  -- whatever is so of a class that is there in both is so of one that is there in the first
  module _ (class : ℕ) (P : Option Class → Option Class → Type 0) (both : (c d : Class) → IsThere c (Some d) → P (Some c) (Some d)) (none : P None (class_at u class)) where
    there : (c : Class) → class_at t class ≡ Some c → IsThere c (class_at u class)
    there c e = let f = found_has (λ (x : Class). IsThere x (class_at u x.number)) (λ (x : Class). x.number == class) t.classes classes c e in
        subst (λ (n : ℕ). IsThere c (class_at u n)) (eqb-true c.number class f.1) f.0

    two : (c : Class) (o : Option Class) → IsThere c o → P (Some c) o
    two c None h = absurd h
    two c (Some d) h = both c d h

    pub in_both : P (class_at t class) (class_at u class)
    in_both = by (class_at t class) refl
      where
        by : (o : Option Class) → class_at t class ≡ o → P o (class_at u class)
        by None e = none
        by (Some c) e = two c (class_at u class) (there c e)

  abbrev may : Option Class → List ℕ
  may o = option_map_or (λ (c : Class). c.may) o []

  abbrev above : Option Class → List ℕ
  above o = option_map_or (λ (c : Class). c.superiors) o []

  abbrev musts : Option Class → List ℕ
  musts o = option_map_or (λ (c : Class). c.must) o []

  kind_kept : (attr : ℕ) (kind : Kind) → kind_at t attr ≡ Some kind → kind_at u attr ≡ Some kind
  kind_kept attr kind e = by (attribute_at t attr) refl e
    where
      by : (o : Option Attribute) → attribute_at t attr ≡ o → option_map (λ (a : Attribute). a.kind) o ≡ Some kind → kind_at u attr ≡ Some kind
      by None is h = absurd (cc)
      by (Some a) is h =
          let f = found_has (λ (x : Attribute). kind_at u x.number ≡ Some x.kind) (λ (x : Attribute). x.number == attr) t.attributes attributes a is in
          subst (λ (n : ℕ). kind_at u n ≡ Some a.kind) (eqb-true a.number attr f.1) f.0 ∙ h

  pub extends : Extends t u
  extends = record {
    known = λ class. in_both class (λ o p. IsSome o → IsSome p) (λ c d h some. refl) (λ some. absurd (cc));
    must = λ class. in_both class (λ o p. IsSome o → musts p ≡ musts o) (λ c d h some. h.0) (λ some. absurd (cc));
    may = λ class attr. in_both class (λ o p. has (may o) attr ≡ true → has (may p) attr ≡ true) (λ c d h. has_of_all c.may d.may attr h.1) (λ h. absurd (cc));
    superiors = λ class n. in_both class (λ o p. has (above o) n ≡ true → has (above p) n ≡ true) (λ c d h. has_of_all c.superiors d.superiors n h.2) (λ h. absurd (cc));
    kinds = kind_kept;
  }

pub itself_extends : (t : Table) → Extends t t
itself_extends t = record { known = λ class h. h; must = λ class h. refl; may = λ class attr h. h; superiors = λ class n h. h; kinds = λ attr kind h. h }

first_grows : Extends schema_1 schema_2
unfolding schema_1 schema_2
first_grows = extends schema_1 schema_2
    ((refl, refl, refl), ((refl, refl, refl), ((refl, refl, refl), ((refl, refl, refl), ((refl, refl, refl), tt)))))
    (refl, (refl, (refl, (refl, (refl, (refl, (refl, (refl, (refl, (refl, (refl, (refl, (refl, (refl, (refl, (refl, (refl, (refl, tt))))))))))))))))))

pub schemas_grow : SchemasGrow
schemas_grow n m le = by n m le (nat_le n 1) refl (nat_le m 1) refl
  where
    by : (n m : ℕ) → n ≤ m → (b : Bool) → nat_le n 1 ≡ b → (d : Bool) → nat_le m 1 ≡ d → Extends (if b then schema_1 else schema_2) (if d then schema_1 else schema_2)
    by n m le true e true f = itself_extends schema_1
    by n m le true e false f = first_grows
    by n m le false e false f = itself_extends schema_2
    by n m le false e true f = let low = leb-true m 1 f in let high = leb-false n 1 e in absurd (omega (arith, le, low, high))

-- every schema is within schema 2
pub second_is_last : (n : ℕ) → Extends (numbered n) (numbered 2)
second_is_last n = by (nat_le n 1)
  where
    by : (b : Bool) → Extends (if b then schema_1 else schema_2) schema_2
    by true = first_grows
    by false = itself_extends schema_2
