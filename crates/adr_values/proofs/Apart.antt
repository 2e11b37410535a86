-- Entries with two keys: where the second keys differ, the entry that is found by its first key is found by its second.
use Rattle.std.proofs.Common.{◌≡◌, ℕ, List, [], ◌∷◌, Bool, true, false, cond, ◌&&◌, not, None, Some, Decides, refl, subst, ap}
use Rattle.std.specs.Prelude.{◌↔◌, nat_eq}
use Rattle.std.specs.List.{find, list_all}
use Rattle.std.specs.Option.{option_map}
use Rattle.std.specs.Str.{bytes_eq}
use Rattle.std.proofs.lemmas.Bool.{and_parts}
use Rattle.std.proofs.lemmas.Bool.Decides.{Decides-eqb}
use Rattle.std.proofs.lemmas.Slice.Eq.{bytes_eq-Decides}
use Rattle.adr_values.specs.Names.{class_name, class_number, attribute_name, attribute_number}
use Rattle.adr_values.specs.Schemas.{spoken, schema_2}
use Rattle.adr_values.specs.Table.{Class, Attribute}

module _ {X K L : Type 0} (key : X → K) (other : X → L) (is_key : K → K → Bool) (is_other : L → L → Bool) (keys : (a b : K) → Decides (is_key a b) (a ≡ b)) (others : (a b : L) → Decides (is_other a b) (a ≡ b)) where
  -- no entry's second key is that of a later one
  abbrev pub apart : List X → Bool
  apart [] = true
  apart (x ∷ xs) = list_all (λ y. not (is_other (other y) (other x))) xs && apart xs

  false_from_not : (b : Bool) → not b ≡ true → b ≡ false
  false_from_not true h = cc
  false_from_not false h = refl

  -- a second key that no entry has is not found
  absent : (o : L) (xs : List X) → list_all (λ y. not (is_other (other y) o)) xs ≡ true → find (λ y. is_other (other y) o) xs ≡ None
  absent o [] h = refl
  absent o (x ∷ xs) h =
      let parts = and_parts (not (is_other (other x) o)) (list_all (λ y. not (is_other (other y) o)) xs) h in
      rw (false_from_not (is_other (other x) o) parts.0) (absent o xs parts.1)

  -- the first entry stands aside for a second key that is found behind it
  aside : (x : X) (xs : List X) (k : K) (o : L) (b : Bool) → is_other (other x) o ≡ b → list_all (λ y. not (is_other (other y) (other x))) xs ≡ true
      → option_map key (find (λ y. is_other (other y) o) xs) ≡ Some k
      → option_map key (cond b (Some x) (find (λ y. is_other (other y) o) xs)) ≡ Some k
  aside x xs k o false e lone found = found
  aside x xs k o true e lone found =
      let same : other x ≡ o = (others (other x) o).0 e in
      let none : find (λ y. is_other (other y) o) xs ≡ None = absent o xs (subst (λ l. list_all (λ y. not (is_other (other y) l)) xs ≡ true) same lone) in
      let gone : option_map key None ≡ Some k = rw none at found in
      cc

  -- the first entry is the one that is found, or stands aside
  first : (x : X) (xs : List X) (k : K) (o : L) (b : Bool) → is_key (key x) k ≡ b → list_all (λ y. not (is_other (other y) (other x))) xs ≡ true
      → (option_map other (find (λ y. is_key (key y) k) xs) ≡ Some o → option_map key (find (λ y. is_other (other y) o) xs) ≡ Some k)
      → option_map other (cond b (Some x) (find (λ y. is_key (key y) k) xs)) ≡ Some o
      → option_map key (cond (is_other (other x) o) (Some x) (find (λ y. is_other (other y) o) xs)) ≡ Some k
  first x xs k o true e lone rest found =
      let here : other x ≡ o = cc in
      let is : is_other (other x) o ≡ true = (others (other x) o).1 here in
      rw is (ap Some ((keys (key x) k).0 e))
  first x xs k o false e lone rest found = aside x xs k o (is_other (other x) o) refl lone (rest found)

  -- the entry of the first key k, whose second key is o, is the entry of the second key o
  pub found_by_other : (xs : List X) → apart xs ≡ true → (k : K) (o : L)
      → option_map other (find (λ x. is_key (key x) k) xs) ≡ Some o → option_map key (find (λ x. is_other (other x) o) xs) ≡ Some k
  found_by_other [] h k o found = cc
  found_by_other (x ∷ xs) h k o found =
      let parts = and_parts (list_all (λ y. not (is_other (other y) (other x))) xs) (apart xs) h in
      first x xs k o (is_key (key x) k) refl parts.0 (found_by_other xs parts.1 k o) found

-- where no two entries share a number or a name, the number is told by the name and the name by the number
module _ {X : Type 0} (number : X → ℕ) (name : X → List ℕ) (xs : List X) where
  abbrev AreApart : Type 0
  AreApart = (apart number name nat_eq bytes_eq Decides-eqb bytes_eq-Decides xs ≡ true) × (apart name number bytes_eq nat_eq bytes_eq-Decides Decides-eqb xs ≡ true)

  told_apart : AreApart → (n : ℕ) (text : List ℕ)
      → (option_map name (find (λ x. nat_eq (number x) n) xs) ≡ Some text) ↔ (option_map number (find (λ x. bytes_eq (name x) text) xs) ≡ Some n)
  told_apart are n text = (
    found_by_other number name nat_eq bytes_eq Decides-eqb bytes_eq-Decides xs are.0 n text,
    found_by_other name number bytes_eq nat_eq bytes_eq-Decides Decides-eqb xs are.1 text n,
  )

pub classes_told_apart : (number : ℕ) (name : List ℕ) → (class_name number ≡ Some name) ↔ (class_number name ≡ Some number)
unfolding schema_2
classes_told_apart number name = told_apart (λ (c : Class). c.number) (λ (c : Class). c.name) spoken.classes (refl, refl) number name

pub attributes_told_apart : (number : ℕ) (name : List ℕ) → (attribute_name number ≡ Some name) ↔ (attribute_number name ≡ Some number)
unfolding schema_2
attributes_told_apart number name = told_apart (λ (a : Attribute). a.number) (λ (a : Attribute). a.name) spoken.attributes (refl, refl) number name
