-- The tests of directories and of vectors say that they are equal.
use Rattle.std.proofs.Common.{◌≡◌, ℕ, List, ◌∷◌, Bool, true, ◌&&◌, ◌==◌, Decides, Option, Some, None, refl, sym, ap, ◌∙◌, map}
use Rattle.std.specs.Cmp.Lexicographic.{pointwise, pointwise_decides}
use Rattle.std.specs.Str.{bytes_eq}
use Rattle.std.proofs.lemmas.Bool.{and_parts, and_from}
use Rattle.std.proofs.lemmas.Bool.Decides.{Decides-eqb}
use Rattle.std.proofs.lemmas.Slice.Eq.{bytes_eq-Decides}
use Rattle.adr_values.specs.declared.content.Value.{Value as Item}
use Rattle.adr_values.specs.Values.{same_value}
use Rattle.adr_values.proofs.Exact.{same_value-Decides}
use Rattle.adr_call.specs.declared.directory.Entry.{Entry}
use Rattle.adr_model.specs.Member.{Each}
use Rattle.adr_model.specs.Update.{Identifier}
use Rattle.adr_model.specs.Rings.{same_values, same_links, same_entry, same_cursor, same_option, all_alike}
use Rattle.adr_model.proofs.Members.{all_pass, mapped_member}

-- pairs of a number and something
numbered-Decides : {A : Type 0} (same : A → A → Bool) → ((a b : A) → Decides (same a b) (a ≡ b)) → (v w : ℕ × A) → Decides ((v.0 == w.0) && same v.1 w.1) (v ≡ w)
numbered-Decides {A} same each v w = (to, back)
  where
    to : ((v.0 == w.0) && same v.1 w.1) ≡ true → v ≡ w
    to e = let t = and_parts (v.0 == w.0) (same v.1 w.1) e in ap (λ (n : ℕ). let p : ℕ × A = (n, v.1) in p) ((Decides-eqb v.0 w.0).0 t.0) ∙ ap (λ (a : A). let p : ℕ × A = (w.0, a) in p) ((each v.1 w.1).0 t.1)

    back : v ≡ w → ((v.0 == w.0) && same v.1 w.1) ≡ true
    back e = and_from (v.0 == w.0) (same v.1 w.1) ((Decides-eqb v.0 w.0).1 (ap (λ (p : ℕ × A). p.0) e)) ((each v.1 w.1).1 (ap (λ (p : ℕ × A). p.1) e))

values-Decides : (v w : ℕ × List Item) → Decides (same_values v w) (v ≡ w)
values-Decides = numbered-Decides (pointwise same_value) (pointwise_decides same_value-Decides)

links-Decides : (l k : ℕ × List Identifier) → Decides (same_links l k) (l ≡ k)
links-Decides = numbered-Decides (pointwise bytes_eq) (pointwise_decides bytes_eq-Decides)

pub entry-Decides : (e f : Entry) → Decides (same_entry e f) (e ≡ f)
entry-Decides e f = (to, back)
  where
    to : same_entry e f ≡ true → e ≡ f
    to h =
        let a = and_parts _ (pointwise same_links e.links f.links) h in
        let b = and_parts _ (pointwise same_values e.values f.values) a.0 in
        let c = and_parts _ (bytes_eq e.name f.name) b.0 in
        let d = and_parts _ (bytes_eq e.parent f.parent) c.0 in
        let g = and_parts (bytes_eq e.guid f.guid) (e.class == f.class) d.0 in
        all ((bytes_eq-Decides e.guid f.guid).0 g.0) ((Decides-eqb e.class f.class).0 g.1) ((bytes_eq-Decides e.parent f.parent).0 d.1) ((bytes_eq-Decides e.name f.name).0 c.1)
        ((pointwise_decides values-Decides e.values f.values).0 b.1) ((pointwise_decides links-Decides e.links f.links).0 a.1)
      where
        all : e.guid ≡ f.guid → e.class ≡ f.class → e.parent ≡ f.parent → e.name ≡ f.name → e.values ≡ f.values → e.links ≡ f.links → e ≡ f
        all one two three four five six = λ i. record { guid = one i; class = two i; parent = three i; name = four i; values = five i; links = six i }

    back : e ≡ f → same_entry e f ≡ true
    back h =
        let a = and_from _ _ ((bytes_eq-Decides e.guid f.guid).1 (ap (λ (x : Entry). x.guid) h)) ((Decides-eqb e.class f.class).1 (ap (λ (x : Entry). x.class) h)) in
        let b = and_from _ _ a ((bytes_eq-Decides e.parent f.parent).1 (ap (λ (x : Entry). x.parent) h)) in
        let c = and_from _ _ b ((bytes_eq-Decides e.name f.name).1 (ap (λ (x : Entry). x.name) h)) in
        let d = and_from _ _ c ((pointwise_decides values-Decides e.values f.values).1 (ap (λ (x : Entry). x.values) h)) in
        and_from _ _ d ((pointwise_decides links-Decides e.links f.links).1 (ap (λ (x : Entry). x.links) h))

pub cursor-Decides : (c d : Identifier × ℕ) → Decides (same_cursor c d) (c ≡ d)
cursor-Decides c d = (to, back)
  where
    to : same_cursor c d ≡ true → c ≡ d
    to e = let t = and_parts (bytes_eq c.0 d.0) (c.1 == d.1) e in
        ap (λ (i : Identifier). let p : Identifier × ℕ = (i, c.1) in p) ((bytes_eq-Decides c.0 d.0).0 t.0) ∙ ap (λ (n : ℕ). let p : Identifier × ℕ = (d.0, n) in p) ((Decides-eqb c.1 d.1).0 t.1)

    back : c ≡ d → same_cursor c d ≡ true
    back e = and_from (bytes_eq c.0 d.0) (c.1 == d.1) ((bytes_eq-Decides c.0 d.0).1 (ap (λ (p : Identifier × ℕ). p.0) e)) ((Decides-eqb c.1 d.1).1 (ap (λ (p : Identifier × ℕ). p.1) e))

option-Decides : {A : Type 0} (same : A → A → Bool) → ((a b : A) → Decides (same a b) (a ≡ b)) → (a b : Option A) → Decides (same_option same a b) (a ≡ b)
option-Decides same each (Some a) (Some b) = (λ e. ap Some ((each a b).0 e), λ e. (each a b).1 (cc))
option-Decides same each None None = (λ e. refl, λ e. refl)
option-Decides same each (Some a) None = (λ e. cc, λ e. cc)
option-Decides same each None (Some b) = (λ e. cc, λ e. cc)

-- all are alike where each is as the first
pub alike_where_equal : {A B : Type 0} (same : B → B → Bool) → ((a b : B) → Decides (same a b) (a ≡ b)) → (f : A → Option B) (x : A) (xs : List A) → Each (λ y. f y ≡ f x) xs
    → all_alike (same_option same) (map f (x ∷ xs)) ≡ true
alike_where_equal {A} {B} same each f x xs equal = all_pass (same_option same (f x)) (map f xs) pass
  where
    pass : Each (λ o. same_option same (f x) o ≡ true) (map f xs)
    pass o m = let t = mapped_member f xs o m in (option-Decides same each (f x) o).1 (sym (t.2 ∙ equal t.0 t.1))
