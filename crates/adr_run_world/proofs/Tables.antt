-- What is bound to names, in a table of strings.
use Rattle.std.proofs.Common.{◌≡◌, inl, inr, List, [], ◌∷◌, ◌++◌, Bool, true, false, cond, map, Option, Some, None, refl, ap, ◌∙◌}
use Rattle.std.specs.Prelude.{String, string_bytes}
use Rattle.std.specs.List.{find}
use Rattle.std.specs.Map.{lookup}
use Rattle.std.specs.Option.{option_map}
use Rattle.std.specs.Str.{bytes_eq}
use Rattle.std.proofs.lemmas.Cmp.{nat_list_eq_equiv}
use Rattle.std.proofs.lemmas.List.{map-append}
use Rattle.indexmap.specs.IndexMap.{IndexMap, get, insert_entry}
use Rattle.indexmap.proofs.CallerLemmas.{insert_entry-new}
use Rattle.adr_model.specs.Convergence.{IsUnbound}
use Rattle.adr_model.specs.World.{Name, bound, bound_at}
use Rattle.adr_law_convergence.proofs.Found.{same_name}

-- nothing is found under a name that is unbound
pub nothing_bound : {A : Type 0} (xs : List (Name × A)) (name : Name) → IsUnbound xs name → bound_at xs name ≡ None
nothing_bound [] name free = refl
nothing_bound {A = A} (x ∷ xs) name free = by (bytes_eq x.0 name) refl (nothing_bound xs name (λ y m. free y (inr m)))
  where
    by : (b : Bool) → bytes_eq x.0 name ≡ b → bound_at xs name ≡ None → bound_at (x ∷ xs) name ≡ None
    by true e rest = absurd (free x (inl refl) (same_name x.0 name e))
    by false e rest = ap (λ b. option_map (λ (y : Name × A). y.1) (cond b (Some x) (find (λ (y : Name × A). bytes_eq y.0 name) xs))) e ∙ rest

picked : {A : Type 0} (b : Bool) (x : Name × A) (o : Option (Name × A)) → cond b (Some x.1) (option_map (λ (y : Name × A). y.1) o) ≡ option_map (λ (y : Name × A). y.1) (cond b (Some x) o)
picked true x o = refl
picked false x o = refl

module _ {Y A : Type 0} where
  -- an entry under the bytes of its name
  abbrev pub named : String Y × A → Name × A
  named p = (string_bytes p.0, p.1)

  -- a look-up by text finds what is bound
  pub found : (es : List (String Y × A)) (name : Name) → lookup (λ k. bytes_eq name (string_bytes k)) es ≡ bound_at (map named es) name
  found [] name = refl
  found (e ∷ es) name =
      rw (nat_list_eq_equiv.symm name (string_bytes e.0), found es name) (picked (bytes_eq (string_bytes e.0) name) (named e) (find (λ (y : Name × A). bytes_eq y.0 name) (map named es)))

  -- a new name goes last
  pub bound_last : {S : Type 0} (m : IndexMap (String Y) A S) (all : List (String Y × A)) (k : String Y) (v : A) (name : Name) → string_bytes k ≡ name → IsUnbound (map named m.entries) name
      → all ≡ insert_entry (λ x y. bytes_eq (string_bytes x) (string_bytes y)) m.entries k v → map named all ≡ bound (map named m.entries) name (Some v)
  bound_last m all k v name is free grown =
      let none : get (λ x y. bytes_eq (string_bytes x) (string_bytes y)) m k ≡ None = found m.entries (string_bytes k) ∙ ap (bound_at (map named m.entries)) is ∙ nothing_bound (map named m.entries) name free in
      ap (map named) (grown ∙ insert_entry-new (λ x y. bytes_eq (string_bytes x) (string_bytes y)) m k v none) ∙ map-append named m.entries ((k, v) ∷ [])
      ∙ ap (λ n. map named m.entries ++ (n, v) ∷ []) is
