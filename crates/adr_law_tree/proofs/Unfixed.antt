-- What a walk looks up: live objects whose GUIDs aren't fixed.
use Rattle.std.proofs.Common.{◌≡◌, ⊎_elim, ℕ, zero, suc, ◌<◌, ◌≤◌, Bool, true, false, cond, not, List, [], ◌∷◌, Option, Some, None, refl, sym, ap, ◌∙◌, filter, length, arith}
use Rattle.adr_model.specs.Update.{Identifier, same_identifier}
use Rattle.adr_model.specs.Place.{Node, node_at, is_fixed}
use Rattle.adr_law_tree.specs.Walk.{Look, Up, Met, free}
use Rattle.adr_law_tree.proofs.Walks.{Keeps}
use Rattle.adr_law_tree.proofs.Fuel.{same_guid, one_or_not, keeps, met_within, filter_le}

abbrev unfixed : List Node → List Node
unfixed all = filter (λ (n : Node). not (is_fixed n.object.guid)) all

unfixed_at : (all : List Node) (g : Identifier) → node_at (unfixed all) g ≡ free all g
unfixed_at [] g = by (is_fixed g)
  where
    by : (b : Bool) → ◌≡◌ {A = Option Node} None (cond b None None)
    by true = refl
    by false = refl
unfixed_at (n ∷ ns) g = by (is_fixed n.object.guid) refl (is_fixed g) refl (same_identifier n.object.guid g) refl (unfixed_at ns g)
  where
    by : (b : Bool) → is_fixed n.object.guid ≡ b → (c : Bool) → is_fixed g ≡ c → (d : Bool) → same_identifier n.object.guid g ≡ d → node_at (unfixed ns) g ≡ cond (is_fixed g) None (node_at ns g)
        → node_at (cond (not b) (n ∷ unfixed ns) (unfixed ns)) g ≡ cond c None (cond d (Some n) (node_at ns g))
    by true bs true cs d ds rest = rest ∙ ap (λ x. cond x None (node_at ns g)) cs
    by true bs false cs true ds rest = let t : is_fixed g ≡ true = ap is_fixed (sym (same_guid n.object.guid g ds)) ∙ bs in cc
    by true bs false cs false ds rest = rest ∙ ap (λ x. cond x None (node_at ns g)) cs
    by false bs true cs true ds rest = let t : is_fixed g ≡ false = ap is_fixed (sym (same_guid n.object.guid g ds)) ∙ bs in cc
    by false bs true cs false ds rest = ap (λ x. cond x (Some n) (node_at (unfixed ns) g)) ds ∙ rest ∙ ap (λ x. cond x None (node_at ns g)) cs
    by false bs false cs d ds rest = ap (λ x. cond x (Some n) (node_at (unfixed ns) g)) ds ∙ ap (λ o. cond d (Some n) o) (rest ∙ ap (λ x. cond x None (node_at ns g)) cs)

pub moved : (at also : Look) → ((g : Identifier) → at g ≡ also g) → (k : ℕ) (g : Identifier) (m : Node) → Up at k g m → Up also k g m
moved at also same zero g m up = sym (same g) ∙ up
moved at also same (suc k) g m (p, e, up) = (p, sym (same g) ∙ e, moved at also same k p.parent m up)

pub found_free : (all : List Node) (g : Identifier) (p : Node) → free all g ≡ Some p → node_at all g ≡ Some p
found_free all g p e = by (is_fixed g) e
  where
    by : (b : Bool) → cond b None (node_at all g) ≡ Some p → node_at all g ≡ Some p
    by true e = cc
    by false e = e

pub free_of : (all : List Node) (g : Identifier) → is_fixed g ≡ false → free all g ≡ node_at all g
free_of all g e = ap (λ b. cond b None (node_at all g)) e

pub fixed_of : (all : List Node) (g : Identifier) → is_fixed g ≡ true → free all g ≡ None
fixed_of all g e = ap (λ b. cond b None (node_at all g)) e

pub keeps_free : (all : List Node) → Keeps (free all)
keeps_free all g p e = keeps all g p (found_free all g p e)

abbrev pub WithinFree : ℕ → List Node → Identifier → Node → Type 0
WithinFree n all g m = (k : ℕ) × (k < n) × Up (free all) k g m

pub within_free : (n : ℕ) (all : List Node) → length all ≤ n → (g : Identifier) (m : Node) → Met (free all) g m → WithinFree n all g m
within_free n all less g m up =
    let few : length (unfixed all) ≤ length all = filter_le (λ (n : Node). not (is_fixed n.object.guid)) all in
    let t = met_within n (unfixed all) (omega (arith, few, less)) g m (up.0, moved (free all) (node_at (unfixed all)) (λ h. sym (unfixed_at all h)) up.0 g m up.1) in
    (t.0, t.1, moved (node_at (unfixed all)) (free all) (unfixed_at all) t.0 g m t.2)

apart_fixed : (g h : Identifier) → is_fixed g ≡ false → is_fixed h ≡ true → same_identifier g h ≡ false
apart_fixed g h e f = ⊎_elim (λ (is : g ≡ h). let t : is_fixed g ≡ true = ap is_fixed is ∙ f in cc) (λ other. other) (one_or_not g h)

-- an object of a fixed GUID is no difference
pub fixed_apart : (all more : List Node) (x : Identifier) → is_fixed x ≡ true → ((g : Identifier) → same_identifier g x ≡ false → node_at more g ≡ node_at all g) → (g : Identifier) → free more g ≡ free all g
fixed_apart all more x fixed other g = by (is_fixed g) refl
  where
    by : (b : Bool) → is_fixed g ≡ b → cond b None (node_at more g) ≡ cond b None (node_at all g)
    by true e = refl
    by false e = other g (apart_fixed g x e fixed)
