-- What is met at all is met within as many steps as there are objects.
use Rattle.std.proofs.Common.{◌≡◌, ◌⊎◌, inl, inr, ℕ, zero, suc, ◌<◌, ◌≤◌, Bool, true, false, cond, not, List, [], ◌∷◌, Some, None, refl, sym, ap, ◌∙◌, subst, filter, length, arith}
use Rattle.std.specs.Ordering.{is_eq}
use Rattle.std.proofs.lemmas.Cmp.{tied_itself, nat_list_cmp_total}
use Rattle.std.proofs.lemmas.Map.Lookups.{exact_bytes}
use Rattle.adr_values.specs.Order.{identifier_order}
use Rattle.adr_model.specs.Update.{Identifier, same_identifier}
use Rattle.adr_model.specs.Place.{Node, node_at}
use Rattle.adr_model.proofs.Keys.{equal_order}
use Rattle.adr_law_tree.specs.Walk.{Up, Met}
use Rattle.adr_law_tree.proofs.Walks.{one, Keeps, is_found}

pub same_guid : (g h : Identifier) → same_identifier g h ≡ true → g ≡ h
same_guid g h same = exact_bytes g h (equal_order (identifier_order g h) same)

pub itself : (g : Identifier) → same_identifier g g ≡ true
itself g = ap is_eq (tied_itself nat_list_cmp_total g)

-- GUIDs are one or aren't
pub one_or_not : (g h : Identifier) → (g ≡ h) ⊎ (same_identifier g h ≡ false)
one_or_not g h = by (same_identifier g h) refl
  where
    by : (b : Bool) → same_identifier g h ≡ b → (g ≡ h) ⊎ (same_identifier g h ≡ false)
    by true is = inl (same_guid g h is)
    by false is = inr is

pub keeps : (all : List Node) → Keeps (node_at all)
keeps [] g p e = cc
keeps (n ∷ ns) g p e = by (same_identifier n.object.guid g) refl e (keeps ns g p)
  where
    by : (b : Bool) → same_identifier n.object.guid g ≡ b → cond b (Some n) (node_at ns g) ≡ Some p → (node_at ns g ≡ Some p → p.object.guid ≡ g) → p.object.guid ≡ g
    by true is found rest = let e : n ≡ p = one {o = Some n} refl found in ap (λ (m : Node). m.object.guid) (sym e) ∙ same_guid n.object.guid g is
    by false is found rest = rest found

-- objects without that of a GUID
abbrev pub without : Identifier → List Node → List Node
without q all = filter (λ (n : Node). not (same_identifier n.object.guid q)) all

none_there : (q : Identifier) (all : List Node) → node_at (without q all) q ≡ None
none_there q [] = refl
none_there q (n ∷ ns) = by (same_identifier n.object.guid q) refl (none_there q ns)
  where
    by : (b : Bool) → same_identifier n.object.guid q ≡ b → node_at (without q ns) q ≡ None → node_at (cond (not b) (n ∷ without q ns) (without q ns)) q ≡ None
    by true is rest = rest
    by false is rest = ap (λ b. cond b (Some n) (node_at (without q ns) q)) is ∙ rest

others : (q g : Identifier) → same_identifier g q ≡ false → (all : List Node) → node_at (without q all) g ≡ node_at all g
others q g other [] = refl
others q g other (n ∷ ns) = by (same_identifier n.object.guid q) refl (same_identifier n.object.guid g) refl (others q g other ns)
  where
    by : (b : Bool) → same_identifier n.object.guid q ≡ b → (c : Bool) → same_identifier n.object.guid g ≡ c → node_at (without q ns) g ≡ node_at ns g
        → node_at (cond (not b) (n ∷ without q ns) (without q ns)) g ≡ cond c (Some n) (node_at ns g)
    by true is false isnt rest = rest
    by true is true too rest =
        let e : g ≡ q = sym (same_guid n.object.guid g too) ∙ same_guid n.object.guid q is in
        let t : same_identifier g q ≡ true = subst (λ h. same_identifier h q ≡ true) (sym e) (itself q) in cc
    by false is c isnt rest = ap (λ b. cond b (Some n) (node_at (without q ns) g)) isnt ∙ ap (λ o. cond c (Some n) o) rest

pub filter_le : (test : Node → Bool) (ns : List Node) → length (filter test ns) ≤ length ns
filter_le test [] = omega arith
filter_le test (n ∷ ns) = by (test n) (filter_le test ns)
  where
    by : (b : Bool) → length (filter test ns) ≤ length ns → length (cond b (n ∷ filter test ns) (filter test ns)) ≤ suc (length ns)
    by true rest = omega (arith, rest)
    by false rest = omega (arith, rest)

shorter : (q : Identifier) (p : Node) (all : List Node) → node_at all q ≡ Some p → length (without q all) < length all
shorter q p [] e = cc
shorter q p (n ∷ ns) e = by (same_identifier n.object.guid q) e (shorter q p ns) (filter_le (λ (m : Node). not (same_identifier m.object.guid q)) ns)
  where
    by : (b : Bool) → cond b (Some n) (node_at ns q) ≡ Some p → (node_at ns q ≡ Some p → length (without q ns) < length ns) → length (without q ns) ≤ length ns
        → length (cond (not b) (n ∷ without q ns) (without q ns)) < suc (length ns)
    by true found rest all_less = omega (arith, all_less)
    by false found rest all_less = let r : length (without q ns) < length ns = rest found in omega (arith, r)

-- a way to another object, without the object of a GUID or from there in fewer steps
abbrev Cut : List Node → Identifier → Node → Node → ℕ → Identifier → Type 0
Cut all q p m k h = Up (node_at (without q all)) k h m ⊎ ((j : ℕ) × (j < k) × Up (node_at all) j p.parent m)

cut : (all : List Node) (q : Identifier) (p m : Node) → node_at all q ≡ Some p → same_identifier m.object.guid q ≡ false → (k : ℕ) (h : Identifier) → Up (node_at all) k h m → Cut all q p m k h
cut all q p m here other zero h up =
    inl (others q h (subst (λ g. same_identifier g q ≡ false) (keeps all h m up) other) all ∙ up)
cut all q p m here other (suc k) h (r, e, up) = by (one_or_not h q) (cut all q p m here other k r.parent up)
  where
    by : (h ≡ q) ⊎ (same_identifier h q ≡ false) → Cut all q p m k r.parent → Cut all q p m (suc k) h
    by (inl is) rest =
        let same : r ≡ p = one e (ap (node_at all) is ∙ here) in
        inr (k, (let lt : k < suc k = omega arith in lt), subst (λ (n : Node). Up (node_at all) k n.parent m) same up)
    by (inr isnt) (inl rest) = inl (r, others q h isnt all ∙ e, rest)
    by (inr isnt) (inr (j, lt, rest)) = inr (j, (let l : j < suc k = omega (arith, lt) in l), rest)

around_it : (all : List Node) (q : Identifier) (p m : Node) → node_at all q ≡ Some p → same_identifier m.object.guid q ≡ false → (bound k : ℕ) → k < bound → Up (node_at all) k p.parent m → Met (node_at (without q all)) p.parent m
around_it all q p m here other zero k less up = absurd (omega (arith, less))
around_it all q p m here other (suc bound) k less up = by (cut all q p m here other k p.parent up) (λ j l u. around_it all q p m here other bound j l u)
  where
    by : Cut all q p m k p.parent → ((j : ℕ) → j < bound → Up (node_at all) j p.parent m → Met (node_at (without q all)) p.parent m) → Met (node_at (without q all)) p.parent m
    by (inl rest) again = (k, rest)
    by (inr (j, lt, rest)) again = again j (omega (arith, lt, less)) rest

back_in : (all : List Node) (q : Identifier) (k : ℕ) (g : Identifier) (m : Node) → Up (node_at (without q all)) k g m → Up (node_at all) k g m
back_in all q zero g m up = by (one_or_not g q)
  where
    by : (g ≡ q) ⊎ (same_identifier g q ≡ false) → node_at all g ≡ Some m
    by (inl is) = let none : node_at (without q all) g ≡ None = ap (node_at (without q all)) is ∙ none_there q all in cc
    by (inr isnt) = sym (others q g isnt all) ∙ up
back_in all q (suc k) g m (p, e, up) = (p, by (one_or_not g q), back_in all q k p.parent m up)
  where
    by : (g ≡ q) ⊎ (same_identifier g q ≡ false) → node_at all g ≡ Some p
    by (inl is) = let none : node_at (without q all) g ≡ None = ap (node_at (without q all)) is ∙ none_there q all in cc
    by (inr isnt) = sym (others q g isnt all) ∙ e

abbrev pub Within : ℕ → List Node → Identifier → Node → Type 0
Within n all g m = (k : ℕ) × (k < n) × Up (node_at all) k g m

-- THE LAW: what is met is met within as many steps as there are objects
pub met_within : (n : ℕ) (all : List Node) → length all ≤ n → (g : Identifier) (m : Node) → Met (node_at all) g m → Within n all g m
met_within zero [] less g m (zero, e) = cc
met_within zero [] less g m (suc k, (p, e, up)) = cc
met_within zero (x ∷ xs) less g m up = absurd (omega (arith, less))
met_within (suc n) all less g m (zero, e) = (zero, (let l : zero < suc n = omega arith in l), e)
met_within (suc n) all less g m (suc k, (p, e, up)) =
    by (one_or_not m.object.guid g) (λ other.
    met_within n (without g all) (let s : length (without g all) < length all = shorter g p all e in omega (arith, s, less)) p.parent m
    (around_it all g p m e other (suc k) k (omega arith) up))
  where
    by : (m.object.guid ≡ g) ⊎ (same_identifier m.object.guid g ≡ false) → (same_identifier m.object.guid g ≡ false → Within n (without g all) p.parent m) → Within (suc n) all g m
    by (inl is) rest = (zero, (let l : zero < suc n = omega arith in l), ap (node_at all) (sym is) ∙ is_found (node_at all) (keeps all) k p.parent m up)
    by (inr other) rest =
        let t = rest other in
        (suc t.0, (let l : suc t.0 < suc n = omega (arith, t.1) in l), (p, e, back_in all g t.0 p.parent m t.2))
