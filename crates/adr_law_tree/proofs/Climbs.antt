-- Whether an object is met going up, by a walk that goes round no loop twice.
use Rattle.std.proofs.Common.{◌≡◌, ℕ, zero, suc, ◌<◌, ◌≤◌, Bool, true, false, cond, ◌&&◌, ◌||◌, List, [], ◌∷◌, Option, Some, None, refl, sym, ap, ◌∙◌, subst, length, arith}
use Rattle.std.specs.Option.{option_map_or}
use Rattle.std.specs.List.{list_any}
use Rattle.std.specs.Prelude.{if◌then◌else◌}
use Rattle.adr_model.specs.Member.{Member}
use Rattle.adr_model.specs.Update.{Identifier, same_identifier}
use Rattle.adr_model.specs.Place.{Node, node_at, is_fixed, breaks_loop, upward, first_place}
use Rattle.adr_model.proofs.Members.{one_passes, some_passes}
use Rattle.adr_law_tree.specs.Walk.{Look, climb, Up, Met, Breaks, free}
use Rattle.adr_law_tree.specs.Opening.{climbs, ClimbLaw}
use Rattle.adr_law_tree.proofs.Walks.{one, Keeps, is_found, around, ToldApart}
use Rattle.adr_law_tree.proofs.Unfixed.{keeps_free, within_free, free_of, fixed_of}
use Rattle.adr_law_tree.proofs.Closing.{one_round}
use Rattle.adr_law_tree.proofs.Loops.{upward_is, mapped_alike, in_climb, of_climb, same_bools, breaks, told_apart}

or_true : (b c : Bool) → c ≡ true → (b || c) ≡ true
or_true true c e = refl
or_true false c e = e

module _ (at : Look) (keeps_at : Keeps at) (apart : ToldApart at) (stop : Node → Bool) (breaks_at : (p : Node) → at p.object.guid ≡ Some p → stop p ≡ true → Breaks at p) (target : Identifier) where
  abbrev Goes : Bool → ℕ → Option Node → Bool
  Goes seen left o = option_map_or (λ p. same_identifier p.object.guid target || (if stop p && seen then false else climbs at stop target (stop p || seen) left p.parent)) o false

  -- what the walk meets is there
  meets : (left : ℕ) (seen : Bool) (g : Identifier) → climbs at stop target seen left g ≡ true → (m : Node) × Met at g m × (same_identifier m.object.guid target ≡ true)
  meets zero seen g e = cc
  meets (suc left) seen g e = by (at g) refl e (λ p s. meets left s p.parent)
    where
      by : (o : Option Node) → at g ≡ o → Goes seen left o ≡ true
          → ((p : Node) (s : Bool) → climbs at stop target s left p.parent ≡ true → (m : Node) × Met at p.parent m × (same_identifier m.object.guid target ≡ true))
          → (m : Node) × Met at g m × (same_identifier m.object.guid target ≡ true)
      by None found e again = cc
      by (Some p) found e again = on (same_identifier p.object.guid target) refl (stop p && seen) e
        where
          on : (t : Bool) → same_identifier p.object.guid target ≡ t → (b : Bool) → (t || (if b then false else climbs at stop target (stop p || seen) left p.parent)) ≡ true
              → (m : Node) × Met at g m × (same_identifier m.object.guid target ≡ true)
          on true same b e = (p, (zero, found), same)
          on false same true e = cc
          on false same false e = let t = again p (stop p || seen) e in (t.0, (suc t.1.0, (p, found, t.1.1)), t.2)

  module _ (m : Node) (is_target : same_identifier m.object.guid target ≡ true) where
    -- a way that doesn't meet the target
    abbrev Clear : ℕ → Identifier → Identifier → Type 0
    Clear zero h g = h ≡ g
    Clear (suc n) h g = (p : Node) × (at h ≡ Some p) × (same_identifier p.object.guid target ≡ false) × Clear n p.parent g

    clear_more : (n : ℕ) (h g : Identifier) (p : Node) → Clear n h g → at g ≡ Some p → same_identifier p.object.guid target ≡ false → Clear (suc n) h p.parent
    clear_more zero h g p way e other = (p, ap at way ∙ e, other, refl)
    clear_more (suc n) h g p (q, f, d, way) e other = (q, f, d, clear_more n q.parent g p way e other)

    clear_up : (n : ℕ) (h g : Identifier) (p : Node) → Clear n h g → at g ≡ Some p → Up at n h p
    clear_up zero h g p way e = ap at way ∙ e
    clear_up (suc n) h g p (q, f, d, way) e = (q, f, clear_up n q.parent g p way e)

    clear_of : (n i : ℕ) (h g : Identifier) → Clear n h g → i < n → Up at i h m → ⊥
    clear_of zero i h g way less up = omega (arith, less)
    clear_of (suc n) zero h g (q, f, d, way) less up =
        let t : same_identifier q.object.guid target ≡ true = subst (λ (y : Node). same_identifier y.object.guid target ≡ true) (one up f) is_target in cc
    clear_of (suc n) (suc i) h g (q, f, d, way) less (p, e, up) = clear_of n i q.parent g way (omega (arith, less)) (subst (λ (y : Node). Up at i y.parent m) (one e f) up)

    -- a broken loop that was seen, and the clear way from it
    abbrev Seen : Bool → Identifier → Type 0
    Seen false g = Unit {0}
    Seen true g = (b : Node) × Breaks at b × ((n : ℕ) × Clear n b.parent g)

    seen_more : (p : Node) (s seen : Bool) (g : Identifier) → stop p ≡ s → at g ≡ Some p → same_identifier p.object.guid target ≡ false → Seen seen g → Seen (s || seen) p.parent
    seen_more p true seen g stops found other way = (p, breaks_at p (ap at (keeps_at g p found) ∙ found) stops, (zero, refl))
    seen_more p false false g stops found other way = tt
    seen_more p false true g stops found other (b, breaks_b, way) = (b, breaks_b, (suc way.0, clear_more way.0 b.parent g p way.1 found other))

    -- round a loop without the target there is no target
    second : (g : Identifier) (p : Node) → stop p ≡ true → at g ≡ Some p → same_identifier p.object.guid target ≡ false → Seen true g → Met at p.parent m → ⊥
    second g p stops found other (b, breaks_b, (n, way)) up =
        let here : at p.object.guid ≡ Some p = ap at (keeps_at g p found) ∙ found in
        let breaks_p : Breaks at p = breaks_at p here stops in
        let to_p : Up at n b.parent p = clear_up n b.parent g p way found in
        let back_to_b : Met at p.parent b = around at b p breaks_b.0 (n, to_p) in
        let here_b : at b.object.guid ≡ Some b = is_found at keeps_at back_to_b.0 p.parent b back_to_b.1 in
        let it : p ≡ b = apart p b here here_b (breaks_p.1 b back_to_b) (breaks_b.1 p (n, to_p)) in
        finish it (subst (λ (y : Node). Up at n b.parent y) it to_p) (subst (λ (y : Node). Met at y.parent m) it up)
      where
        finish : p ≡ b → Up at n b.parent b → Met at b.parent m → ⊥
        finish it round to_m = by (one_round at n b m round (suc to_m.0) to_m.0 (omega arith) to_m.1)
          where
            by : (i : ℕ) × (i ≤ n) × Up at i b.parent m → ⊥
            by (i, le, u) = clear_of (suc n) i b.parent p.parent (clear_more n b.parent g p way found other) (omega (arith, le)) u

    -- what is there is met
    found_so : (left k : ℕ) (seen : Bool) (g : Identifier) → Seen seen g → k < left → Up at k g m → climbs at stop target seen left g ≡ false → ⊥
    found_so zero k seen g way less up e = omega (arith, less)
    found_so (suc left) k seen g way less up e = by (at g) refl e k less up (λ p s j. found_so left j s p.parent)
      where
        by : (o : Option Node) → at g ≡ o → Goes seen left o ≡ false → (j : ℕ) → j < suc left → Up at j g m
            → ((p : Node) (s : Bool) (i : ℕ) → Seen s p.parent → i < left → Up at i p.parent m → climbs at stop target s left p.parent ≡ false → ⊥) → ⊥
        by None found e zero l u again = cc
        by None found e (suc j) l (q, f, u) again = cc
        by (Some p) found e zero l u again =
            let t : same_identifier p.object.guid target ≡ true = subst (λ (y : Node). same_identifier y.object.guid target ≡ true) (one u found) is_target in cc
        by (Some p) found e (suc j) l (q, f, u) again = on (same_identifier p.object.guid target) refl (stop p) refl seen way e
          where
            go : Up at j p.parent m
            go = subst (λ (y : Node). Up at j y.parent m) (one f found) u

            on : (t : Bool) → same_identifier p.object.guid target ≡ t → (s : Bool) → stop p ≡ s → (z : Bool) → Seen z g
                → (t || (if s && z then false else climbs at stop target (s || z) left p.parent)) ≡ false → ⊥
            on true same s stops z w e = cc
            on false other true stops true w e = second g p stops found other w (j, go)
            on false other true stops false w e = again p true j (seen_more p true false g stops found other w) (omega (arith, l)) go e
            on false other false stops true w e = again p true j (seen_more p false true g stops found other w) (omega (arith, l)) go e
            on false other false stops false w e = again p false j tt (omega (arith, l)) go e

-- the way up from any GUID
upward_from : (all : List Node) (k : ℕ) (g : Identifier) → upward all k g ≡ climb (free all) k g
upward_from all zero g = refl
upward_from all (suc k) g = by (is_fixed g) refl
  where
    by : (b : Bool) → is_fixed g ≡ b → cond b [] (option_map_or (λ p. p ∷ upward all k (first_place all p)) (node_at all g) []) ≡ climb (free all) (suc k) g
    by true e = sym (ap (λ o. option_map_or (λ p. p ∷ climb (free all) k p.parent) o []) (fixed_of all g e))
    by false e =
        mapped_alike (λ p. p ∷ upward all k (first_place all p)) (λ p. p ∷ climb (free all) k p.parent) (λ p. ap (λ ns. p ∷ ns) (upward_is all k p)) (node_at all g)
        ∙ sym (ap (λ o. option_map_or (λ p. p ∷ climb (free all) k p.parent) o []) (free_of all g e))

pub climb_law : ClimbLaw
climb_law all target guid left enough = same_bools _ _ to back
  where
    F : Look
    F = free all

    breaks_at : (p : Node) → F p.object.guid ≡ Some p → breaks_loop all p ≡ true → Breaks F p
    breaks_at p here e = breaks all p (λ y f. one f here) e

    test : Node → Bool
    test m = same_identifier m.object.guid target

    to : climbs F (breaks_loop all) target false left guid ≡ true → list_any test (upward all (length all) guid) ≡ true
    to e =
        let t = meets F (keeps_free all) (told_apart all) (breaks_loop all) breaks_at target left false guid e in
        let w = within_free (length all) all (omega arith) guid t.0 t.1 in
        one_passes test (upward all (length all) guid) t.0 (subst (Member t.0) (sym (upward_from all (length all) guid)) (in_climb F (length all) guid t.0 w.0 w.1 w.2)) t.2

    back : list_any test (upward all (length all) guid) ≡ true → climbs F (breaks_loop all) target false left guid ≡ true
    back e =
        let t = some_passes test (upward all (length all) guid) e in
        let up = of_climb F (length all) guid t.0 (subst (Member t.0) (upward_from all (length all) guid) t.1) in
        let w = within_free left all enough guid t.0 up in
        by t.0 t.2 w.0 w.1 w.2 (climbs F (breaks_loop all) target false left guid) refl
      where
        by : (m : Node) → test m ≡ true → (k : ℕ) → k < left → Up F k guid m → (b : Bool) → climbs F (breaks_loop all) target false left guid ≡ b → b ≡ true
        by m same k less up true e = refl
        by m same k less up false e = absurd (found_so F (keeps_free all) (told_apart all) (breaks_loop all) breaks_at target m same left k false guid tt less up e)
