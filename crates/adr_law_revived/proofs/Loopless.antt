-- The object that is revived is in no loop, and those that name it as parent stand under it again.
use Rattle.std.proofs.Common.{◌≡◌, ◌⊎◌, inl, inr, ⊎_elim, Bool, true, false, not, ◌&&◌, ◌||◌, ℕ, zero, suc, List, [], ◌∷◌, Some, None, is_some, refl, sym, ap, ◌∙◌, subst, length, if◌then◌else◌, arith}
use Rattle.std.specs.List.{list_any, list_all}
use Rattle.std.specs.Option.{option_map_or}
use Rattle.adr_model.specs.Member.{Member}
use Rattle.adr_model.specs.Update.{Identifier, same_identifier, same_object}
use Rattle.adr_model.specs.Place.{Node, is_fixed, lost_and_found, node_at, first_place, upward, above, breaks_loop, named_before, place}
use Rattle.adr_model.proofs.Members.{each_fails}
use Rattle.adr_law_tree.specs.Walk.{Up, Met, climb, free}
use Rattle.adr_law_tree.specs.Breaker.{AreMore, in_loop, youngest, is_it}
use Rattle.adr_law_tree.specs.Names.{is_there}
use Rattle.adr_law_tree.proofs.Fuel.{same_guid, itself}
use Rattle.adr_law_tree.proofs.Walks.{IsMore}
use Rattle.adr_law_tree.proofs.Loops.{upward_is, above_is, in_climb, own_of, round, as_more, loop_law, absent_law}
use Rattle.adr_law_tree.proofs.Unfixed.{within_free}
use Rattle.adr_law_tree.proofs.Names.{placed_law}

module _ (all : List Node) (x : Node) (more : List Node) (are : AreMore all x more) (unfixed : is_fixed x.object.guid ≡ false)
    (there : is_there all x.parent ≡ true)
    (away : list_any (λ n. same_identifier n.parent x.object.guid) (upward all (length all) x.parent) ≡ false) where
  is_more : IsMore (free all) (free more) x
  is_more = as_more all x more are unfixed

  -- the way up to the object comes from one whose parent it is
  before : (k : ℕ) (g : Identifier) → Up (free more) k g x → (g ≡ x.object.guid) ⊎ ((p : Node) × Met (free all) g p × (p.parent ≡ x.object.guid))
  before zero g at = inl (sym (is_more.keeps_more g x at))
  before (suc k) g (p, at, up) = ⊎_elim (λ e. inl e) (λ same. by (sym same ∙ at) (before k p.parent up)) (is_more.else g)
    where
      by : free all g ≡ Some p → (p.parent ≡ x.object.guid) ⊎ ((q : Node) × Met (free all) p.parent q × (q.parent ≡ x.object.guid)) → (g ≡ x.object.guid) ⊎ ((q : Node) × Met (free all) g q × (q.parent ≡ x.object.guid))
      by here (inl e) = inr (p, (0, here), e)
      by here (inr (q, (j, way), e)) = inr (q, (suc j, (p, here, way)), e)

  -- the parent isn't the object itself
  pub other_parent : same_identifier x.parent x.object.guid ≡ false
  other_parent = by (same_identifier x.parent x.object.guid) refl
    where
      by : (b : Bool) → same_identifier x.parent x.object.guid ≡ b → b ≡ false
      by false e = refl
      by true e =
          let same : x.parent ≡ x.object.guid = same_guid x.parent x.object.guid e in
          let never : is_there all x.parent ≡ false = ap (is_there all) same ∙ (ap (λ b. b || is_some (node_at all x.object.guid)) unfixed ∙ ap is_some are.new) in
          cc

  place_first : first_place all x ≡ x.parent
  place_first = ap (λ b. if b then x.parent else lost_and_found) there

  in_none : in_loop more x ≡ false
  in_none = by (in_loop more x) refl
    where
      on_way : (p : Node) → Met (free all) x.parent p → p.parent ≡ x.object.guid → ⊥
      on_way p met e =
          let w = within_free (length all) all (omega arith) x.parent p met in
          let m : Member p (climb (free all) (length all) x.parent) = in_climb (free all) (length all) x.parent p w.0 w.1 w.2 in
          let n : Member p (upward all (length all) x.parent) = subst (λ g. Member p (upward all (length all) g)) place_first (subst (Member p) (sym (upward_is all (length all) x)) m) in
          let fails : same_identifier p.parent x.object.guid ≡ false = each_fails (λ (q : Node). same_identifier q.parent x.object.guid) (upward all (length all) x.parent) away p n in
          let passes : same_identifier p.parent x.object.guid ≡ true = ap (λ g. same_identifier g x.object.guid) e ∙ itself x.object.guid in
          cc

      never : (g : Identifier) → g ≡ x.parent → (g ≡ x.object.guid) ⊎ ((p : Node) × Met (free all) g p × (p.parent ≡ x.object.guid)) → ⊥
      never g is (inl e) = let same : same_identifier x.parent x.object.guid ≡ true = ap (λ h. same_identifier h x.object.guid) (sym is ∙ e) ∙ itself x.object.guid in let f = other_parent in cc
      never g is (inr (p, met, e)) = on_way p (subst (λ h. Met (free all) h p) is met) e

      by : (b : Bool) → in_loop more x ≡ b → b ≡ false
      by false e = refl
      by true e = let met = round more x (own_of more x are.here) e in absurd (never x.parent refl (before met.0 x.parent met.1))

  pub breaks_as_before : (n : Node) → node_at more n.object.guid ≡ Some n → breaks_loop more n ≡ breaks_loop all n
  breaks_as_before n here = loop_law all x more are n here ∙ ap (λ b. is_it (if b then youngest (above more x) else None) n || breaks_loop all n) in_none

  pub stands_there : same_identifier x.parent lost_and_found ≡ false → is_there more x.parent ≡ true → place more x ≡ x.parent
  stands_there apart still = same_guid (place more x) x.parent
      (placed_law more x.parent x apart still
      ∙ (ap (λ b. b && not (breaks_loop more x)) (itself x.parent) ∙ ap not (breaks_as_before x are.here ∙ absent_law all x are.new)))

  -- who names it as parent stands under it
  pub children_return : (n : Node) → node_at more n.object.guid ≡ Some n → same_identifier n.parent x.object.guid ≡ true → same_identifier x.object.guid lost_and_found ≡ false → place more n ≡ x.object.guid
  children_return n here names apart = same_guid (place more n) x.object.guid
      (placed_law more x.object.guid n apart found_there
      ∙ (ap (λ b. b && not (breaks_loop more n)) names ∙ ap not (breaks_as_before n here ∙ orphan)))
    where
      found_there : is_there more x.object.guid ≡ true
      found_there = ap (λ b. b || is_some (node_at more x.object.guid)) unfixed ∙ ap is_some are.here

      nowhere : free all n.parent ≡ None
      nowhere = ap (free all) (same_guid n.parent x.object.guid names) ∙ (ap (λ b. if b then None else node_at all x.object.guid) unfixed ∙ are.new)

      no_way : (k : ℕ) → climb (free all) k n.parent ≡ []
      no_way zero = refl
      no_way (suc k) = ap (λ o. option_map_or (λ p. p ∷ climb (free all) k p.parent) o []) nowhere

      orphan : breaks_loop all n ≡ false
      orphan = ap (λ ms. list_any (λ m. same_object m.object n.object) ms && list_all (λ m. not (named_before n m)) ms) (above_is all n ∙ no_way (length all))
