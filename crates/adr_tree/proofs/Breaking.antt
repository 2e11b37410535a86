-- Who breaks a loop, where one object comes or goes.
use Rattle.std.proofs.Common.{◌≡◌, ◌≤◌, ℕ, Bool, true, false, cond, not, ◌&&◌, ◌||◌, List, Option, Some, None, option_map, refl, sym, ap, ◌∙◌, subst, length}
use Rattle.std.specs.Prelude.{if◌then◌else◌}
use Rattle.std.specs.List.{list_any}
use Rattle.std.specs.Option.{option_map_or}
use Rattle.adr_model.specs.Update.{Identifier, same_identifier}
use Rattle.adr_model.specs.Place.{Node, node_at, is_fixed, above, upward, breaks_loop}
use Rattle.adr_law_tree.specs.Walk.{Look, free}
use Rattle.adr_law_tree.specs.Breaker.{AreMore, in_loop, loop_breaker, youngest}
use Rattle.adr_law_tree.specs.Closing.{closing}
use Rattle.adr_law_tree.specs.Opening.{opening, climbs}
use Rattle.adr_law_tree.specs.Sets.{IsSetOf, is_at}
use Rattle.adr_law_tree.proofs.Fuel.{keeps, same_guid}
use Rattle.adr_law_tree.proofs.Unfixed.{found_free}
use Rattle.adr_law_tree.proofs.Closing.{closing_law, never_law}
use Rattle.adr_law_tree.proofs.Opening.{opening_law}
use Rattle.adr_law_tree.proofs.Climbs.{climb_law}
use Rattle.adr_law_tree.proofs.Sets.{put_law, take_law}
use Rattle.adr_tree.proofs.Alike.{closing_alike, opening_alike, climbs_alike}

by_guid : (o : Option Node) (g : Identifier) → option_map_or (λ h. same_identifier h g) (option_map (λ (n : Node). n.object.guid) o) false ≡ is_at o g
by_guid None g = refl
by_guid (Some n) g = refl

-- flags that are exact, at a live object
pub exact_at : (all : List Node) (flag : Identifier → Bool) → IsSetOf all (breaks_loop all) flag → (n : Node) → node_at all n.object.guid ≡ Some n → flag n.object.guid ≡ breaks_loop all n
exact_at all flag exact n here = exact n.object.guid ∙ ap (λ o. option_map_or (breaks_loop all) o false) here

-- where an object is in no loop nobody breaks it
pub nobody : (all : List Node) (x : Node) → in_loop all x ≡ false → loop_breaker all x ≡ None
nobody all x none = ap (λ b. cond b (youngest (above all x)) None) none

-- what is met going up from a place
pub climbs_is : (all : List Node) (look : Look) → ((g : Identifier) → look g ≡ free all g) → (flag : Identifier → Bool) → IsSetOf all (breaks_loop all) flag → (target guid : Identifier) (left : ℕ) → length all ≤ left
    → climbs look (λ n. flag n.object.guid) target false left guid ≡ list_any (λ m. same_identifier m.object.guid target) (upward all (length all) guid)
climbs_is all look same flag exact target guid left enough =
    climbs_alike look (free all) (λ n. flag n.object.guid) (breaks_loop all) target same
    (λ g p e.
    let here : node_at all g ≡ Some p = found_free all g p (sym (same g) ∙ e) in
    exact_at all flag exact p (ap (node_at all) (keeps all g p here) ∙ here))
    false left guid
    ∙ climb_law all target guid left enough

module _ (all : List Node) (x : Node) (more : List Node) (are : AreMore all x more) (look : Look) (same : (g : Identifier) → look g ≡ free all g) (before : Identifier → Bool) (left : ℕ) where
  -- ---- an object comes
  module _ (exact : IsSetOf all (breaks_loop all) before) (enough : length more ≤ left) where
    closer_is : is_fixed x.object.guid ≡ false → closing look (λ n. before n.object.guid) x.object.guid left x.parent x ≡ loop_breaker more x
    closer_is x_free =
        closing_alike look (free all) (λ n. before n.object.guid) (breaks_loop all) x.object.guid same
        (λ g p e.
        let here : node_at all g ≡ Some p = found_free all g p (sym (same g) ∙ e) in
        exact_at all before exact p (ap (node_at all) (keeps all g p here) ∙ here))
        left x.parent x
        ∙ closing_law all x more are x_free left enough

    pub closer_found : (if is_fixed x.object.guid then None else option_map (λ (n : Node). n.object.guid) (closing look (λ n. before n.object.guid) x.object.guid left x.parent x))
        ≡ option_map (λ (n : Node). n.object.guid) (loop_breaker more x)
    closer_found = by (is_fixed x.object.guid) refl
      where
        by : (b : Bool) → is_fixed x.object.guid ≡ b → (if b then None else option_map (λ (n : Node). n.object.guid) (closing look (λ n. before n.object.guid) x.object.guid left x.parent x))
            ≡ option_map (λ (n : Node). n.object.guid) (loop_breaker more x)
        by true fixed = sym (ap (option_map (λ (n : Node). n.object.guid)) (never_law more x fixed))
        by false x_free = ap (option_map (λ (n : Node). n.object.guid)) (closer_is x_free)

  pub put_exact : IsSetOf all (breaks_loop all) before → (after : Identifier → Bool) (b : Option Identifier) → b ≡ option_map (λ (n : Node). n.object.guid) (loop_breaker more x)
      → ((g : Identifier) → after g ≡ (option_map_or (λ h. same_identifier h g) b false || before g)) → IsSetOf more (breaks_loop more) after
  put_exact exact after b is set =
      put_law all x more are before after exact
      (λ g. set g ∙ ap (λ c. c || before g) (ap (λ o. option_map_or (λ h. same_identifier h g) o false) is ∙ by_guid (loop_breaker more x) g))

  -- ---- an object goes
  module _ (exact : IsSetOf more (breaks_loop more) before) (enough : length all ≤ left) where
    still_there : (g : Identifier) (p : Node) → node_at all g ≡ Some p → node_at more g ≡ Some p
    still_there g p e = by (same_identifier g x.object.guid) refl
      where
        by : (b : Bool) → same_identifier g x.object.guid ≡ b → node_at more g ≡ Some p
        by true s = let no : ◌≡◌ {A = Option Node} None (Some p) = sym are.new ∙ subst (λ h. node_at all h ≡ Some p) (same_guid g x.object.guid s) e in cc
        by false s = are.other g s ∙ e

    opener_is : is_fixed x.object.guid ≡ false → opening look (λ n. before n.object.guid) left x ≡ loop_breaker more x
    opener_is x_free =
        opening_alike look (free all) (λ n. before n.object.guid) (breaks_loop more) left x same
        (λ g p e.
        let here : node_at all g ≡ Some p = found_free all g p (sym (same g) ∙ e) in
        exact_at more before exact p (ap (node_at more) (keeps all g p here) ∙ still_there g p here))
        (exact_at more before exact x are.here)
        ∙ opening_law all x more are x_free left enough

    pub opener_found : (if is_fixed x.object.guid then None else option_map (λ (n : Node). n.object.guid) (opening look (λ n. before n.object.guid) left x))
        ≡ option_map (λ (n : Node). n.object.guid) (loop_breaker more x)
    opener_found = by (is_fixed x.object.guid) refl
      where
        by : (b : Bool) → is_fixed x.object.guid ≡ b → (if b then None else option_map (λ (n : Node). n.object.guid) (opening look (λ n. before n.object.guid) left x))
            ≡ option_map (λ (n : Node). n.object.guid) (loop_breaker more x)
        by true fixed = sym (ap (option_map (λ (n : Node). n.object.guid)) (never_law more x fixed))
        by false x_free = ap (option_map (λ (n : Node). n.object.guid)) (opener_is x_free)

  pub take_exact : IsSetOf more (breaks_loop more) before → (after : Identifier → Bool) (b : Option Identifier) → b ≡ option_map (λ (n : Node). n.object.guid) (loop_breaker more x)
      → ((g : Identifier) → after g ≡ (before g && not (option_map_or (λ h. same_identifier h g) b false))) → IsSetOf all (breaks_loop all) after
  take_exact exact after b is set =
      take_law all x more are before after exact
      (λ g. set g ∙ ap (λ c. before g && not c) (ap (λ o. option_map_or (λ h. same_identifier h g) o false) is ∙ by_guid (loop_breaker more x) g))
