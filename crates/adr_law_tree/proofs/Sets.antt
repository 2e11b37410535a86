-- Sets that are kept beside the nodes.
use Rattle.std.proofs.Common.{◌≡◌, ⊎_elim, Bool, true, false, not, ◌&&◌, ◌||◌, List, Option, Some, None, refl, sym, ap, ap₂, ◌∙◌, subst}
use Rattle.std.specs.Option.{option_map_or}
use Rattle.adr_values.specs.declared.stamp.Oid.{Oid}
use Rattle.adr_model.specs.Update.{Identifier, same_identifier, same_object}
use Rattle.adr_model.specs.Place.{Node, node_at, breaks_loop}
use Rattle.adr_model.proofs.Keys.{objects_tell}
use Rattle.adr_law_tree.specs.Walk.{free}
use Rattle.adr_law_tree.specs.Breaker.{AreMore, loop_breaker, is_it}
use Rattle.adr_law_tree.specs.Sets.{is_at, PutLaw, TakeLaw, IndexPutLaw, IndexTakeLaw}
use Rattle.adr_law_tree.proofs.Walks.{one, ClosedBy}
use Rattle.adr_law_tree.proofs.Fuel.{same_guid, itself, one_or_not, keeps}
use Rattle.adr_law_tree.proofs.Loops.{loop_law, remove_law, absent_law, closed, breaker_there as found_breaker, object_itself, same_bools}

or_nothing : (b : Bool) → (b || false) ≡ b
or_nothing true = refl
or_nothing false = refl

module _ (all : List Node) (x : Node) (more : List Node) (is : AreMore all x more) where
  IsThere : Option Node → Type 0
  IsThere b = (c : Node) → b ≡ Some c → node_at more c.object.guid ≡ Some c

  breaker_there : IsThere (loop_breaker more x)
  unfolding IsThere
  breaker_there c e = by (loop_breaker more x) (closed all x more is) e
    where
      by : (o : Option Node) → ClosedBy (free more) x o → o ≡ Some c → node_at more c.object.guid ≡ Some c
      by None closes e = cc
      by (Some b) closes e =
          let same : b ≡ c = one {o = Some b} refl e in
          subst (λ (n : Node). node_at more n.object.guid ≡ Some n) same (found_breaker all x more is b closes)

  -- the breaker by its GUID
  by_guid : (b : Option Node) → IsThere b → (g : Identifier) (n : Node) → node_at more g ≡ Some n → is_at b g ≡ is_it b n
  unfolding IsThere
  by_guid None there g n e = refl
  by_guid (Some b) there g n e = same_bools (same_identifier b.object.guid g) (same_object b.object n.object)
      (λ s. ap (λ (m : Node). same_object b.object m.object) (one (sym (ap (node_at more) (sym (same_guid b.object.guid g s))) ∙ e) (there b refl)) ∙ object_itself b.object)
      (λ s. ap (λ (o : Oid). same_identifier o.guid g) (objects_tell b.object n.object s) ∙ ap (λ h. same_identifier h g) (keeps more g n e) ∙ itself g)

  nobody_there : (b : Option Node) → IsThere b → (g : Identifier) → node_at more g ≡ None → is_at b g ≡ false
  unfolding IsThere
  nobody_there None there g e = refl
  nobody_there (Some b) there g e = by (same_identifier b.object.guid g) refl
    where
      by : (t : Bool) → same_identifier b.object.guid g ≡ t → t ≡ false
      by false s = refl
      by true s = let some : node_at more g ≡ Some b = ap (node_at more) (sym (same_guid b.object.guid g s)) ∙ there b refl in cc

  -- at the GUID of the object, and at another one
  at_own : {A : Type 0} (g : Identifier) → (g ≡ x.object.guid → A) → (same_identifier g x.object.guid ≡ false → A) → A
  at_own g here there = ⊎_elim here there (one_or_not g x.object.guid)

pub put_law : PutLaw
put_law all x more is before after exact put g = put g ∙ at_own all x more is g own other
  where
    own : g ≡ x.object.guid → (is_at (loop_breaker more x) g || before g) ≡ option_map_or (breaks_loop more) (node_at more g) false
    own e =
        let found : node_at more g ≡ Some x = ap (node_at more) e ∙ is.here in
        let absent : node_at all g ≡ None = ap (node_at all) e ∙ is.new in
        ap₂ (λ c d. c || d) (by_guid all x more is (loop_breaker more x) (breaker_there all x more is) g x found) (exact g ∙ ap (λ o. option_map_or (breaks_loop all) o false) absent ∙ sym (absent_law all x is.new))
        ∙ sym (loop_law all x more is x is.here) ∙ sym (ap (λ o. option_map_or (breaks_loop more) o false) found)

    other : same_identifier g x.object.guid ≡ false → (is_at (loop_breaker more x) g || before g) ≡ option_map_or (breaks_loop more) (node_at more g) false
    other e = by (node_at more g) refl
      where
        by : (o : Option Node) → node_at more g ≡ o → (is_at (loop_breaker more x) g || before g) ≡ option_map_or (breaks_loop more) o false
        by None f =
            ap₂ (λ c d. c || d) (nobody_there all x more is (loop_breaker more x) (breaker_there all x more is) g f)
            (exact g ∙ ap (λ o. option_map_or (breaks_loop all) o false) (sym (is.other g e) ∙ f))
        by (Some n) f =
            let own_n : node_at more n.object.guid ≡ Some n = ap (node_at more) (keeps more g n f) ∙ f in
            ap₂ (λ c d. c || d) (by_guid all x more is (loop_breaker more x) (breaker_there all x more is) g n f) (exact g ∙ ap (λ o. option_map_or (breaks_loop all) o false) (sym (is.other g e) ∙ f))
            ∙ sym (loop_law all x more is n own_n)

pub take_law : TakeLaw
take_law all x more is before after exact put g = put g ∙ at_own all x more is g own other
  where
    own : g ≡ x.object.guid → (before g && not (is_at (loop_breaker more x) g)) ≡ option_map_or (breaks_loop all) (node_at all g) false
    own e =
        let found : node_at more g ≡ Some x = ap (node_at more) e ∙ is.here in
        let absent : node_at all g ≡ None = ap (node_at all) e ∙ is.new in
        ap₂ (λ c d. c && not d) (exact g ∙ ap (λ o. option_map_or (breaks_loop more) o false) found) (by_guid all x more is (loop_breaker more x) (breaker_there all x more is) g x found)
        ∙ sym (remove_law all x more is x is.here) ∙ absent_law all x is.new ∙ sym (ap (λ o. option_map_or (breaks_loop all) o false) absent)

    other : same_identifier g x.object.guid ≡ false → (before g && not (is_at (loop_breaker more x) g)) ≡ option_map_or (breaks_loop all) (node_at all g) false
    other e = by (node_at more g) refl ∙ ap (λ o. option_map_or (breaks_loop all) o false) (is.other g e)
      where
        by : (o : Option Node) → node_at more g ≡ o → (before g && not (is_at (loop_breaker more x) g)) ≡ option_map_or (breaks_loop all) (node_at more g) false
        by None f =
            ap (λ c. c && not (is_at (loop_breaker more x) g)) (exact g ∙ ap (λ o. option_map_or (breaks_loop more) o false) f) ∙ sym (ap (λ o. option_map_or (breaks_loop all) o false) f)
        by (Some n) f =
            let own_n : node_at more n.object.guid ≡ Some n = ap (node_at more) (keeps more g n f) ∙ f in
            ap₂ (λ c d. c && not d) (exact g ∙ ap (λ o. option_map_or (breaks_loop more) o false) f) (by_guid all x more is (loop_breaker more x) (breaker_there all x more is) g n f)
            ∙ sym (remove_law all x more is n own_n) ∙ sym (ap (λ o. option_map_or (breaks_loop all) o false) f)

pub index_put_law : IndexPutLaw
index_put_law all x more is test before after exact put g = put g ∙ at_own all x more is g own other
  where
    own : g ≡ x.object.guid → ((same_identifier g x.object.guid && test x) || before g) ≡ option_map_or test (node_at more g) false
    own e =
        ap₂ (λ c d. (c && test x) || d) (ap (λ h. same_identifier h x.object.guid) e ∙ itself x.object.guid) (exact g ∙ ap (λ o. option_map_or test o false) (ap (node_at all) e ∙ is.new))
        ∙ or_nothing (test x) ∙ sym (ap (λ o. option_map_or test o false) (ap (node_at more) e ∙ is.here))

    other : same_identifier g x.object.guid ≡ false → ((same_identifier g x.object.guid && test x) || before g) ≡ option_map_or test (node_at more g) false
    other e = ap (λ c. (c && test x) || before g) e ∙ exact g ∙ ap (λ o. option_map_or test o false) (sym (is.other g e))

pub index_take_law : IndexTakeLaw
index_take_law all x more is test before after exact put g = put g ∙ at_own all x more is g own other
  where
    and_false : (b : Bool) → (b && false) ≡ false
    and_false true = refl
    and_false false = refl

    and_true : (b : Bool) → (b && true) ≡ b
    and_true true = refl
    and_true false = refl

    own : g ≡ x.object.guid → (before g && not (same_identifier g x.object.guid)) ≡ option_map_or test (node_at all g) false
    own e =
        ap (λ c. before g && not c) (ap (λ h. same_identifier h x.object.guid) e ∙ itself x.object.guid) ∙ and_false (before g)
        ∙ sym (ap (λ o. option_map_or test o false) (ap (node_at all) e ∙ is.new))

    other : same_identifier g x.object.guid ≡ false → (before g && not (same_identifier g x.object.guid)) ≡ option_map_or test (node_at all g) false
    other e = ap (λ c. before g && not c) e ∙ and_true (before g) ∙ exact g ∙ ap (λ o. option_map_or test o false) (is.other g e)
