-- An object that is nobody's parent is in no loop.
use Rattle.std.proofs.Common.{◌≡◌, List, Bool, true, false, ◌&&◌, Some, None, refl, sym, ap, ◌∙◌, subst}
use Rattle.adr_model.specs.Update.{Identifier, same_identifier}
use Rattle.adr_model.specs.Place.{Node, node_at}
use Rattle.adr_law_tree.specs.Breaker.{AreMore, in_loop}
use Rattle.adr_law_tree.proofs.Fuel.{itself, same_guid}
use Rattle.adr_law_tree.proofs.Short.{childless_law}
use Rattle.adr_tree.specs.declared.hints.Hint.{Hint}
use Rattle.adr_tree.specs.Hints.{child_hint, is_in_run}
use Rattle.adr_tree.specs.Children.{HasNoChild}

abbrev pub start_at : Identifier → Hint
start_at guid = record { parent = guid; number = None; guid = None }

-- the hint of a child is of the run that begins there
pub children_run : (guid : Identifier) (m : Node) → same_identifier m.parent guid ≡ true → is_in_run (start_at guid) (child_hint m) ≡ true
children_run guid m is = ap (λ p. same_identifier guid p && true) (same_guid m.parent guid is) ∙ ap (λ b. b && true) (itself guid)

pub in_no_loop : (all : List Node) (x : Node) (more : List Node) → AreMore all x more → HasNoChild all x → in_loop more x ≡ false
in_no_loop all x more are childless = childless_law all x more are (λ m here. by m here (same_identifier m.object.guid x.object.guid) refl)
  where
    by : (m : Node) → node_at more m.object.guid ≡ Some m → (b : Bool) → same_identifier m.object.guid x.object.guid ≡ b → same_identifier m.parent x.object.guid ≡ false
    by m here true is =
        let e : Some m ≡ Some x = sym here ∙ ap (node_at more) (same_guid m.object.guid x.object.guid is) ∙ are.here in
        let same : m ≡ x = cc in
        subst (λ (n : Node). same_identifier n.parent x.object.guid ≡ false) (sym same) childless.1
    by m here false is = childless.0 m (sym (are.other m.object.guid is) ∙ here)
