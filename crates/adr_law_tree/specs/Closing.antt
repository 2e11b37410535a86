-- The walk that finds who breaks the loop of an object that is new.
use Rattle.std.specs.Prelude.{◌≡◌, ◌≤◌, ℕ, zero, suc, List, Bool, true, false, Option, Some, None, length, if◌then◌else◌}
use Rattle.std.specs.Option.{option_map_or}
use Rattle.adr_model.specs.Update.{Identifier, same_identifier}
use Rattle.adr_model.specs.Place.{Node, is_fixed, named_before, breaks_loop}
use Rattle.adr_law_tree.specs.Walk.{Look, free}
use Rattle.adr_law_tree.specs.Breaker.{AreMore, loop_breaker}

-- up from a GUID to a target, with the youngest name so far; it stops where a loop is broken
abbrev pub closing : Look → (Node → Bool) → Identifier → ℕ → Identifier → Node → Option Node
closing at stop target zero guid best = None
closing at stop target (suc left) guid best =
    if same_identifier guid target then Some best
    else option_map_or (λ p. if stop p then None else closing at stop target left p.parent (if named_before best p then p else best)) (at guid) None

abbrev pub ClosingLaw : Type 0
ClosingLaw = (all : List Node) (x : Node) (more : List Node) → AreMore all x more → is_fixed x.object.guid ≡ false → (left : ℕ) → length more ≤ left
    → closing (free all) (breaks_loop all) x.object.guid left x.parent x ≡ loop_breaker more x

-- an object of a fixed GUID is in no loop
abbrev pub NeverLaw : Type 0
NeverLaw = (all : List Node) (x : Node) → is_fixed x.object.guid ≡ true → loop_breaker all x ≡ None
