-- The walks that find who broke the loop of an object that goes, and whether an object is met going up.
use Rattle.std.specs.Prelude.{◌≡◌, ◌≤◌, ◌&&◌, ◌||◌, ℕ, zero, suc, List, Bool, false, Option, Some, None, length, if◌then◌else◌}
use Rattle.std.specs.List.{list_any}
use Rattle.std.specs.Option.{option_map_or, option_and_then}
use Rattle.adr_model.specs.Update.{Identifier, same_identifier}
use Rattle.adr_model.specs.Place.{Node, is_fixed, upward, breaks_loop}
use Rattle.adr_law_tree.specs.Walk.{Look, free}
use Rattle.adr_law_tree.specs.Breaker.{AreMore, loop_breaker}

-- the first object on the way up that breaks a loop
abbrev pub first_breaker : Look → (Node → Bool) → ℕ → Identifier → Option Node
first_breaker at breaks zero guid = None
first_breaker at breaks (suc left) guid = option_map_or (λ p. if breaks p then Some p else first_breaker at breaks left p.parent) (at guid) None

-- whether the way up comes to a GUID
abbrev pub comes_to : Look → Identifier → ℕ → Identifier → Bool
comes_to at target zero guid = false
comes_to at target (suc left) guid = same_identifier guid target || option_map_or (λ p. comes_to at target left p.parent) (at guid) false

-- who broke the loop of an object that goes: itself, or the first breaker above it, where that is in no loop any more
abbrev pub opening : Look → (Node → Bool) → ℕ → Node → Option Node
opening at breaks left x =
    if breaks x then Some x
    else option_and_then (λ b. if comes_to at b.object.guid left b.parent then None else Some b) (first_breaker at breaks left x.parent)

abbrev pub OpeningLaw : Type 0
OpeningLaw = (all : List Node) (x : Node) (more : List Node) → AreMore all x more → is_fixed x.object.guid ≡ false → (left : ℕ) → length all ≤ left
    → opening (free all) (breaks_loop more) left x ≡ loop_breaker more x

-- whether an object of a GUID is met going up; the walk stops where it comes to a broken loop for the second time
abbrev pub climbs : Look → (Node → Bool) → Identifier → Bool → ℕ → Identifier → Bool
climbs at breaks target seen zero guid = false
climbs at breaks target seen (suc left) guid =
    option_map_or (λ p. same_identifier p.object.guid target || (if breaks p && seen then false else climbs at breaks target (breaks p || seen) left p.parent)) (at guid) false

abbrev pub ClimbLaw : Type 0
ClimbLaw = (all : List Node) (target guid : Identifier) (left : ℕ) → length all ≤ left
    → climbs (free all) (breaks_loop all) target false left guid ≡ list_any (λ m. same_identifier m.object.guid target) (upward all (length all) guid)
