-- Sets that are kept beside the nodes, by their look-ups.
use Rattle.std.specs.Prelude.{◌≡◌, ◌&&◌, ◌||◌, List, Bool, false, not, Option}
use Rattle.std.specs.Option.{option_map_or}
use Rattle.adr_model.specs.Update.{Identifier, same_identifier}
use Rattle.adr_model.specs.Place.{Node, node_at, breaks_loop}
use Rattle.adr_law_tree.specs.Breaker.{AreMore, loop_breaker}

-- a set has exactly the GUIDs whose nodes pass a test
abbrev pub IsSetOf : List Node → (Node → Bool) → (Identifier → Bool) → Type 0
IsSetOf all test set = (g : Identifier) → set g ≡ option_map_or test (node_at all g) false

abbrev pub is_at : Option Node → Identifier → Bool
is_at b g = option_map_or (λ n. same_identifier n.object.guid g) b false

-- the breakers, with one object more and with one less
abbrev pub PutLaw : Type 0
PutLaw = (all : List Node) (x : Node) (more : List Node) → AreMore all x more → (before after : Identifier → Bool) → IsSetOf all (breaks_loop all) before
    → ((g : Identifier) → after g ≡ (is_at (loop_breaker more x) g || before g)) → IsSetOf more (breaks_loop more) after

abbrev pub TakeLaw : Type 0
TakeLaw = (all : List Node) (x : Node) (more : List Node) → AreMore all x more → (before after : Identifier → Bool) → IsSetOf more (breaks_loop more) before
    → ((g : Identifier) → after g ≡ (before g && not (is_at (loop_breaker more x) g))) → IsSetOf all (breaks_loop all) after

-- a set whose test looks at each node alone, as those of the children of a parent and of the bearers of a name
abbrev pub IndexPutLaw : Type 0
IndexPutLaw = (all : List Node) (x : Node) (more : List Node) → AreMore all x more → (test : Node → Bool) (before after : Identifier → Bool) → IsSetOf all test before
    → ((g : Identifier) → after g ≡ ((same_identifier g x.object.guid && test x) || before g)) → IsSetOf more test after

abbrev pub IndexTakeLaw : Type 0
IndexTakeLaw = (all : List Node) (x : Node) (more : List Node) → AreMore all x more → (test : Node → Bool) (before after : Identifier → Bool) → IsSetOf more test before
    → ((g : Identifier) → after g ≡ (before g && not (same_identifier g x.object.guid))) → IsSetOf all test after
