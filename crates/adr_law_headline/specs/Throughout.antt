-- What holds at every place of a run: of the lines so far, of the world there, of the line that comes next, or on its way.
use Rattle.std.specs.Prelude.{◌≡◌, List, ◌∷◌, ◌++◌, true}
use Rattle.adr_call.specs.declared.event.Event.{Event}
use Rattle.adr_model.specs.World.{World}
use Rattle.adr_model.specs.Convergence.{IsOnTheWay, behind}

-- what holds behind the first lines of a run, wherever it stands, as long as no database was put back
abbrev pub HoldsBehind : List Event → (List Event → Type 0) → Type 0
HoldsBehind es P = (before after : List Event) → es ≡ before ++ after → (behind before).clean ≡ true → P before

-- what holds of the world there
abbrev pub HoldsThroughout : List Event → (World → Type 0) → Type 0
HoldsThroughout es P = HoldsBehind es (λ before. P (behind before))

-- what holds of the world there and the line that comes next
abbrev pub HoldsOfEachLine : List Event → (World → Event → Type 0) → Type 0
HoldsOfEachLine es P = (before after : List Event) (e : Event) → es ≡ before ++ e ∷ after → (behind before).clean ≡ true → P (behind before) e

-- and whether or not a database was put back
abbrev pub HoldsOfEveryLine : List Event → (World → Event → Type 0) → Type 0
HoldsOfEveryLine es P = (before after : List Event) (e : Event) → es ≡ before ++ e ∷ after → P (behind before) e

-- what holds whether or not a database was put back: of the world at every place of a run, and of every world on the way of the
-- line that comes next
abbrev pub HoldsAlways : List Event → (World → Type 0) → Type 0
HoldsAlways es P =
    ((before after : List Event) → es ≡ before ++ after → P (behind before))
    × ((before after : List Event) (e : Event) → es ≡ before ++ e ∷ after → (v : World) → IsOnTheWay (behind before) e v → P v)
