-- What comes of an image that was bound to a name.
use Rattle.std.specs.Prelude.{◌≡◌, List}
use Rattle.adr_call.specs.declared.outcome.Outcome.{Outcome}
use Rattle.adr_call.specs.declared.outcome.Outcome.TheVariants as outcomes
use Rattle.adr_model.specs.Update.{Identifier}
use Rattle.adr_model.specs.Store.{Store}
use Rattle.adr_model.specs.Collect.{adopt}
use Rattle.adr_model.specs.Replica.{Replica, begun}
use Rattle.adr_model.specs.World.{World, Name, Gone, adopts, bound_at, of_image}

abbrev pub adoption : List (Name × Store) → Name → Name → Identifier → Identifier → World → (Replica → List Replica) → Gone
adoption images image name dsa inv w placed = of_image w (bound_at images image) (λ i. adopts w placed name (adopt i dsa inv))

-- it was adopted: this controller was made, and its incarnation begins, wherever it is placed
abbrev pub AdoptsBound : List (Name × Store) → Name → Name → Identifier → Identifier → Replica → Type 0
AdoptsBound images image name dsa inv made =
    (w : World) (placed : Replica → List Replica)
    → adoption images image name dsa inv w placed ≡ (record w { book = begun w.book made.safe; replicas = placed made }, outcomes.Ok)

-- it was not, and is answered so
abbrev pub UnadoptedBound : List (Name × Store) → Name → Name → Identifier → Identifier → Outcome → Type 0
UnadoptedBound images image name dsa inv outcome =
    (w : World) (placed : Replica → List Replica) → adoption images image name dsa inv w placed ≡ (w, outcome)
