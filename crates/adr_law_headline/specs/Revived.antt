-- An object that was revived is shown again as it was.
use Rattle.std.specs.Prelude.{◌≡◌, ℕ, List, Some}
use Rattle.adr_call.specs.declared.event.Event.{Event}
use Rattle.adr_call.specs.declared.event.Event.TheVariants as events
use Rattle.adr_call.specs.declared.event.Use.TheVariants as uses
use Rattle.adr_call.specs.declared.outcome.Outcome.TheVariants as outcomes
use Rattle.adr_model.specs.Member.{Member, Each}
use Rattle.adr_model.specs.Store.{Store}
use Rattle.adr_model.specs.Update.{Identifier}
use Rattle.adr_model.specs.Replica.{Replica}
use Rattle.adr_model.specs.World.{Name, World, bound_at}
use Rattle.adr_model.specs.Step.{step}
use Rattle.adr_law_revived.specs.Revived.{IsRevived}

-- a controller of the name, behind the line: its directory has one entry more, under the given place and name, with the class and
-- the values that the bound image shows of the GUID, and with the links that come with it. Each other entry keeps what it showed
pub record ShowsAgain (w behind : World) (name : Name) (guid : Identifier) (image : Name) (parent : Identifier) (text : List ℕ) : Type 0 where
  pub store : Store
  pub bound : bound_at w.images image ≡ Some store
  pub before : Replica
  pub there : Member before w.replicas
  pub named : before.name ≡ name
  pub after : Replica
  pub stands : Member after behind.replicas
  pub still : after.name ≡ name
  pub shows : IsRevived before.safe after.safe store guid parent text

-- a revival that is answered by a USN is so
abbrev pub RevivesShow : World → Event → Type 0
RevivesShow w (events.Uses name (uses.Revive guid parent text) image) =
    let revived = step w (events.Uses name (uses.Revive guid parent text) image) in
    (usn : ℕ) → Each (λ a. a.outcome ≡ outcomes.Usn usn → ShowsAgain w revived.0 name guid image parent text) revived.1
RevivesShow w e = Unit {0}
