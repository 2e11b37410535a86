-- What stands of an object before its item, as the definitions have it.
use Rattle.adr_model.specs.Take.{Presence as Defined, IsDead, IsHeld, IsGone, IsNew}
use Rattle.adr_overlay.specs.declared.presence.Presence.{Presence}
use Rattle.adr_overlay.specs.declared.presence.Presence.TheVariants.{Dead, Held, Gone, New}

abbrev pub defined : Presence → Defined
defined Dead = IsDead
defined Held = IsHeld
defined Gone = IsGone
defined New = IsNew
