-- Modes as the definitions have them.
use Rattle.adr_model.specs.Store.{Mode as Defined, Normal as normal, Quarantined as quarantined}
use Rattle.adr_change.specs.declared.change.Mode.{Mode}
use Rattle.adr_change.specs.declared.change.Mode.TheVariants.{Normal, Quarantined}

abbrev pub mode_of : Mode → Defined
mode_of Normal = normal
mode_of Quarantined = quarantined
