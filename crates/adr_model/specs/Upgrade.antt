-- Changing over to schema 2.
use Rattle.std.specs.Prelude.{[], ◌∷◌, ◌==◌, Option, Result}
use Rattle.std.specs.Bool.{then_some}
use Rattle.adr_call.specs.declared.refusal.UpgradeRefusal.{UpgradeRefusal}
use Rattle.adr_call.specs.declared.refusal.UpgradeRefusal.TheVariants.{Quarantined, SchemaThere}
use Rattle.adr_values.specs.First.{first_of}
use Rattle.adr_model.specs.Refusing.{unless}
use Rattle.adr_model.specs.Store.{State}
use Rattle.adr_model.specs.Change.{Change, unchanged}
use Rattle.adr_model.specs.Serve.{is_quarantined}

-- the number of the schema becomes 2, and nothing else changes
abbrev pub upgraded : State → Change
upgraded s = record (unchanged s) { schema = 2 }

-- why a controller isn't upgraded, first in order
abbrev pub upgrade_refusal : State → Option UpgradeRefusal
upgrade_refusal s = first_of (then_some (is_quarantined s.mode) Quarantined ∷ then_some (s.store.schema == 2) (SchemaThere s.store.schema) ∷ [])

-- a controller changes over to schema 2: the first refusal, or the change
abbrev pub upgrade : State → Result Change UpgradeRefusal
upgrade s = unless (upgrade_refusal s) (upgraded s)
