-- Where a commit of a controller takes its keeper, beside a replica.
use Rattle.std.specs.Prelude.{◌≡◌, Bool, false, Option, Some, None}
use Rattle.adr_model.specs.Replica.{Replica}
use Rattle.adr_journal.specs.declared.keeper.KeeperRefusal.TheVariants as keeps
use Rattle.adr_controller.specs.declared.refusal.Hindrance.{Hindrance}
use Rattle.adr_controller.specs.declared.refusal.Hindrance.TheVariants.{DiskFault}
use Rattle.adr_run_keeper.specs.Planned.{CommitsAs}

-- it goes where a commit takes the replica; where none was made it stays as it was
abbrev pub GoesAs :
    {K : Type 0} → (K → Replica → Type 0) → (K → Bool) → Option Hindrance → Replica → Replica → K → Type 0
GoesAs has has_stopped None before after new = CommitsAs has has_stopped None after new
GoesAs has has_stopped (Some DiskFault) before after new = CommitsAs has has_stopped (Some keeps.DiskFault) after new
GoesAs has has_stopped (Some hindrance) before after new = has new before × (has_stopped new ≡ false)
