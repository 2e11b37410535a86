-- A start that wants memory once its sync was made.
use Rattle.std.specs.Prelude.{◌≢◌}
use Rattle.adr_call.specs.declared.outcome.Outcome.TheVariants as outcomes
use Rattle.adr_model.specs.Member.{Member}
use Rattle.adr_model.specs.Replica.{Replica, Up, moves_of_start, start_goes, device_after_start}
use Rattle.adr_model.specs.World.{World, after_moves}
use Rattle.adr_model.specs.Sound.{IsWorldOfRun}

-- the sync stands, and the controller is as down or failed as before
abbrev pub StartsCutShort : Type 0
StartsCutShort =
    (w : World) (r : Replica) → IsWorldOfRun w → Member r w.replicas → r.standing ≢ Up
    → IsWorldOfRun (after_moves w r (moves_of_start (start_goes r)) r.standing (device_after_start r) outcomes.Ok).0
