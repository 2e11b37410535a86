-- A start that wants memory once its sync was made.
use Rattle.std.proofs.Common.{◌≢◌, inr, fold}
use Rattle.adr_disk.specs.declared.memory.Crash.TheVariants.{Kept, Lost, Torn}
use Rattle.adr_model.specs.Member.{Member}
use Rattle.adr_disk.specs.declared.memory.Mishap.TheVariants.{Fails, Stops}
use Rattle.adr_model.specs.Replica.{Up, Replica, moved, Went, Passed, Met, moves_of_start, start_goes, device_after_start}
use Rattle.adr_model.specs.World.{World}
use Rattle.adr_model.specs.Sound.{IsTraced, IsSoundWorld}
use Rattle.adr_law_convergence.specs.CutShort.{StartsCutShort}
use Rattle.adr_law_convergence.proofs.Moving.{HasMoved, stays_so, forgets, settles_so}
use Rattle.adr_law_convergence.proofs.Orderly.{behind_call, behind_start}
use Rattle.adr_law_convergence.proofs.Acting.{moved_world}

module _ (w : World) (r : Replica) (there : Member r w.replicas) (not_up : r.standing ≢ Up) where
  -- the moves of a start, after which it stands as before
  cut_moves : IsSoundWorld w → (g : Went) → HasMoved (IsTraced w) w.book r (fold moved (w.book, r) (moves_of_start g)) r.standing
  cut_moves s (Passed left) = settles_so (IsTraced w) w.book r s.book (s.replicas r there) (s.identifiers.stores r there) (s.normal r there) r.standing
  cut_moves s (Met place Fails) = stays_so (IsTraced w) w.book r s.book (s.replicas r there) (s.identifiers.stores r there) (s.normal r there) r.standing (inr not_up)
  cut_moves s (Met place (Stops Lost)) = forgets (IsTraced w) w.book r s.book (s.replicas r there) (s.identifiers.stores r there) (s.normal r there) r.standing
  cut_moves s (Met place (Stops Kept)) = settles_so (IsTraced w) w.book r s.book (s.replicas r there) (s.identifiers.stores r there) (s.normal r there) r.standing
  cut_moves s (Met place (Stops Torn)) = settles_so (IsTraced w) w.book r s.book (s.replicas r there) (s.identifiers.stores r there) (s.normal r there) r.standing

pub cut_short_sound : StartsCutShort
cut_short_sound w r is there not_up = record {
  orderly = behind_call w is.orderly _ (behind_start w is.orderly r there r.standing (λ place e. not_up));
  sound = λ clean. moved_world w (is.sound clean) r there (fold moved (w.book, r) (moves_of_start (start_goes r))) r.standing (device_after_start r) (cut_moves w r there not_up (is.sound clean) (start_goes r));
}
