-- What hanging up leaves of a connection that was answered.
pub use Rattle.adr_outside.proofs.Hanging.{OpensNext}
use Rattle.std.proofs.Common.{◌≡◌, ℕ, List, [], ◌∷◌, ◌++◌, Option, Some}
use Rattle.std.specs.Option.{option_map}
use Rattle.adr_outside.specs.Traffic.{Traffic, closed, hung_up, open_line}
use Rattle.adr_outside.proofs.Hanging.{hung_line}
use Rattle.adr_session.specs.Told.{HasSent}

-- all that was sent is done
pub hung : (waiting done : List (List ℕ)) (came sent : List ℕ) (net new : Option Traffic) → new ≡ option_map hung_up net
    → HasSent (open_line waiting done came []) sent net → new ≡ Some (closed waiting (done ++ sent ∷ []))
hung waiting done came sent net new is has = hung_line waiting done has.0 sent net new is has.1
