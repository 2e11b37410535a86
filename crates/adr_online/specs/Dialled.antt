-- What is told of a network and of lines, before a call of another node and behind it.
use Rattle.std.specs.Prelude.{◌≡◌, ◌<◌, ℕ, List, [], ◌∷◌, ◌++◌, Option, Some}
use Rattle.std.specs.Option.{option_map}
use Rattle.adr_io.specs.declared.Sink.{Ghosts as SinkGhosts}
use Rattle.adr_outside.specs.Traffic.{Traffic, closed, hung_up}
use Rattle.adr_outside.specs.declared.net.Net.{Ghosts as NetGhosts}

-- what is told of a network and of what failed in it, and of the lines that were written
pub record Outside : Type 0 where
  pub net : Option Traffic
  pub doors : ℕ  -- how many calls of its doors have failed
  pub faults : ℕ  -- how many calls have failed in its connections
  pub lines : Option (List ℕ)

abbrev pub outside_of : {N K : Type 0} → NetGhosts N → SinkGhosts K → N → K → Outside
outside_of n k net sink = record { net = n.traffic net; doors = n.doors net; faults = n.lines net; lines = k.written sink }

-- where a client stands before it calls: what comes in each connection that isn't opened yet, what was sent in each that was
-- hung up, how many calls have failed, of doors and in connections, and what was written
pub record Post : Type 0 where
  pub waiting : List (List ℕ)
  pub done : List (List ℕ)
  pub doors : ℕ
  pub faults : ℕ
  pub written : List ℕ

-- all outside is where the post says, an open connection being hung up
pub record IsAt (p : Post) (o : Outside) : Type 0 where
  pub net : option_map hung_up o.net ≡ Some (closed p.waiting p.done)
  pub doors : o.doors ≡ p.doors
  pub faults : o.faults ≡ p.faults
  pub lines : o.lines ≡ Some p.written

-- a call of a door failed, and nothing else was done
abbrev pub FailsToOpen : Post → Outside → Type 0
FailsToOpen p o = (p.doors < o.doors) × IsAt (record p { doors = o.doors }) o

-- The connection that came next was opened and hung up, behind which these wait. This was sent in it, and so much was then
-- written in all.
pub record HasDone (p : Post) (rest : List (List ℕ)) (o : Outside) (sent written : List ℕ) : Type 0 where
  pub net : o.net ≡ Some (closed rest (p.done ++ sent ∷ []))
  pub doors : o.doors ≡ p.doors
  pub lines : o.lines ≡ Some written
