-- What is claimed of a line by the one call that does it.
use Rattle.std.specs.Prelude.{◌≡◌, ◌<◌, ◌≤◌, ◌⊎◌, ℕ, zero, suc, List, [], ◌++◌, Option, flat_map, length, take}
use Rattle.adr_call.specs.declared.answer.Answer.{Answer}
use Rattle.adr_call.specs.declared.event.Event.{Event}
use Rattle.adr_call.specs.declared.event.Event.TheVariants as events
use Rattle.adr_call.specs.declared.event.Exchange.TheVariants as exchanges
use Rattle.adr_io.specs.Told.{Adds, AddsFront}
use Rattle.adr_model.specs.Replica.{Replica}
use Rattle.adr_model.specs.World.{World}
use Rattle.adr_model.specs.Cycles.{Pulled, and_then, pull, reply_limit}
use Rattle.adr_model.specs.Step.{step}
use Rattle.adr_model.specs.Convergence.{MayCycle, AreUnlimited, EndsOrSaysMore}
use Rattle.adr_answers.specs.Line.{line}
use Rattle.adr_run_world.specs.Pulls.{IsTurn}
use Rattle.adr_run_world.specs.Short.{IsCutShort, IsMidway}

-- what so many turns of a line come to: of a cycle so many pulls, and any other line is one turn
abbrev pub turns : ℕ → World → Event → World × List Answer
turns zero w e = (w, [])
turns (suc n) w (events.Goes name (exchanges.Cycle source max)) = and_then (pull w name source max) (λ v. turns n v (events.Goes name (exchanges.Cycle source max)))
turns (suc n) w e = step w e

-- this is done, and a front of the lines of its answers is written, and nothing else
abbrev pub IsDone : World × List Answer → World → Option (List ℕ) → Option (List ℕ) → Type 0
IsDone t v before after = (v ≡ t.0) × AddsFront before after (flat_map line t.1)

-- of a start that wanted memory its sync stands, or of such a ring some of its pulls are done, and nothing is written
abbrev pub IsStillMidway : World → Event → World → Option (List ℕ) → Option (List ℕ) → Type 0
IsStillMidway w e v before after = IsMidway w e v × Adds before after []

-- what a fault leaves of a line, by what was written before it and after: so many of its turns are done, or all of it, and a front
-- of their lines is written; or it is midway
abbrev pub IsLeftBy : World → Event → World → Option (List ℕ) → Option (List ℕ) → Type 0
IsLeftBy w e v before after =
    ((n : ℕ) × (n ≤ reply_limit) × IsDone (turns n w e) v before after)
    ⊎ (IsDone (step w e) v before after ⊎ IsStillMidway w e v before after)

-- these turns are done, and the lines of their answers are written
abbrev pub IsTold : World × List Answer → World → Option (List ℕ) → Option (List ℕ) → Type 0
IsTold t v before after = (v ≡ t.0) × Adds before after (flat_map line t.1)

-- and so is one turn more, by its number from 0, of whose lines only the first so many are written
abbrev pub LacksLines : ℕ → World × List Answer → Event → World → Option (List ℕ) → Option (List ℕ) → Type 0
LacksLines turn t e v before after =
    (p : Pulled) × IsTurn turn t.0 e p × ((told : ℕ) × (told < length p.1) × IsTold (p.0, t.1 ++ take told p.1) v before after)

-- what want of memory leaves of a line, whose written lines are then whole: the world behind the turns whose lines are written, or
-- behind one more, some of whose lines are wanting; or it is midway
abbrev pub IsShortBy : World → Event → World → Option (List ℕ) → Option (List ℕ) → Type 0
IsShortBy w e v before after =
    ((n : ℕ) × (n ≤ reply_limit) × (IsTold (turns n w e) v before after ⊎ LacksLines n (turns n w e) e v before after))
    ⊎ IsStillMidway w e v before after

-- what want of memory leaves of a line where the sink wants none: nothing is done but of a start or a ring, and nothing is written;
-- and of a cycle the pulls are done whose answers are written
abbrev pub IsUndoneBy : World → Event → World → Option (List ℕ) → Option (List ℕ) → Type 0
IsUndoneBy w (events.Goes name (exchanges.Cycle source max)) v before after = (n : ℕ) × (n ≤ reply_limit) × IsTold (turns n w (events.Goes name (exchanges.Cycle source max))) v before after
IsUndoneBy w e v before after = IsCutShort w e v × Adds before after []

-- a cycle between two controllers with nothing in the way, which met no limit, says that there is more, or it ended with the last
-- reply, and the destination has everything
abbrev pub IsCompletedBy : World → Event → List Answer → World → Type 0
IsCompletedBy w (events.Goes name (exchanges.Cycle source max)) answers v =
    (d s : Replica) → MayCycle w d s → d.name ≡ name → s.name ≡ source → 1 ≤ max → AreUnlimited answers → EndsOrSaysMore w d s answers v
IsCompletedBy w e answers v = Unit {0}
