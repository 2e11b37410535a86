-- What is claimed of the end of the run of a generated schedule: its four controllers show the same directory.
use Rattle.std.specs.Prelude.{◌≡◌, ◌≢◌, ◌<◌, ◌≤◌, ◌^◌, ◌++◌, ℕ, List, [], ◌∷◌, true, codes}
use Rattle.adr_call.specs.declared.outcome.Outcome.TheVariants as outcomes
use Rattle.adr_call.specs.declared.event.Event.{Event}
use Rattle.adr_model.specs.Member.{Each}
use Rattle.adr_model.specs.World.{Name, empty_world}
use Rattle.adr_model.specs.Step.{answers}
use Rattle.adr_model.specs.Convergence.{behind, AreUnlimited}
use Rattle.adr_law_convergence.specs.Rounds.{Exchange, AreWhole, in_turn}
use Rattle.adr_run_exercise.specs.Generated.{beginning, groups, rounds, persons, deletions, collections, schedule}
use Rattle.adr_run_exercise.specs.Summary.{summary}

-- ---- the last cycles of the schedule

-- one controller pulls a cycle from another one, with at most 50 items in a reply
abbrev pub pulls_from : Name → Name → Exchange
pulls_from dest source = record { dest = dest; source = source; max = 50 }

-- a round of the four: each pulls from the one before it
abbrev pub four_pull : List Exchange
four_pull = pulls_from (codes "B") (codes "A") ∷ pulls_from (codes "C") (codes "B") ∷ pulls_from (codes "D") (codes "C") ∷ pulls_from (codes "A") (codes "D") ∷ []

abbrev pub six_rounds : List (List Exchange)
six_rounds = four_pull ∷ four_pull ∷ four_pull ∷ four_pull ∷ four_pull ∷ four_pull ∷ []

-- all up to the deletions, and all up to the collections
abbrev pub until_deleted : ℕ → List Event
until_deleted n = beginning ++ groups ++ rounds 1 ++ persons n ++ rounds 6 ++ deletions n

abbrev pub until_collected : ℕ → List Event
until_collected n = until_deleted n ++ rounds 6 ++ collections

-- each cycle behind the deletions is whole, and each behind the collections
pub record EndsInWholeCycles (n : ℕ) : Type 0 where
  pub deleted : AreWhole (behind (until_deleted n)) (in_turn six_rounds)
  pub collected : AreWhole (behind (until_collected n)) four_pull

-- ---- answers of a run

-- no limit was met: of USNs, of a table, or of the log
abbrev pub MeetsNoLimit : ℕ → Type 0
MeetsNoLimit n = AreUnlimited (answers empty_world (schedule n))

-- no cycle was cut off, at the most replies that one may take
abbrev pub NoneIsCutOff : ℕ → Type 0
NoneIsCutOff n = Each (λ a. a.outcome ≢ outcomes.More) (answers empty_world (schedule n))

-- ---- what is claimed

-- the four directories are equal where each of the last cycles is whole, whatever was answered before
abbrev pub LastRoundsMakeEqual : Type 0
LastRoundsMakeEqual = (n : ℕ) → n < 2 ^ 64 → EndsInWholeCycles n → (summary n).equal ≡ true

-- they are so where no limit was met and no cycle was cut off, whatever else was refused
abbrev pub UncutExercisesEndEqual : Type 0
UncutExercisesEndEqual = (n : ℕ) → n < 2 ^ 64 → MeetsNoLimit n → NoneIsCutOff n → (summary n).equal ≡ true

-- up to here the lines write less often than a cycle may take replies, so that none is cut off
abbrev pub uncut_limit : ℕ
uncut_limit = 60000

-- so there they are equal where no limit was met
abbrev pub UnlimitedExercisesEndEqual : Type 0
UnlimitedExercisesEndEqual = (n : ℕ) → n ≤ uncut_limit → MeetsNoLimit n → (summary n).equal ≡ true

-- and where the summary counts no refusal
abbrev pub ExercisesEndEqual : Type 0
ExercisesEndEqual = (n : ℕ) → n ≤ uncut_limit → (summary n).refused ≡ 0 → (summary n).equal ≡ true
