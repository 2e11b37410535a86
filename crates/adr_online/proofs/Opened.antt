-- A connection was opened from a post, and is hung up again; or none was.
use Rattle.std.proofs.Common.{◌≡◌, ◌<◌, ◌∙◌, refl, ℕ, List, Option, Some, arith}
use Rattle.std.specs.Option.{option_map}
use Rattle.adr_outside.specs.Traffic.{Traffic, hung_up, open_line}
use Rattle.adr_outside.proofs.Hanging.{hung_line}
use Rattle.adr_online.specs.Dialled.{FailsToOpen, HasDone, IsAt, Outside, Post}

-- where a connection stands when it was opened from a post
abbrev pub opened : Post → List (List ℕ) → List ℕ → List ℕ → Traffic
opened p rest left sent = open_line rest p.done left sent

pub done_so : (p : Post) (rest : List (List ℕ)) (left sent written : List ℕ) (net : Option Traffic) (o : Outside)
    → o.net ≡ option_map hung_up net → o.doors ≡ p.doors → net ≡ Some (opened p rest left sent) → o.lines ≡ Some written
    → HasDone p rest o sent written
done_so p rest left sent written net o hung doors is told =
    record { net = hung_line rest p.done left sent net o.net hung is; doors = doors; lines = told }

module _ (p : Post) (before after : Outside) (at : IsAt p before) (shut : option_map hung_up after.net ≡ option_map hung_up before.net)
    (faults : after.faults ≡ before.faults) (lines : after.lines ≡ before.lines) where
  pub fails_to_open : before.doors < after.doors → FailsToOpen p after
  fails_to_open failed = (
    omega (arith, at.doors, failed),
    record { net = shut ∙ at.net; doors = refl; faults = faults ∙ at.faults; lines = lines ∙ at.lines },
  )

  pub stays_shut : after.doors ≡ before.doors → IsAt p after
  stays_shut doors =
      record { net = shut ∙ at.net; doors = doors ∙ at.doors; faults = faults ∙ at.faults; lines = lines ∙ at.lines }
