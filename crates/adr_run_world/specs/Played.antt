-- What a run of events writes.
use Rattle.std.specs.Prelude.{ℕ, List, flat_map}
use Rattle.adr_call.specs.declared.event.Event.{Event}
use Rattle.adr_model.specs.World.{World}
use Rattle.adr_model.specs.Step.{answers}
use Rattle.adr_answers.specs.Line.{line}

-- what events write from a world on: the lines of their answers
abbrev pub output_from : World → List Event → List ℕ
output_from w events = flat_map line (answers w events)
