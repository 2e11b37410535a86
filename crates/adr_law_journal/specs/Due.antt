-- The nine calls of a commit before which a checkpoint is due, as five and then four.
use Rattle.std.specs.Prelude.{◌≡◌, ◌+◌, ◌-◌, Option}
use Rattle.adr_disk.specs.declared.memory.Plan.{Plan}
use Rattle.adr_model.specs.Replica.{Went, Passed, Met, went, behind}

-- the record's calls behind a checkpoint that went so
abbrev pub record_goes : Went → Went
record_goes (Passed left) = went left 4
record_goes (Met place mishap) = Met (place - 5) mishap

abbrev pub TwoRuns : Type 0
TwoRuns = (plan : Option Plan) → behind 5 (went plan (5 + 4)) ≡ record_goes (went plan 5)
