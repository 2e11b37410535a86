-- How a vector says that it has no room.
use Rattle.adr_values.specs.declared.failure.Failure.{Failure}
use Rattle.adr_values.specs.declared.failure.Failure.TheVariants.{Refused}
use Rattle.adr_values.specs.declared.vector.Full.{Full}

abbrev pub full : Failure Full
full = Refused (record {})
