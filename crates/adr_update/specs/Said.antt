-- What updates say as the definitions have it.
use Rattle.adr_model.specs.Update.{Said as Defined, Holds as holds, IsPresent as is_present}
use Rattle.adr_update.specs.declared.update.Said.{Said}
use Rattle.adr_update.specs.declared.update.Said.TheVariants.{Holds, IsPresent}

abbrev pub said_of : Said → Defined
said_of (Holds content) = holds content
said_of (IsPresent present) = is_present present
