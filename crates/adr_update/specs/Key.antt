-- Keys of updates as the definitions have them.
use Rattle.adr_model.specs.Update.{Key as Defined, RowOf, LinkOf}
use Rattle.adr_update.specs.declared.key.Key.{Key}
use Rattle.adr_update.specs.declared.key.Key.TheVariants.{Row, Link}

abbrev pub key_of : Key → Defined
key_of (Row object attr) = RowOf object attr
key_of (Link link) = LinkOf link
