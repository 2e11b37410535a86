-- A store of marks alone, so that what the definitions say of a store can be said of its marks.
use Rattle.std.specs.Prelude.{List}
use Rattle.adr_model.specs.Update.{Identifier}
use Rattle.adr_model.specs.Store.{PartnerMark, Store, empty_store}

abbrev pub of_marks : List (Identifier × PartnerMark) → Store
of_marks marks = record (empty_store 1) { marks = marks }
