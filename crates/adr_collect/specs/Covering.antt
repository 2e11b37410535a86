-- What covers one collected object more.
use Rattle.std.specs.Prelude.{Option, None, Some}
use Rattle.adr_values.specs.declared.stamp.Oid.{Oid}
use Rattle.adr_values.specs.Vector.{Cursors, raised}
use Rattle.adr_model.specs.Update.{Update, inv_of, usn_of}

-- a vector that is brought up to the birth of an object and to its death, if there is one
abbrev pub covering_with : Cursors → Update → Option Oid → Cursors
covering_with v death None = v
covering_with v death (Some o) = raised (raised v o.birth.inv o.birth.usn) (inv_of death) (usn_of death)
