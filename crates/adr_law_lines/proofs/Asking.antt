-- A call that a line says is one that a client may send.
use Rattle.std.proofs.Common.{◌≡◌, ◌≢◌, ◌<◌, [], List, length, ap, arith}
use Rattle.adr_values.specs.Assignments.{Given}
use Rattle.adr_call.specs.declared.write.Write.{Write}
use Rattle.adr_call.specs.declared.write.Write.TheVariants as writes
use Rattle.adr_call.specs.declared.call.Call.{Call}
use Rattle.adr_call.specs.declared.call.Call.TheVariants as calls
use Rattle.adr_schedule.specs.Grammar.{AreGiven, HasCallLine}
use Rattle.adr_model.specs.Write.{write_meant}
use Rattle.adr_model.specs.Given.{IsWellGiven}
use Rattle.adr_model.specs.Client.{IsWellAsked}

some_given : (values : List Given) → 0 < length values → values ≢ []
some_given values some none = let size : length values ≡ 0 = ap length none in omega arith

-- a write whose values are given as a line gives them is one that a client can send
pub well_given : (what : Write) → AreGiven what → IsWellGiven (write_meant what)
well_given (writes.Add guid class parent text values) given = given
well_given (writes.Modify guid values) given = (given.0, some_given values given.1)
well_given (writes.Rename guid parent text) given = tt
well_given (writes.Delete guid) given = tt
well_given (writes.Link from attr to) given = tt
well_given (writes.Unlink from attr to) given = tt

-- and so is a call that a line says
pub well_asked : (what : Call) → HasCallLine what → IsWellAsked what
well_asked (calls.Write what) given = well_given what given
well_asked what given = tt
