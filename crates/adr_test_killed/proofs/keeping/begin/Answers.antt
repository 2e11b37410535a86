use Rattle.std.proofs.Common.{refl, subst, sym}
use Rattle.adr_model.specs.Place.{identifier}
use Rattle.adr_records.specs.Logged.{MayBegin}
use Rattle.adr_test_killed.proofs.keeping.begin.Goals as goal

pub begin_on-requires-clause-begins : goal.begin_on-requires-clause-begins
begin_on-requires-clause-begins c = subst MayBegin (sym c.new_state.ensures) (c.new_controllers_may_begin.ensures (identifier 0xa0) (identifier 0xa1) refl refl)
