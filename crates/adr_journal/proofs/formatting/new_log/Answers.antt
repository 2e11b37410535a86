use Rattle.std.proofs.Common.{◌++◌, ◌∷◌, ap, length, arith, length-append}
use Rattle.adr_wire.specs.Fields.{u64}
use Rattle.adr_model.specs.Lengths.{first_area}
use Rattle.adr_law_journal.proofs.Keeping.{long_u64}
use Rattle.adr_law_journal.proofs.Told.{at_told}
use Rattle.adr_journal.specs.Kept.{ids_of}
use Rattle.adr_journal.proofs.formatting.new_log.Goals as goal

pub returns-clause-long : goal.returns-clause-long
returns-clause-long g c =
    let law = g.met.F.Form in
    let s = c.args.state.now in
    let front = g.F.Form.front_of (ids_of s) in
    let area = c.deref.result.now in
    let head = law.tells_front s (law.begins_formed s c.requires) in
    let long = at_told c.in_ok-area.field-0 _ c.in-Some.area c.in-Some.is c.in_ok-area.ensures.long in
    omega (
      arith,
      ap length c.in_ok-written.ensures,
      length-append front (0 ∷ (u64 first_area ++ (u64 first_area ++ area))),
      length-append (u64 first_area) (u64 first_area ++ area),
      length-append (u64 first_area) area,
      long_u64 first_area,
      head.long,
      long,
      ap length c.deref.ensures.value,
    )
