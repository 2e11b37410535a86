use Rattle.std.proofs.Common.{rules, sym}
use Rattle.adr_origin.proofs.placing.check_name_free.Goals as goal

pub returns-in-Some : goal.returns-in-Some
returns-in-Some c = rw (sym c.rows.ensures) (search rules)
