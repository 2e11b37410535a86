use Rattle.std.proofs.Common.{rules, sym}
use Rattle.adr_origin.proofs.placing.check_no_child.Goals as goal

pub returns-in-Some : goal.returns-in-Some
returns-in-Some c = rw (sym c.rows.ensures) (search rules)
