use Rattle.std.proofs.Common.{Some, None}
use Rattle.adr_search.proofs.Tables.{class_is}
use Rattle.adr_search.proofs.fields.class_text.Goals as goal

pub returns-in-Some : goal.returns-in-Some
returns-in-Some c = class_is c.args.class (Some c.in-Some.row.now) _ c.classes.ensures c.in-Some.ensures

pub returns-in-None : goal.returns-in-None
returns-in-None c = class_is c.args.class None _ c.classes.ensures c.in-None.ensures
