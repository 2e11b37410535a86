use Rattle.std.proofs.Common.{Some, None}
use Rattle.adr_search.proofs.Tables.{field_is}
use Rattle.adr_search.proofs.fields.field_among.Goals as goal

pub returns-in-Some : goal.returns-in-Some
returns-in-Some c = field_is c.args.low.now (Some c.in-Some.row.now) _ c.rows.ensures c.in-Some.ensures

pub returns-in-None : goal.returns-in-None
returns-in-None c = field_is c.args.low.now None _ c.rows.ensures c.in-None.ensures
