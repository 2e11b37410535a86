use Rattle.adr_search.proofs.Climbing.{by_parents}
use Rattle.adr_search.proofs.laws.scopes_go_by_parents.Goals as goal

pub returns : goal.returns
returns c es base scope e = by_parents es base scope e
