use Rattle.std.proofs.Common.{◌≡◌}
use Rattle.adr_search.specs.declared.refusal.SearchRefusal.TheVariants.{BadFilter}
use Rattle.adr_search.proofs.Judging.{bad_text}
use Rattle.adr_search.proofs.searching.search_by_text.Goals as goal

pub returns-in-Err-Refused-clause-refused : goal.returns-in-Err-Refused-clause-refused
returns-in-Err-Refused-clause-refused c refusal is =
    let place = c.in-Err-Refused.bad.place in
    let facts = c.in-Err-Refused.ensures.place place (cc) in
    let told : BadFilter place ≡ refusal = cc in
    bad_text c.args.directory.now c.args.base c.args.scope c.args.text.now place refusal facts.0 facts.1 told
