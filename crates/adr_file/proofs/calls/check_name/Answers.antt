use Rattle.adr_file.proofs.Known.{own_found}
use Rattle.adr_file.proofs.calls.check_name.Goals as goal

pub returns-in-Some-clause-own : goal.returns-in-Some-clause-own
returns-in-Some-clause-own g c =
    own_found g.F.Folder c.args.folder.now c.measure.new.self c.look.new.self c.in_ok-held.held.identity c.in_ok-found.field-0 c.in-Some.found c.in-Some.is
    c.measure.ensures.keeps c.measure.ensures.stays c.look.ensures.keeps c.look.ensures.stays c.in_ok-held.ensures.opened c.in_ok-found.ensures.found (c.is_same.ensures c.if-is_same.true)
