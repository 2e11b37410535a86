use Rattle.adr_search.proofs.Placed.{none_found, place_found}
use Rattle.adr_search.proofs.ways.place_in.Goals as goal

pub returns-in-Ok : goal.returns-in-Ok
returns-in-Ok c = place_found c.args.guids.now c.requires c.args.guid c.in-Ok.place c.in-Ok.ensures.bound c.in-Ok.ensures.position

pub returns-in-Err : goal.returns-in-Err
returns-in-Err c = none_found c.args.guids.now c.requires c.args.guid c.in-Err.field-0 c.in-Err.ensures.position
