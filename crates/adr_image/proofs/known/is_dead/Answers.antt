use Rattle.std.proofs.Common.{◌∙◌}
use Rattle.adr_image.proofs.Sets.{dead_is}
use Rattle.adr_image.proofs.known.is_dead.Goals as goal

pub returns : goal.returns
returns c = c.contains.ensures ∙ dead_is c.args.dead.now.keys c.args.oid.now
