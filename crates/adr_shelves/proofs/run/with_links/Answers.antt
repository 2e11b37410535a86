use Rattle.std.proofs.Common.{◌∙◌, ap}
use Rattle.adr_shelves.specs.Shelves.{all_shelves}
use Rattle.adr_shelves.proofs.ShelvedRuns.{every}
use Rattle.adr_shelves.proofs.run.with_links.Goals as goal

pub returns : goal.returns
returns c = ap (all_shelves c.args.objects) (c.range.ensures.between tt ∙ every c.args.links.now.entries)
