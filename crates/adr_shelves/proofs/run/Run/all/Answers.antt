use Rattle.std.proofs.Common.{◌∙◌, ap}
use Rattle.adr_shelves.specs.Shelves.{all_shelves, entries_of}
use Rattle.adr_shelves.proofs.ShelvedRuns.{every}
use Rattle.adr_shelves.proofs.run.Run.all.Goals as goal

pub returns : goal.returns
returns c =
    ap entries_of (c.with_links.ensures ∙ ap (λ os. all_shelves os c.args.links.now.entries) (c.range.ensures.between tt ∙ every c.args.objects.now.entries))
