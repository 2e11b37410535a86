use Rattle.std.proofs.Common.{sym, ap, ◌∙◌}
use Rattle.std.specs.BTreeMap.Range.{entries_between}
use Rattle.std.specs.declared.ops.Bound.TheVariants.{Unbounded}
use Rattle.adr_shelves.specs.Place.{place_order}
use Rattle.adr_shelves.specs.Shelves.{all_shelves, entries_of}
use Rattle.adr_shelves.proofs.ShelvedRuns.{every}
use Rattle.adr_shelves.proofs.run.Run.new.Goals as goal

pub returns-in-Unbounded : goal.returns-in-Unbounded
returns-in-Unbounded c =
    c.all.ensures ∙ sym (every (entries_of (all_shelves c.args.objects.now.entries c.args.links.now.entries))) ∙ ap (λ start. entries_between place_order start Unbounded (entries_of (all_shelves c.args.objects.now.entries c.args.links.now.entries))) (sym c.in-Unbounded.is)
