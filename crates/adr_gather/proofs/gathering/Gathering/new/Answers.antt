use Rattle.std.proofs.Common.{ℕ, List, ◌∙◌, ap}
use Rattle.std.specs.Option.{option_map}
use Rattle.adr_law_journal.specs.Areas.{start_of}
use Rattle.adr_gather.specs.Held.{once_written}
use Rattle.adr_gather.proofs.Viewing.{none_held}
use Rattle.adr_gather.proofs.gathering.Gathering.new.Goals as goal

pub returns-clause-told : goal.returns-clause-told
returns-clause-told g c =
    let form = g.F.Form in
    let o = g.D.Disk.content c.args.disk in
    ap (option_map (start_of form.head form.area form.following)) (ap (λ (h : List ℕ). once_written o 0 h) c.new.ensures.items ∙ none_held o 0)
