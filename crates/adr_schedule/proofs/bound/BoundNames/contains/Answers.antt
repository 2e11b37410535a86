use Rattle.std.proofs.Common.{ap, ◌∙◌}
use Rattle.std.specs.Prelude.{string_bytes}
use Rattle.std.specs.List.{list_any}
use Rattle.std.specs.Str.{bytes_eq}
use Rattle.adr_schedule.specs.Seen.{is_bound}
use Rattle.adr_schedule.proofs.NameLemmas.{found}
use Rattle.adr_schedule.proofs.bound.BoundNames.contains.Goals as goal

pub returns : goal.returns
returns c =
    c.contains.ensures ∙ ap (λ n. list_any (λ k. bytes_eq n (string_bytes k)) c.self.inside.set.keys) c.as_str.ensures
    ∙ found c.args.name.now c.self.inside.set.keys ∙ ap (λ names. is_bound names c.args.name.now) c.self.view_is
