use Rattle.std.proofs.Common.{◌∷◌, [], ◌++◌, ap, ◌∙◌}
use Rattle.adr_schedule.specs.Seen.{is_bound}
use Rattle.adr_schedule.proofs.NameLemmas.{bound_last}
use Rattle.adr_schedule.proofs.bound.BoundNames.bind.Goals as goal
use Rattle.adr_schedule.proofs.bound.BoundNames.bind.Goals.{in-Ok-insert, in-Err}

pub returns-clause-bound : goal.returns-clause-bound
returns-clause-bound c =
    elim c.match-insert.branch [
      | in-Ok-insert w ↦ rw w.result-is (bound_last c.self.inside.set.keys c.insert.new.self.keys c.in-Ok.name c.args.name.now
          (c.in-Ok.ensures.ok ∙ c.as_str.ensures) (ap (λ names. is_bound names c.args.name.now) c.self.view_is ∙ c.requires) w.in-Ok-insert.ensures.keys
          ∙ ap (λ names. names ++ c.args.name.now ∷ []) c.self.view_is)
      | in-Err w ↦ rw w.result-is tt
    ]
