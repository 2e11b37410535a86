use Rattle.std.proofs.Common.{◌∷◌, [], ◌++◌, ap, ◌∙◌}
use Rattle.adr_schedule.specs.Seen.{is_bound}
use Rattle.adr_schedule.proofs.NameLemmas.{given_last}
use Rattle.adr_schedule.proofs.given.GivenIdentifiers.give.Goals as goal
use Rattle.adr_schedule.proofs.given.GivenIdentifiers.give.Goals.{in-Ok, in-Err}

pub returns-clause-given : goal.returns-clause-given
returns-clause-given c =
    elim c.match-insert.branch [
      | in-Ok w ↦ rw w.result-is (given_last c.self.inside.set.keys c.insert.new.self.keys c.args.id.now
          (ap (λ ids. is_bound ids c.args.id.now) c.self.view_is ∙ c.requires) (rw c.as_bytes.ensures at w.in-Ok.ensures.keys)
          ∙ ap (λ ids. ids ++ c.args.id.now ∷ []) c.self.view_is)
      | in-Err w ↦ rw w.result-is tt
    ]
