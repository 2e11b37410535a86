use Rattle.adr_law_controller.proofs.logs_keep.Goals as goal

pub returns : goal.returns
returns g c = record { given = c.given_calls_follow.ensures; logged = λ s formed. formed }
