use Rattle.adr_run_replica.proofs.keepers.keepers_go_as_planned.Goals as goal

pub returns-clause-in_order : goal.returns-clause-in_order
returns-clause-in_order g c = c.state.ensures.in_order

pub returns-clause-planned : goal.returns-clause-planned
returns-clause-planned g c = record {
  keeps = λ x f at up. g.met.K.PlannedKeeper.keeps_it x f at up;
  starts = λ x new e book r up has ran. g.met.K.PlannedKeeper.starts_as_planned x new e book r up has ran;
  commits = λ old new ch how book r p at running follows up same has of ran. c.commits_go_as_planned.ensures old new ch how book r p at running follows up same has of ran;
  formats = λ x new e up none ran. g.met.K.PlannedKeeper.formats_unplanned x new e up none ran;
  tells = λ x. g.met.K.PlannedKeeper.tells_read x;
}
