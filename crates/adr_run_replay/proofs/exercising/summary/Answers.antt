use Rattle.std.proofs.lemmas.Result.{IfOk-weaker}
use Rattle.adr_run_replay.proofs.Counting.{summary_is}
use Rattle.adr_run_replay.proofs.exercising.summary.Goals as goal

pub returns : goal.returns
returns c =
    IfOk-weaker c.summed_up.result _ _ (λ s made. summary_is c.args.number c.run_schedule.new.world c.run_schedule.new.tally s c.in_ok-run_schedule.ensures.stands c.in_ok-run_schedule.ensures.counted made) c.summed_up.ensures
