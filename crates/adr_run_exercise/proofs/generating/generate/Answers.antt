use Rattle.std.proofs.Common.{sym, subst}
use Rattle.adr_schedule.specs.Seen.{nothing_seen, IsFollowing}
use Rattle.adr_run_exercise.proofs.Followed.{schedules_follow}
use Rattle.adr_run_exercise.proofs.generating.generate.Goals as goal

pub returns-clause-follows : goal.returns-clause-follows
returns-clause-follows c = subst (IsFollowing nothing_seen) (sym c.in_ok-events.ensures) (schedules_follow c.args.n c.ranges.n.fits)
