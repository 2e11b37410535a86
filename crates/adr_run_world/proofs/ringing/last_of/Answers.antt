use Rattle.std.proofs.Common.{sym, ap, ◌∙◌}
use Rattle.std.specs.Option.{option_copied}
use Rattle.adr_run_world.proofs.RingLemmas.{last_read}
use Rattle.adr_run_world.proofs.ringing.last_of.Goals as goal

pub returns-in-Some : goal.returns-in-Some
returns-in-Some c = last_read c.args.first.now c.args.others.now c.in-Some.last.now (sym c.last.ensures.value ∙ ap option_copied c.in-Some.is)
