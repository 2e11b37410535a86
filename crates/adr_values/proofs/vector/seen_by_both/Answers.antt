use Rattle.std.proofs.Common.{max, sym, ap₂, ◌∙◌}
use Rattle.adr_values.proofs.Joining.{at-joined}
use Rattle.adr_values.proofs.vector.seen_by_both.Goals as goal

pub returns : goal.returns
returns c = c.max.ensures ∙ ap₂ max c.at.ensures c.at-2.ensures ∙ sym (at-joined c.args.other.now c.args.one.now c.args.inv c.is_vector.ensures.rising)
