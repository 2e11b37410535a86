use Rattle.std.proofs.Common.{sym, ◌∙◌, ap, length, arith}
use Rattle.std.specs.Prelude.{nat_le, nat_lt}
use Rattle.std.proofs.lemmas.Bool.{ltb-true}
use Rattle.adr_model.specs.Lengths.{change_length, length_limit, log_after, log_limit}
use Rattle.adr_journal.proofs.Fitting.{after_some}
use Rattle.adr_journal.proofs.Found.{record_length}
use Rattle.adr_journal.proofs.committing.spell.Goals as goal

pub returns-clause-long : goal.returns-clause-long
returns-clause-long g c =
    let change = c.args.change.now in
    let body = g.F.Form.body_of change in
    let before = c.in_ok-area.before in
    let fits = after_some (nat_le (log_after before change).log_end log_limit) (nat_lt (change_length change) length_limit) (log_after before change) c.in-Some.next (sym c.after.ensures ∙ c.in-Some.is) in
    let short = ltb-true (change_length change) length_limit fits.2 in
    (c.in_ok-area.ensures.long, omega (arith, short, g.met.F.Form.body_length c.args.state.now change c.requires.follows, ap length c.in_ok-written.ensures, record_length body))
