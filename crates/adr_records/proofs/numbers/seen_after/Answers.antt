use Rattle.std.proofs.Common.{◌≡◌, Bool, true, false, max, sym, ap, ap₂, ◌∙◌}
use Rattle.adr_values.specs.Vector.{Cursors, at, joined}
use Rattle.adr_model.specs.Update.{same_identifier}
use Rattle.adr_records.proofs.Seen.{raised_at}
use Rattle.adr_records.proofs.numbers.seen_after.Goals as goal
use Rattle.adr_records.proofs.numbers.seen_after.Goals.{After-is_same}

module _ (c : After-is_same) where
  abbrev both : Cursors
  both = joined c.args.state.now.store.vector c.args.change.now.joined

  seen : c.seen_by_both-seen.result ≡ at both c.args.inv
  seen = c.seen_by_both-seen.ensures ∙ ap₂ (λ (v w : Cursors). at (joined v w) c.args.inv) c.vector.ensures c.joined.ensures

  same : (b : Bool) → c.is_same.result ≡ b → same_identifier c.args.inv c.args.state.now.inv ≡ b
  same b is = ap (same_identifier c.args.inv) (sym c.inv.ensures) ∙ sym c.is_same.ensures ∙ is

pub returns-then-is_same : goal.returns-then-is_same
returns-then-is_same c =
    let x = (goal.at.returns-then-is_same c).After-is_same in
    c.max.ensures ∙ ap (max c.seen_by_both-seen.result) c.usn.ensures ∙ raised_at (both x) c.args.state.now.inv c.args.change.now.usn c.args.inv c.seen_by_both-seen.result (seen x) true (same x true c.if-is_same.true)

pub returns-else-is_same : goal.returns-else-is_same
returns-else-is_same c =
    let x = (goal.at.returns-else-is_same c).After-is_same in
    raised_at (both x) c.args.state.now.inv c.args.change.now.usn c.args.inv c.seen_by_both-seen.result (seen x) false (same x false c.if-is_same.false)
