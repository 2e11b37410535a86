use Rattle.std.proofs.Common.{sym, ap, ◌∙◌, false, cond}
use Rattle.std.specs.BTreeMap.{is_at}
use Rattle.std.specs.BTreeSet.{contains}
use Rattle.adr_model.specs.Update.{LinkOf}
use Rattle.adr_table.specs.Back.{behind_order}
use Rattle.adr_table.proofs.Seen.{found}
use Rattle.adr_table.proofs.Rooms.{backed_without}
use Rattle.adr_table.proofs.Queries.{none_copied}
use Rattle.adr_table.proofs.back.forget.Goals as goal

pub returns-then-is_none-clause-backed : goal.returns-then-is_none-clause-backed
returns-then-is_none-clause-backed c =
    backed_without c.args.slots.now c.free.new.self c.args.back.now c.remove.new.self c.args.link.now c.requires.backed
    (found c.args.slots.now.map (LinkOf c.args.link.now) c.requires.tidy.ordered c.requires.tidy.home ∙ sym c.row.ensures ∙ none_copied c.row.result c.if-is_none.ensures)
    (λ b. c.remove.ensures.updates.0 b ∙ ap (λ h. cond (is_at (behind_order h) b) false (contains behind_order c.args.back.now b)) c.of.ensures)
    c.free.ensures.same
