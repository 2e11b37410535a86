use Rattle.std.proofs.Common.{Some, sym, ap, ◌∙◌}
use Rattle.adr_model.specs.Store.{updates_of}
use Rattle.adr_model.specs.Write.{nodes_held}
use Rattle.adr_view.proofs.FoundSeen.{found_again, none_seen, seen_there}
use Rattle.adr_view.proofs.seen.shown_at.Goals as goal

pub shown_by-requires-clause-live : goal.shown_by-requires-clause-live
shown_by-requires-clause-live c = found_again (nodes_held (updates_of c.args.rows.now)) c.args.guid c.in-Some.node.now (sym c.in-Some.ensures)

pub returns-in_ok-shown_by-in-Some : goal.returns-in_ok-shown_by-in-Some
returns-in_ok-shown_by-in-Some c =
    ap Some c.in_ok-shown_by-in-Some.ensures ∙ sym (seen_there (updates_of c.args.rows.now) c.args.guid c.in-Some.node.now (sym c.in-Some.ensures))

pub returns-in-None : goal.returns-in-None
returns-in-None c = sym (none_seen (updates_of c.args.rows.now) c.args.guid (sym c.in-None.ensures))
