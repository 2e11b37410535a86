use Rattle.std.proofs.Common.{sym, ◌∙◌}
use Rattle.adr_overlay.proofs.Standings.{presence_there, presence_away, class_away}
use Rattle.adr_overlay.proofs.standing.standing_of_object.Goals as goal

pub returns-then-holds : goal.returns-then-holds
returns-then-holds c =
    let there = sym c.holds.ensures ∙ c.if-holds.true in
    (c.presence_held.ensures ∙ presence_there c.args.vector.now c.args.held.now c.args.object.now there, c.class_held.ensures)

pub returns-else-holds : goal.returns-else-holds
returns-else-holds c =
    let away = sym c.holds.ensures ∙ c.if-holds.false in
    (c.presence_absent.ensures ∙ presence_away c.args.vector.now c.args.held.now c.args.object.now away, class_away c.args.held.now c.args.object.now away)
