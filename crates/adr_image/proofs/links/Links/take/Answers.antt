use Rattle.std.proofs.Common.{[], ◌∷◌, ◌++◌, Some, refl, ap, ◌∙◌}
use Rattle.adr_image.proofs.Keeping.{keeps_link}
use Rattle.adr_image.proofs.links.Links.take.Goals as goal

pub returns : goal.returns
returns c = λ os ls h.
    keeps_link os c.args.self.now (record { rows = c.push.new.self; last = Some c.args.link.now.1.0; used = c.insert.new.self; dead = c.args.self.now.dead }) ls c.args.link.now h
    (c.in_ok-push.ensures.items ∙ ap (λ x. c.args.self.now.rows.items ++ (x ∷ [])) c.held_link.ensures) refl c.in_ok-insert.ensures.keys refl
