use Rattle.std.proofs.Common.{◌∙◌, sym}
use Rattle.adr_table.proofs.LocalsKept.{located_but}
use Rattle.adr_table.proofs.locals.forget.Goals as goal

pub returns-then-not-is_needed : goal.returns-then-not-is_needed
returns-then-not-is_needed c =
    located_but c.args.slots.now c.args.locals.now c.remove.new.self c.args.hint.now c.requires.located (sym c.is_needed.ensures ∙ c.if-not-is_needed.true) (λ b. c.remove.ensures.updates.0 b)
