use Rattle.std.proofs.Common.{◌∙◌}
use Rattle.adr_revival.proofs.Same.{made_same, same_write, shows_same}
use Rattle.adr_revival.proofs.revival.revive.Goals as goal

pub returns-clause-ok : goal.returns-clause-ok
returns-clause-ok c = λ image is.
    made_same c.args.state.now c.args.revival.now.guid c.args.revival.now.parent c.args.revival.now.text.now c.args.archive.now c.args.now c.revived.result c.revived.ensures.ok image is

pub returns-clause-refused : goal.returns-clause-refused
returns-clause-refused c = λ image refusal is err.
    same_write c.args.state.now c.args.revival.now.guid c.args.revival.now.parent c.args.revival.now.text.now image c.args.archive.now c.args.now is ∙ c.revived.ensures.refused refusal err

pub returns-clause-shows : goal.returns-clause-shows
returns-clause-shows c = λ formed.
    let i = c.is_of_image.ensures in
    shows_same c.args.state.now c.args.revival.now.guid c.args.revival.now.parent c.args.revival.now.text.now c.args.archive.now c.args.now formed i.0 i.1 i.2 c.revived.result c.revived.ensures.ok
