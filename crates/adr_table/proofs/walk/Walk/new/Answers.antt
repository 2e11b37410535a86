use Rattle.adr_table.proofs.Lasts.{all_among}
use Rattle.adr_table.proofs.walk.Walk.new.Goals as goal

pub first_behind-next-requires-clause-lasts : goal.first_behind-next-requires-clause-lasts
first_behind-next-requires-clause-lasts c =
    all_among c.args.slots.now c.args.locals.now c.args.usn c.range-hints.result c.requires.located (c.range-hints.ensures.between tt) c.range-hints.ensures.ordered
