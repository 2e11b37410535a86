use Rattle.std.proofs.Common.{◌∙◌}
use Rattle.adr_table.specs.Deaths.{IsListed}
use Rattle.adr_table.proofs.Rooms.{backed_same, numbered_more}
use Rattle.adr_table.proofs.LocalsKept.{each_same}
use Rattle.adr_table.proofs.table.Table.free.Goals as goal

pub forget_all-requires-clause-backed : goal.forget_all-requires-clause-backed
forget_all-requires-clause-backed c = backed_same c.args.self.now.slots c.free_all.new.slots c.args.self.now.back c.args.self.now.back c.requires.kept.backed (λ k h. h) c.free_all.ensures.same

pub forget_dead-requires-clause-listed : goal.forget_dead-requires-clause-listed
forget_dead-requires-clause-listed c =
    each_same c.args.self.now.slots c.forget_all.new.slots (λ h. IsListed c.args.self.now.dead h.update.key) (λ h. IsListed c.args.self.now.dead h.update.key) c.requires.kept.listed (λ h e. e)
    (c.forget_all.ensures.seen ∙ c.free_all.ensures.seen)

pub forget_locals-requires-clause-located : goal.forget_locals-requires-clause-located
forget_locals-requires-clause-located c =
    numbered_more c.args.self.now.slots c.forget_all.new.slots c.args.self.now.locals c.args.self.now.locals c.requires.numbered (c.forget_all.ensures.seen ∙ c.free_all.ensures.seen) (λ h e. e)
