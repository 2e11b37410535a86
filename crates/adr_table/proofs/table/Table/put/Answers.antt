use Rattle.adr_table.specs.Deaths.{IsListed}
use Rattle.adr_table.specs.Locals.{IsLocated}
use Rattle.adr_table.proofs.Buried.{each_buried}
use Rattle.adr_table.proofs.Rooms.{kept_put, room_stays}
use Rattle.adr_table.proofs.LocalsKept.{each_written}
use Rattle.adr_table.proofs.table.Table.put.Goals as goal

pub returns-in-None-clause-kept : goal.returns-in-None-clause-kept
returns-in-None-clause-kept c =
    kept_put c.args.self.now _ c.args.row c.requires.kept c.write.ensures.tidy c.write.ensures.seen c.write.ensures.rows (λ k is. is) (λ k is. is) c.requires.room.hinted c.requires.room.listed

pub returns-in-None-clause-numbered : goal.returns-in-None-clause-numbered
returns-in-None-clause-numbered c =
    each_written c.args.self.now.slots c.write.new.self (IsLocated c.args.self.now.locals) c.args.row c.requires.numbered c.requires.room.located c.write.ensures.seen

pub returns-in-None-clause-more : goal.returns-in-None-clause-more
returns-in-None-clause-more c = room_stays c.args.self.now.slots c.write.new.self c.args.self.now.back c.args.self.now.dead c.args.self.now.locals c.write.ensures.places

pub returns-in-Some-clause-kept : goal.returns-in-Some-clause-kept
returns-in-Some-clause-kept c = record {
  tidy = c.bury.ensures.tidy;
  backed = c.bury.ensures.backed;
  listed = each_buried c.args.self.now.slots c.bury.new.slots (λ h. IsListed c.args.self.now.dead h.update.key) c.args.row c.in-Some.object c.requires.kept.listed c.requires.room.listed c.bury.ensures.seen;
}

pub returns-in-Some-clause-numbered : goal.returns-in-Some-clause-numbered
returns-in-Some-clause-numbered c =
    each_buried c.args.self.now.slots c.bury.new.slots (IsLocated c.args.self.now.locals) c.args.row c.in-Some.object c.requires.numbered c.requires.room.located c.bury.ensures.seen

pub returns-in-Some-clause-more : goal.returns-in-Some-clause-more
returns-in-Some-clause-more c = room_stays c.args.self.now.slots c.bury.new.slots c.args.self.now.back c.args.self.now.dead c.args.self.now.locals c.bury.ensures.places
