use Rattle.std.proofs.Common.{◌≡◌, ◌<◌, ◌∙◌, [], true, ap, fold, length, subst, sym}
use Rattle.std.specs.Prelude.{IfSome, IsSome}
use Rattle.adr_model.specs.Change.{put}
use Rattle.adr_shelves.specs.Shelves.{behind_front, front, is_life}
use Rattle.adr_table.specs.Locals.{IsLocated}
use Rattle.adr_table.specs.Table.{HasRoom, HaveRoom, rows_in}
use Rattle.adr_table.specs.declared.table.Table.{Table}
use Rattle.adr_table.proofs.Fills.{behind_fewer, each_behind, each_filled, each_front, front_passes, front_put, life_first, lives_listed}
use Rattle.adr_table.proofs.Rooms.{before_each, each_before, room_later, room_stays}
use Rattle.adr_table.proofs.table.Table.put_front.Goals as goal
use Rattle.adr_table.proofs.table.Table.put_front.Goals.{in-Some, in-None}

pub fill_object-requires-clause-room : goal.fill_object-requires-clause-room
fill_object-requires-clause-room c h m = (each_front (is_life c.in-Some-object.object) (HasRoom c.args.self.now) c.args.rows.now.items (each_before (HasRoom c.args.self.now) c.args.rows.now.items c.requires.room) h m).slot

pub returns-in-Some-object-clause-rows : goal.returns-in-Some-object-clause-rows
returns-in-Some-object-clause-rows c =
    ap (fold put (rows_in (record { slots = c.fill_object.new.self; back = c.args.self.now.back; dead = c.args.self.now.dead; locals = c.args.self.now.locals }))) c.fill_object.ensures.rest
    ∙ ap (λ rows. fold put rows (behind_front (is_life c.in-Some-object.object) c.args.rows.now.items)) c.fill_object.ensures.seen
    ∙ front_put c.in-Some-object.object c.args.rows.now.items (rows_in c.args.self.now)

pub returns-in-Some-object-clause-fewer : goal.returns-in-Some-object-clause-fewer
returns-in-Some-object-clause-fewer c any =
    let o = c.in-Some-object.object in
    let some : front (is_life o) c.args.rows.now.items ≡ [] → ⊥ = elim c.match-front.branch [
      | in-Some w ↦ life_first o c.args.rows.now.items w.in-Some.row.now any w.in-Some.ensures.lookup
          (subst (λ r. IfSome r (λ p. is_life p w.in-Some.row.now ≡ true)) (sym w.object-is ∙ c.in-Some-object.is) w.life_of-object.ensures)
      | in-None w ↦ λ bare. let wrong = sym w.object-is ∙ c.in-Some-object.is in cc
    ] in
    subst (λ rows. length rows < length c.args.rows.now.items) (sym c.fill_object.ensures.rest) (behind_fewer (is_life o) c.args.rows.now.items some)

pub returns-in-Some-object-clause-kept : goal.returns-in-Some-object-clause-kept
returns-in-Some-object-clause-kept c = record {
  tidy = c.fill_object.ensures.tidy;
  backed = λ l some. c.requires.kept.backed l (subst IsSome (c.fill_object.ensures.links l) some);
  listed = lives_listed c.in-Some-object.object (front (is_life c.in-Some-object.object) c.args.rows.now.items) c.args.self.now.slots c.fill_object.new.self c.args.self.now.dead
      (front_passes (is_life c.in-Some-object.object) c.args.rows.now.items) c.requires.kept.listed c.fill_object.ensures.seen;
}

pub returns-in-Some-object-clause-numbered : goal.returns-in-Some-object-clause-numbered
returns-in-Some-object-clause-numbered c =
    each_filled c.args.self.now.slots c.fill_object.new.self (IsLocated c.args.self.now.locals) (front (is_life c.in-Some-object.object) c.args.rows.now.items) c.requires.numbered
    (λ h m. (each_front (is_life c.in-Some-object.object) (HasRoom c.args.self.now) c.args.rows.now.items (each_before (HasRoom c.args.self.now) c.args.rows.now.items c.requires.room) h m).located)
    c.fill_object.ensures.seen

pub returns-in-Some-object-clause-room : goal.returns-in-Some-object-clause-room
returns-in-Some-object-clause-room c =
    let new : Table = record { slots = c.fill_object.new.self; back = c.args.self.now.back; dead = c.args.self.now.dead; locals = c.args.self.now.locals } in
    subst (HaveRoom new) (sym c.fill_object.ensures.rest)
    (before_each (HasRoom new) (behind_front (is_life c.in-Some-object.object) c.args.rows.now.items)
    (λ h m. room_stays c.args.self.now.slots c.fill_object.new.self c.args.self.now.back c.args.self.now.dead c.args.self.now.locals c.fill_object.ensures.places h
    (each_behind (is_life c.in-Some-object.object) (HasRoom c.args.self.now) c.args.rows.now.items (each_before (HasRoom c.args.self.now) c.args.rows.now.items c.requires.room) h m)))

pub returns-in-Some-pop_front-clause-room : goal.returns-in-Some-pop_front-clause-room
returns-in-Some-pop_front-clause-room c =
    room_later c.args.self.now c.put.new.self c.in-Some-pop_front.row c.pop_front.new.self.items (subst (HaveRoom c.args.self.now) c.in-Some-pop_front.ensures.items c.requires.room) c.put.ensures.more
