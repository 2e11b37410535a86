use Rattle.std.proofs.Common.{arith, ap, rules}
use Rattle.std.proofs.lemmas.List.Sums.{sum_by_more, sum_by_more_le, sum_by-take-le}
use Rattle.adr_token.proofs.Lists.{added, all_added}
use Rattle.adr_answers.specs.Line.{field_text}
use Rattle.adr_answers.specs.Room.{field_room}
use Rattle.adr_answers.proofs.Results.{on_err}
use Rattle.adr_answers.proofs.lines.push_fields.Goals as goal

pub loop-field-preserved : goal.loop-field-preserved
loop-field-preserved c =
    let step = sum_by_more field_room c.args.fields.now c.loop-field.field-index c.field-item.result c.loop-field-test.true in
    let same = ap field_room c.field-item.is in
    let so_far = c.loop-field.invariant in
    let room = c.in_ok-push_field.ensures.room in
    record {
      items =
          added field_text c.args.out.now.items c.loop-field.out.items c.push_field.new.out.items c.args.fields.now c.loop-field.field-index c.field-item.result c.field-item.result
          c.loop-field-test.true c.field-item.is so_far.items c.in_ok-push_field.ensures.items;
      stays = omega (arith, so_far.stays, room.stays);
      within = omega (arith, step, same, so_far.within, room.within);
    }

pub returns-in_err-push_field-clause-room : goal.returns-in_err-push_field-clause-room
returns-in_err-push_field-clause-room c =
    let most = sum_by_more_le field_room c.args.fields.now c.loop-field.field-index c.field-item.result c.loop-field-test.true in
    let same = ap field_room c.field-item.is in
    let so_far = c.loop-field.invariant in
    let room = c.in_err-push_field.ensures.room in
    record {
      stays = omega (arith, so_far.stays, room.stays);
      within = search rules;
      full = on_err c.from_residual.result (omega (arith, most, same, so_far.stays, so_far.within, room.full));
    }

pub returns-clause-items : goal.returns-clause-items
returns-clause-items c = all_added field_text c.args.out.now.items c.loop-field.out.items c.args.fields.now c.loop-field.field-index (omega arith) c.loop-field.invariant.items

pub returns-clause-room : goal.returns-clause-room
returns-clause-room c =
    let most = sum_by-take-le field_room c.args.fields.now c.loop-field.field-index in
    let so_far = c.loop-field.invariant in
    record { stays = so_far.stays; within = omega (arith, most, so_far.within); full = tt }
