use Rattle.std.proofs.Common.{◌≡◌, ◌≤◌, ◌+◌, ◌++◌, take, flat_map, vec_capacity, vec_len}
use Rattle.std.specs.List.{sum_by}
use Rattle.adr_answers.specs.Line.{field_text}
use Rattle.adr_answers.specs.Room.{field_room}
use Rattle.adr_answers.proofs.lines.push_fields.Given as goal

-- the fields so far are written, and took no more than their room
abbrev pub invariant-loop-field : goal.invariant-loop-field
invariant-loop-field l = record {
  items : l.out.items ≡ l.fn.out.items ++ flat_map field_text (take l.field-index l.fields);
  stays : vec_capacity l.fn.out ≤ vec_capacity l.out;
  within : vec_len l.out ≤ vec_len l.fn.out + sum_by field_room (take l.field-index l.fields);
}
