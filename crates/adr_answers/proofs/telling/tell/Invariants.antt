use Rattle.std.proofs.Common.{◌≡◌, ◌≤◌, drop, take, vec_capacity}
use Rattle.std.specs.Prelude.{All, flat_map}
use Rattle.adr_io.specs.Told.{Adds}
use Rattle.adr_answers.specs.Line.{line}
use Rattle.adr_answers.specs.Room.{IsWithin}
use Rattle.adr_answers.proofs.Due.{Remains}
use Rattle.adr_answers.proofs.telling.tell.Given as goal

-- the lines of the answers so far are written, and what is due is those of the answers that are left; a room that is enough stays
abbrev pub invariant-loop-answer : goal.invariant-loop-answer
invariant-loop-answer g l = record {
  told : Adds (g.K.Sink.written l.fn.sink) (g.K.Sink.written l.sink) (flat_map line (take l.answer-index l.answers));
  due : Remains (g.K.Sink.written l.fn.sink) (g.K.Sink.written l.sink) (flat_map line l.answers) (flat_map line (drop l.answer-index l.answers));
  faults : g.K.Sink.faults l.sink ≡ g.K.Sink.faults l.fn.sink;
  stays : All (IsWithin (vec_capacity l.fn.room)) l.answers → vec_capacity l.fn.room ≤ vec_capacity l.room;
}
