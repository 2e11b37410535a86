use Rattle.std.proofs.Common.{sym, ap, subst, ◌∙◌}
use Rattle.adr_values.specs.Vector.{IsVector}
use Rattle.adr_values.specs.Times.{AreMoments}
use Rattle.adr_values.specs.Dated.{cursors_of, moments_of}
use Rattle.adr_wire.proofs.TimedLaws.{dated_read}
use Rattle.adr_wire.proofs.reader.Reader.read_vector2.Goals as goal

pub of-requires : goal.of-requires
of-requires c =
    let are = dated_read c.in_ok-count.count c.read_u32.new.self c.read_dated.new.self c.in_ok-dated.dated.items c.if-count-gt-CURSOR_LIMIT.false c.in_ok-dated.ensures in
    subst IsVector (sym (c.in_ok-cursors.ensures ∙ ap cursors_of c.deref.ensures.value)) are.0

pub of-requires-2 : goal.of-requires-2
of-requires-2 c =
    let are = dated_read c.in_ok-count.count c.read_u32.new.self c.read_dated.new.self c.in_ok-dated.dated.items c.if-count-gt-CURSOR_LIMIT.false c.in_ok-dated.ensures in
    subst AreMoments (sym (c.in_ok-moments.ensures ∙ ap moments_of c.deref-2.ensures.value)) (record { rising = are.1.rising; from_one = are.1.from_one })
