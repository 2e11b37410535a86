use Rattle.std.proofs.Common.{◌≡◌, ℕ, List, ◌++◌, ap, subst, sym, ◌∙◌}
use Rattle.adr_wire.specs.Composites.{vector}
use Rattle.adr_wire.specs.Timed.{timed}
use Rattle.adr_wire.specs.Fields.{u32, u64}
use Rattle.adr_model.specs.Store.{Held, Store}
use Rattle.adr_image.specs.Image.{Marked}
use Rattle.adr_image.specs.Stored.{apart, image_version}
use Rattle.adr_image.specs.Whole.{links, marks, objects}
use Rattle.adr_image.specs.Written.{IsWritable}
use Rattle.adr_image.proofs.Keeping.{on_ok_then}
use Rattle.adr_image.proofs.Writing.{image_written, writable}
use Rattle.adr_image.proofs.encoding.write_image.Goals as goal

pub write_rows-requires : goal.write_rows-requires
write_rows-requires c =
    subst IsWritable (sym (ap (λ (s : Store). s.rows) c.contents.view_is)) (writable c.args.contents.now c.requires.formed c.requires.spelled)

pub returns : goal.returns
returns c =
    let s = c.args.contents.now in
    let is = c.contents.view_is in
    let number : c.number.result ≡ s.schema = c.number.ensures.number ∙ ap (λ (t : Store). t.schema) is in
    on_ok_then c.write_rows.result c.write_rows.ensures (λ all.
    image_written s c.args.writer.now c.write_head.new.self c.write_u32.new.self c.write_usn0.new.self c.write_timed.new.self c.write_vector.new.self c.write_marks.new.writer c.write_rows.new.writer
    c.in_ok-write_head.ensures
    (c.in_ok-write_u32.ensures.ok ∙ ap (λ (n : ℕ). c.write_head.new.self ++ u32 n) number)
    (c.in_ok-write_usn0.ensures.ok ∙ ap (λ (t : Store). c.write_u32.new.self ++ u64 t.usn) is)
    (c.in_ok-write_timed.ensures ∙ ap (λ (t : Store). c.write_usn0.new.self ++ timed image_version (t.vector, t.times)) is)
    (c.in_ok-write_vector.ensures ∙ ap (λ (t : Store). c.write_timed.new.self ++ vector t.purged) is)
    (c.in_ok-write_marks.ensures ∙ ap (λ (ms : List Marked). c.write_vector.new.self ++ marks ms) (ap (λ (t : Store). t.marks) is))
    (all ∙ ap (λ (hs : List Held). c.write_marks.new.writer ++ (objects (apart hs).0 ++ links (apart hs).1)) (ap (λ (t : Store). t.rows) is)))
