use Rattle.std.proofs.Common.{◌≡◌, ℕ, Bool, List, Option, ◌++◌, length, ap, ◌∙◌}
use Rattle.std.specs.List.{flat_map}
use Rattle.adr_values.specs.declared.stamp.Oid.{Oid}
use Rattle.adr_values.specs.Vector.{Cursors}
use Rattle.adr_wire.specs.Composites.{oid, vector}
use Rattle.adr_wire.specs.Fields.{flag, u32, u64}
use Rattle.adr_wire.specs.Timed.{timed}
use Rattle.adr_model.specs.Change.{Written}
use Rattle.adr_model.specs.Serve.{is_quarantined}
use Rattle.adr_image.specs.Body.{mark_if}
use Rattle.adr_image.specs.Changes.{written_bytes}
use Rattle.adr_image.specs.Image.{Marked}
use Rattle.adr_image.specs.Stored.{image_version}
use Rattle.adr_image.proofs.Keeping.{on_ok_then}
use Rattle.adr_image.proofs.Writing.{change_written}
use Rattle.adr_image.proofs.bodies.write_change.Goals as goal

pub returns : goal.returns
returns c =
    let mode : c.is_quarantined.result ≡ is_quarantined c.args.change.now.mode = c.is_quarantined.ensures ∙ ap is_quarantined c.mode.ensures in
    on_ok_then c.write_writes.result c.write_writes.ensures (λ all.
    change_written c.args.change.now c.args.writer.now c.write_usn0.new.self c.write_flag.new.self c.write_u32.new.self c.write_mark_if.new.writer c.write_timed.new.self c.write_vector.new.self c.write_removed.new.writer c.write_writes.new.writer
    (c.in_ok-write_usn0.ensures.ok ∙ ap (λ (n : ℕ). c.args.writer.now ++ u64 n) c.usn.ensures)
    (c.in_ok-write_flag.ensures.ok ∙ ap (λ (b : Bool). c.write_usn0.new.self ++ flag b) mode)
    (c.in_ok-write_u32.ensures.ok ∙ ap (λ (n : ℕ). c.write_flag.new.self ++ u32 n) (c.number.ensures.number ∙ c.schema.ensures.number))
    (c.in_ok-write_mark_if.ensures ∙ ap (λ (m : Option Marked). c.write_u32.new.self ++ mark_if m) c.mark.ensures)
    (c.in_ok-write_timed.ensures ∙ ap (λ (v : Cursors). c.write_mark_if.new.writer ++ timed image_version (v, c.times.result.now)) c.joined.ensures ∙ ap (λ (v : Cursors). c.write_mark_if.new.writer ++ timed image_version (c.args.change.now.joined, v)) c.times.ensures)
    (c.in_ok-write_vector.ensures ∙ ap (λ (v : Cursors). c.write_timed.new.self ++ vector v) c.purged.ensures)
    (c.in_ok-write_removed.ensures ∙ ap (λ (os : List Oid). c.write_vector.new.self ++ (u32 (length os) ++ flat_map oid os)) c.removed.ensures)
    (all ∙ ap (λ (ws : List Written). c.write_removed.new.writer ++ (u32 (length ws) ++ flat_map written_bytes ws)) c.writes.ensures))
