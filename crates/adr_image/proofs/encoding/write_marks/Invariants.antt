use Rattle.std.proofs.Common.{◌≡◌, ◌++◌, length, take}
use Rattle.std.specs.List.{flat_map}
use Rattle.adr_wire.specs.Fields.{u32}
use Rattle.adr_image.specs.Image.{kept}
use Rattle.adr_image.proofs.encoding.write_marks.Given as goal

abbrev pub invariant-loop-mark : goal.invariant-loop-mark
invariant-loop-mark l = l.writer ≡ (l.fn.writer ++ u32 (length l.marks)) ++ flat_map kept (take l.mark-index l.marks)
