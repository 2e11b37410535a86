use Rattle.std.proofs.Common.{◌≡◌, ◌∙◌, ◌-◌, arith, drop, length, take, length-drop}
use Rattle.std.proofs.lemmas.List.{length-take, take_all}
use Rattle.adr_table.specs.Table.{HasRoom}
use Rattle.adr_table.proofs.Rooms.{span_before}
use Rattle.adr_table.proofs.table.Table.reserve.Goals as goal

pub loop-place-preserved : goal.loop-place-preserved
loop-place-preserved c =
    let rows = c.args.rows.now in
    let place = c.loop-place.place in
    let some = c.in_ok-place.field-0 in
    let left : length (drop place rows) ≡ length rows - place = length-drop place rows in (
      c.reserve_front.ensures.kept,
      c.reserve_front.ensures.numbered,
      c.reserve_front.ensures.rows ∙ c.loop-place.invariant.2,
      omega (arith, c.loop-place.invariant.3, c.in_ok-place.ensures.within, left, length-take (length rows - place) (drop place rows)),
      span_before (HasRoom c.loop-place.self) (HasRoom c.reserve_front.new.self) rows (take (length rows - place) (drop place rows)) place some
          (take_all (length rows - place) (drop place rows) (omega (arith, left))) c.in_ok-place.ensures.within c.loop-place.invariant.4 c.reserve_front.ensures.more c.in_ok-place.ensures.ok,
    )
