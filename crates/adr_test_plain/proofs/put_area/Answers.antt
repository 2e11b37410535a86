use Rattle.std.proofs.Common.{◌≤◌, [], ◌∷◌, ap, ◌∙◌, length, arith}
use Rattle.adr_test_plain.proofs.InMemory.{area_long, eight_bytes, put_within}
use Rattle.adr_test_plain.proofs.put_area.Goals as goal
use Rattle.adr_test_plain.proofs.put_area.Goals.{then-second, else-second}

pub put-requires-3 : goal.put-requires-3
put-requires-3 c =
    let slot = c.if-second.slot.0 in
    let low : slot ≤ 48 = elim c.if-second.branch [ then-second w ↦ omega (arith, ap (λ t. t.0) w.slot-is) | else-second w ↦ omega (arith, ap (λ t. t.0) w.slot-is) ] in
    let x = c.put.new.bytes.items in
    let y = c.put-2.new.bytes.items in
    let long = area_long c.args.bytes.now.items c.args.place slot c.args.area.now c.to_be_bytes.result x y c.requires.within c.requires.slots low (ap length c.to_be_bytes.ensures ∙ eight_bytes c.args.place) c.put.ensures.items c.put-2.ensures.items in
    omega (arith, long.0, long.1, put_within y 39 (c.if-second.slot.1 ∷ []) (omega (arith, long.0)), c.requires.room, c.put.ensures.capacity, c.put-2.ensures.capacity)

pub returns-clause-long : goal.returns-clause-long
returns-clause-long c =
    let slot = c.if-second.slot.0 in
    let low : slot ≤ 48 = elim c.if-second.branch [ then-second w ↦ omega (arith, ap (λ t. t.0) w.slot-is) | else-second w ↦ omega (arith, ap (λ t. t.0) w.slot-is) ] in
    let x = c.put.new.bytes.items in
    let y = c.put-2.new.bytes.items in
    let long = area_long c.args.bytes.now.items c.args.place slot c.args.area.now c.to_be_bytes.result x y c.requires.within c.requires.slots low (ap length c.to_be_bytes.ensures ∙ eight_bytes c.args.place) c.put.ensures.items c.put-2.ensures.items in
    omega (arith, long.1, ap length c.put-3.ensures.items, put_within y 39 (c.if-second.slot.1 ∷ []) (omega (arith, long.0)))
