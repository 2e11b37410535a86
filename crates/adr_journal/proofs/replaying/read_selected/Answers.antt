use Rattle.std.proofs.Common.{◌≤◌, refl, get_or, length, arith, ◌==◌}
use Rattle.adr_law_journal.specs.Areas.{selects_second}
use Rattle.adr_journal.proofs.Starts.{damage_at, ends_in_selector, ends_in_first, ends_in_second, selects_so, slot_holds, named_low, named_far}
use Rattle.adr_journal.proofs.replaying.read_selected.Goals as goal

pub returns-then-len-lt-FIRST_SLOT-clause-damaged : goal.returns-then-len-lt-FIRST_SLOT-clause-damaged
returns-then-len-lt-FIRST_SLOT-clause-damaged g c =
    let f = g.F.Form in
    damage_at c.damaged.result 39 _ c.damaged.ensures (ends_in_selector f.head f.area f.following c.args.bytes.now c.requires.owned.0 c.requires.owned.1 c.if-len-lt-FIRST_SLOT.true)

pub returns-then-len-lt-SECOND_SLOT-clause-damaged : goal.returns-then-len-lt-SECOND_SLOT-clause-damaged
returns-then-len-lt-SECOND_SLOT-clause-damaged g c =
    let f = g.F.Form in
    damage_at c.damaged-then-len-lt-SECOND_SLOT.result 40 _ c.damaged-then-len-lt-SECOND_SLOT.ensures
    (ends_in_first f.head f.area f.following c.args.bytes.now c.requires.owned.0 c.requires.owned.1 c.if-len-lt-FIRST_SLOT.false c.if-len-lt-SECOND_SLOT.true)

pub returns-then-len-lt-FIRST_AREA-clause-damaged : goal.returns-then-len-lt-FIRST_AREA-clause-damaged
returns-then-len-lt-FIRST_AREA-clause-damaged g c =
    let f = g.F.Form in
    damage_at c.damaged-then-len-lt-FIRST_AREA.result 48 _ c.damaged-then-len-lt-FIRST_AREA.ensures
    (ends_in_second f.head f.area f.following c.args.bytes.now c.requires.owned.0 c.requires.owned.1 c.if-len-lt-SECOND_SLOT.false c.if-len-lt-FIRST_AREA.true)

pub returns-then-place-lt-FIRST_AREA-clause-damaged : goal.returns-then-place-lt-FIRST_AREA-clause-damaged
returns-then-place-lt-FIRST_AREA-clause-damaged g c =
    let f = g.F.Form in
    let bytes = c.args.bytes.now in
    let second = get_or bytes 39 0 == selects_second in
    let place = c.number_at-place.result in
    let slot = c.slot_of-slot.result in
    damage_at c.damaged-then-place-lt-FIRST_AREA.result slot _ c.damaged-then-place-lt-FIRST_AREA.ensures
    (named_low f.head f.area f.following bytes c.requires.owned.0 c.requires.owned.1 c.if-len-lt-FIRST_AREA.false second (selects_so bytes second (omega (arith, c.if-len-lt-FIRST_AREA.false)) refl)
    slot place c.slot_of-slot.ensures (slot_holds bytes second slot place c.slot_of-slot.ensures c.number_at-place.ensures) c.if-place-lt-FIRST_AREA.true)

pub returns-then-place-len-clause-damaged : goal.returns-then-place-len-clause-damaged
returns-then-place-len-clause-damaged g c =
    let f = g.F.Form in
    let bytes = c.args.bytes.now in
    let second = get_or bytes 39 0 == selects_second in
    let place = c.number_at-place.result in
    let slot = c.slot_of-slot.result in
    let far : length bytes ≤ place = omega (arith, c.if-place-len.true) in
    damage_at c.damaged-then-place-len.result slot _ c.damaged-then-place-len.ensures
    (named_far f.head f.area f.following bytes c.requires.owned.0 c.requires.owned.1 c.if-len-lt-FIRST_AREA.false second (selects_so bytes second (omega (arith, c.if-len-lt-FIRST_AREA.false)) refl)
    slot place c.slot_of-slot.ensures (slot_holds bytes second slot place c.slot_of-slot.ensures c.number_at-place.ensures) c.if-place-lt-FIRST_AREA.false far)
