use Rattle.std.proofs.Common.{◌≡◌, ◌+◌, length, Ok, refl, ap, arith}
use Rattle.std.specs.Prelude.{max}
use Rattle.adr_disk.proofs.Moments.{weakened}
use Rattle.adr_wire.specs.Fields.{u64}
use Rattle.adr_law_journal.proofs.Told.{if_told, at_told, both_ok}
use Rattle.adr_law_journal.proofs.Keeping.{long_u64}
use Rattle.adr_law_journal.specs.Areas.{found}
use Rattle.adr_law_journal.specs.Kept.{starts}
use Rattle.adr_journal.proofs.Staging.{stage_finds, beside_after, twice_no_longer}
use Rattle.adr_journal.proofs.checkpoint.stage_area.Goals as goal

pub returns-clause-beside : goal.returns-clause-beside
unfolding u64
returns-clause-beside g c =
    let d = g.D.Disk in
    let e = c.write_twice_through.ensures in
    both_ok c.write_twice_through.result e.written e.durable (λ written durable l s log other stages.
    beside_after l d.content d.may_leave c.args.disk.now s log other c.args.place c.args.written.now c.args.slot 8 refl stages c.write_twice_through.new.disk c.to_be_bytes.result c.to_be_bytes.ensures written durable e.told)

pub returns-clause-left : goal.returns-clause-left
returns-clause-left g c = λ l s log other stages.
    let d = g.D.Disk in
    let old = c.args.disk.now in
    if_told (d.content old) _ (λ there told bytes left.
    stage_finds l d.content d.may_leave old s log other c.args.place c.args.written.now c.args.slot (length c.to_be_bytes.result) (ap length c.to_be_bytes.ensures) stages there told bytes
    (at_told (d.content old) _ there told c.write_twice_through.ensures.left bytes left))

pub returns-clause-any_moment : goal.returns-clause-any_moment
returns-clause-any_moment g c = λ l s log other stages.
    let d = g.D.Disk in
    let old = c.args.disk.now in
    if_told (d.content old) _ (λ there told.
    weakened d.moment d.left_since old c.write_twice_through.new.disk _ (λ bytes. starts l bytes ≡ Ok (found s log))
    (stage_finds l d.content d.may_leave old s log other c.args.place c.args.written.now c.args.slot (length c.to_be_bytes.result) (ap length c.to_be_bytes.ensures) stages there told)
    (at_told (d.content old) _ there told c.write_twice_through.ensures.any_moment))

pub returns-clause-no_longer : goal.returns-clause-no_longer
returns-clause-no_longer g c =
    let d = g.D.Disk in
    let n = length c.args.written.now in
    twice_no_longer (d.content c.args.disk.now) (d.may_leave c.write_twice_through.new.disk) c.args.place n c.args.slot (length c.to_be_bytes.result) (max (c.args.place + n) (c.args.slot + 8))
    (omega arith) (omega (arith, ap length c.to_be_bytes.ensures, long_u64 c.args.place)) c.write_twice_through.ensures.left
