use Rattle.std.proofs.Common.{arith}
use Rattle.adr_disk.specs.Disk.{Torn}
use Rattle.adr_disk.proofs.Moments.{weakened}
use Rattle.adr_law_journal.proofs.Told.{if_told, at_told, both_ok}
use Rattle.adr_law_journal.specs.Areas.{selector_place}
use Rattle.adr_law_journal.specs.Kept.{starts, IsOneOf}
use Rattle.adr_journal.proofs.Steps.{torn_no_longer}
use Rattle.adr_journal.proofs.Staging.{select_finds, selected_after}
use Rattle.adr_journal.proofs.checkpoint.select_area.Goals as goal

pub returns-clause-selected : goal.returns-clause-selected
returns-clause-selected g c =
    let d = g.D.Disk in
    let e = c.write_through.ensures in
    both_ok c.write_through.result e.written e.durable (λ written durable l s log other staged is_other selects.
    selected_after l d.content d.may_leave c.args.disk.now s log other staged is_other c.write_through.new.disk c.args.selector selects written durable e.told)

pub returns-clause-left : goal.returns-clause-left
returns-clause-left g c = λ l s log other staged is_other.
    let d = g.D.Disk in
    let old = c.args.disk.now in
    if_told (d.content old) _ (λ there told bytes left.
    select_finds l d.content d.may_leave old s log other staged is_other there told bytes (at_told (d.content old) _ there told c.write_through.ensures.left bytes left))

pub returns-clause-any_moment : goal.returns-clause-any_moment
returns-clause-any_moment g c = λ l s log other staged is_other.
    let d = g.D.Disk in
    let old = c.args.disk.now in
    if_told (d.content old) _ (λ there told.
    weakened d.moment d.left_since old c.write_through.new.disk (Torn selector_place 1 there) (λ bytes. IsOneOf s log other (starts l bytes))
    (select_finds l d.content d.may_leave old s log other staged is_other there told) (at_told (d.content old) _ there told c.write_through.ensures.any_moment))

pub returns-clause-no_longer : goal.returns-clause-no_longer
returns-clause-no_longer g c =
    let d = g.D.Disk in
    torn_no_longer (d.content c.args.disk.now) (d.may_leave c.write_through.new.disk) selector_place 1 40 (omega arith) c.write_through.ensures.left
