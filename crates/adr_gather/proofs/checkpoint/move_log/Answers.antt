use Rattle.std.proofs.Common.{◌≡◌, [], IfSome, sym, ◌∙◌, arith}
use Rattle.adr_disk.specs.Disk.{Among}
use Rattle.adr_model.specs.Store.{State}
use Rattle.adr_model.specs.Lengths.{Log}
use Rattle.adr_law_journal.specs.Areas.{slot_place}
use Rattle.adr_law_journal.specs.Kept.{Layout, IsOneOf, Stages, starts}
use Rattle.adr_journal.specs.Kept.{Ids}
use Rattle.adr_journal.proofs.Commits.{none_there, some_there, stages_within}
use Rattle.adr_gather.specs.Gathered.{gathered}
use Rattle.adr_gather.specs.Taken.{Moves}
use Rattle.adr_gather.proofs.Moving.{area_stages, moved_holds, one_of, stays_held}
use Rattle.adr_gather.proofs.Steps.{if_before}
use Rattle.adr_gather.proofs.Viewing.{holds_near, none_left, whole_only}
use Rattle.adr_gather.proofs.checkpoint.move_log.Goals as goal
use Rattle.adr_gather.proofs.checkpoint.move_log.Goals.{After-write_area}

-- ---- no area

pub returns-then-is_empty-clause-holds : goal.returns-then-is_empty-clause-holds
returns-then-is_empty-clause-holds g c = λ l s log mid m.
    let v = gathered c.args.disk.now c.args.gate.now c.args.held.now.items in
    stays_held l g.D.Disk.content g.D.Disk.may_leave v c.args.area.now c.args.next c.args.size s log mid m (none_there c.args.area.now (sym c.is_empty.ensures ∙ c.if-is_empty.true))

pub returns-then-is_empty-clause-left : goal.returns-then-is_empty-clause-left
returns-then-is_empty-clause-left g c = λ l s log mid m.
    let d = g.D.Disk in
    let v = gathered c.args.disk.now c.args.gate.now c.args.held.now.items in
    one_of l d.content d.may_leave v c.args.area.now c.args.next c.args.size s log mid m v (whole_only d.content d.may_leave l v s log m.holds)

-- ---- what is held is written

pub settle_all-requires-clause-room : goal.settle_all-requires-clause-room
settle_all-requires-clause-room g c = let m = c.requires.4 in omega (arith, m.holds.ends, m.low)

pub settle_all-requires-clause-within : goal.settle_all-requires-clause-within
settle_all-requires-clause-within g c =
    let r = c.requires in
    holds_near g.D.Disk.content g.D.Disk.may_leave r.0 (gathered c.args.disk.now c.args.gate.now c.args.held.now.items) r.1 r.2 r.4.holds

pub settle_all-requires-clause-synced : goal.settle_all-requires-clause-synced
settle_all-requires-clause-synced g c = c.requires.4.holds.settled.synced

pub returns-in_err-settle_all-clause-left : goal.returns-in_err-settle_all-clause-left
returns-in_err-settle_all-clause-left g c = λ l s log mid m.
    let d = g.D.Disk in
    let v = gathered c.args.disk.now c.args.gate.now c.args.held.now.items in
    one_of l d.content d.may_leave v c.args.area.now c.args.next c.args.size s log mid m (gathered c.settle_all.new.disk c.settle_all.new.gate c.settle_all.new.held.items) c.settle_all.ensures.only

-- ---- and then the area

module _ (g : _) (c : After-write_area g) where
  some : c.args.area.now ≡ [] → ⊥
  some = some_there c.args.area.now (sym c.is_empty.ensures ∙ c.if-is_empty.false)

  module _ (l : Layout Ids State) (s : State) (log mid : Log) (m : Moves l g.D.Disk.content g.D.Disk.may_leave (gathered c.args.disk.now c.args.gate.now c.args.held.now.items) c.args.area.now c.args.next c.args.size s log mid) where
    stages : Stages l g.D.Disk.content g.D.Disk.may_leave c.settle_all.new.disk c.place.result c.args.area.now (slot_place c.second.result) s log mid × (c.second.result ≡ mid.second)
    stages =
        area_stages l g.D.Disk.content g.D.Disk.may_leave (gathered c.args.disk.now c.args.gate.now c.args.held.now.items) c.args.area.now c.args.next c.args.size s log mid m c.settle_all.new.disk c.place.result c.second.result
        c.place.ensures c.second.ensures some (c.in_ok-settle_all.ensures.settled l s log m.holds)

    left : IfSome (g.D.Disk.content c.args.disk.now) (λ _. Among (λ bytes. IsOneOf s log mid (starts l bytes)) (g.D.Disk.may_leave c.write_area.new.disk))
    left = if_before (g.D.Disk.content c.args.disk.now) (g.D.Disk.content c.settle_all.new.disk) _ c.settle_all.ensures.told (c.write_area.ensures.left l s log mid stages.0)

pub write_area-requires-clause-within : goal.write_area-requires-clause-within
write_area-requires-clause-within g c =
    let d = g.D.Disk in
    let r = c.requires in
    let v = gathered c.args.disk.now c.args.gate.now c.args.held.now.items in
    let st = area_stages r.0 d.content d.may_leave v c.args.area.now c.args.next c.args.size r.1 r.2 r.3 r.4 c.settle_all.new.disk c.place.result c.second.result
    c.place.ensures c.second.ensures (some_there c.args.area.now (sym c.is_empty.ensures ∙ c.if-is_empty.false)) (c.in_ok-settle_all.ensures.settled r.0 r.1 r.2 r.4.holds) in
    stages_within r.0 d.content d.may_leave c.settle_all.new.disk c.place.result c.args.area.now (slot_place c.second.result) r.1 r.2 r.3 st.0

pub write_area-requires-clause-synced : goal.write_area-requires-clause-synced
write_area-requires-clause-synced g c = let r = c.requires in (c.in_ok-settle_all.ensures.settled r.0 r.1 r.2 r.4.holds).synced

pub returns-in_err-write_area-clause-left : goal.returns-in_err-write_area-clause-left
returns-in_err-write_area-clause-left g c = λ l s log mid m.
    let d = g.D.Disk in
    let a = (goal.at.returns-in_err-write_area-clause-left g c).After-write_area in
    none_left d.content d.may_leave c.write_area.new.disk c.settle_all.new.gate c.settle_all.new.held.items (d.content c.args.disk.now) (λ bytes. IsOneOf s log mid (starts l bytes)) c.in_ok-settle_all.ensures.none
    ((λ is. c.settle_all.ensures.told.0 (c.write_area.ensures.told.0 is)), (λ is. c.write_area.ensures.told.1 (c.settle_all.ensures.told.1 is))) (left g a l s log mid m)

pub returns-clause-left : goal.returns-clause-left
returns-clause-left g c = λ l s log mid m.
    let d = g.D.Disk in
    let a = (goal.at.returns-clause-left g c).After-write_area in
    none_left d.content d.may_leave c.write_area.new.disk _ c.settle_all.new.held.items (d.content c.args.disk.now) (λ bytes. IsOneOf s log mid (starts l bytes)) c.in_ok-settle_all.ensures.none
    ((λ is. c.settle_all.ensures.told.0 (c.write_area.ensures.told.0 is)), (λ is. c.write_area.ensures.told.1 (c.settle_all.ensures.told.1 is))) (left g a l s log mid m)

pub returns-clause-holds : goal.returns-clause-holds
returns-clause-holds g c = λ l s log mid m.
    let d = g.D.Disk in
    let a = (goal.at.returns-clause-holds g c).After-write_area in
    let v = gathered c.args.disk.now c.args.gate.now c.args.held.now.items in
    let st = stages g a l s log mid m in
    moved_holds l d.content d.may_leave v c.args.area.now c.args.next c.args.size s log mid m c.write_area.new.disk _ c.settle_all.new.held.items c.in_ok-settle_all.ensures.none
    (omega (arith, c.end.ensures, m.ends, m.begun)) (c.in_ok-write_area.ensures.settled l s log mid st.0 st.1)
