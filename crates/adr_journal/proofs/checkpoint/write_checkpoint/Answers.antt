use Rattle.std.proofs.Common.{◌≡◌, inl, ℕ, ◌+◌, ◌≤◌, List, Bool, Option, length, Ok, Some, sym, ◌∙◌, ap, subst, arith}
use Rattle.std.proofs.lemmas.Option.{IfSome_then}
use Rattle.std.specs.Prelude.{max}
use Rattle.std.specs.Option.{ForSome}
use Rattle.adr_disk.specs.Disk.{put, Only}
use Rattle.adr_disk.proofs.Bytes.{length-put}
use Rattle.adr_wire.specs.Fields.{u64}
use Rattle.adr_law_journal.proofs.Told.{if_told, at_told, some_of, is_some_of, both_ok}
use Rattle.adr_model.specs.Store.{State}
use Rattle.adr_model.specs.Lengths.{Log}
use Rattle.adr_law_journal.specs.Areas.{found, slot_place}
use Rattle.adr_law_journal.proofs.Keeping.{slot_low}
use Rattle.adr_law_journal.specs.Kept.{Layout, Stages, starts, IsOneOf}
use Rattle.adr_journal.specs.Kept.{Ids}
use Rattle.adr_journal.specs.Written.{AreNoLonger}
use Rattle.adr_journal.proofs.Steps.{Leaves, if_before, made_of, moments_joined, moments_of}
use Rattle.adr_journal.proofs.checkpoint.write_checkpoint.Goals as goal
use Rattle.adr_journal.proofs.checkpoint.write_checkpoint.Goals.{After-stage_area, In_ok-stage_area}

-- ---- the area, whatever the disk answers

-- the slots stand before the end of what is there
staged_no_longer : {D : Type 0} (content : D → Option (List ℕ)) (left : List ℕ → Type 0) (old : D) (place n : ℕ) (second : Bool) → ForSome (content old) (λ there. (place ≤ length there) × (57 ≤ length there))
    → AreNoLonger (content old) left (max (place + n) (slot_place second + 8)) → AreNoLonger (content old) left (place + n)
staged_no_longer content left old place n second within h =
    if_told (content old) _ (λ there told bytes is. let long = at_told (content old) _ there told h bytes is in let far = within there told in let low = slot_low second in omega (arith, long, far.1, low.1))

module _ (g : _) (c : After-stage_area g) where
  area_no_longer : AreNoLonger (g.D.Disk.content c.args.disk.now) (g.D.Disk.may_leave c.stage_area.new.disk) (c.args.place + length c.args.written.now)
  area_no_longer =
      let n = length c.args.written.now in
      staged_no_longer g.D.Disk.content (g.D.Disk.may_leave c.stage_area.new.disk) c.args.disk.now c.args.place n c.args.second c.requires.within
      (subst (λ (k : ℕ). AreNoLonger (g.D.Disk.content c.args.disk.now) (g.D.Disk.may_leave c.stage_area.new.disk) (max (c.args.place + n) (k + 8))) c.slot_of-slot.ensures c.stage_area.ensures.no_longer)

  module _ (l : Layout Ids State) (s : State) (log other : Log) (stages : Stages l g.D.Disk.content g.D.Disk.may_leave c.args.disk.now c.args.place c.args.written.now (slot_place c.args.second) s log other) where
    stages_there : Stages l g.D.Disk.content g.D.Disk.may_leave c.args.disk.now c.args.place c.args.written.now c.slot_of-slot.result s log other
    stages_there = subst (λ (k : ℕ). Stages l g.D.Disk.content g.D.Disk.may_leave c.args.disk.now c.args.place c.args.written.now k s log other) (sym c.slot_of-slot.ensures) stages

    area_moments : Leaves g.D.Disk (λ bytes. IsOneOf s log other (starts l bytes)) c.args.disk.now c.stage_area.new.disk
    area_moments =
        moments_of g.D.Disk (λ bytes. IsOneOf s log other (starts l bytes)) c.args.disk.now c.stage_area.new.disk (λ there bytes. starts l bytes ≡ Ok (found s log))
        (λ there told bytes is. inl is) (c.stage_area.ensures.any_moment l s log other stages_there)

pub returns-in_err-stage_area-clause-left : goal.returns-in_err-stage_area-clause-left
returns-in_err-stage_area-clause-left g c = λ l s log other stages.
    let a = (goal.at.returns-in_err-stage_area-clause-left g c).After-stage_area in
    IfSome_then (g.D.Disk.content c.args.disk.now) (c.stage_area.ensures.left l s log other (stages_there g a l s log other stages)) (λ there each bytes left. inl (each bytes left))

pub returns-in_err-stage_area-clause-any_moment : goal.returns-in_err-stage_area-clause-any_moment
returns-in_err-stage_area-clause-any_moment g c = area_moments g (goal.at.returns-in_err-stage_area-clause-any_moment g c).After-stage_area

pub returns-in_err-stage_area-clause-no_longer : goal.returns-in_err-stage_area-clause-no_longer
returns-in_err-stage_area-clause-no_longer g c = area_no_longer g (goal.at.returns-in_err-stage_area-clause-no_longer g c).After-stage_area

-- ---- where it passes, the area and its slot are there

module _ (g : _) (c : In_ok-stage_area g) where
  area_there : (x : List ℕ) → g.D.Disk.content c.stage_area.new.disk ≡ Some x
      → (there : List ℕ) × (g.D.Disk.content c.args.disk.now ≡ Some there) × (put (put there c.args.place c.args.written.now) c.slot_of-slot.result (u64 c.args.place) ≡ x) × Only x (g.D.Disk.may_leave c.stage_area.new.disk)
  area_there =
      made_of g.D.Disk c.args.disk.now c.stage_area.new.disk (λ there. put (put there c.args.place c.args.written.now) c.slot_of-slot.result (u64 c.args.place)) c.in_ok-stage_area.ensures.written c.in_ok-stage_area.ensures.durable c.stage_area.ensures.told

pub select_area-requires-clause-within : goal.select_area-requires-clause-within
select_area-requires-clause-within g c = λ x told.
    let there = area_there g (goal.at.select_area-requires-clause-within g c).In_ok-stage_area x told in
    let within = c.requires.within there.0 there.1 in
    omega (arith, ap length there.2, length-put (put there.0 c.args.place c.args.written.now) c.slot_of-slot.result (u64 c.args.place), length-put there.0 c.args.place c.args.written.now, within.0, within.1)

pub select_area-requires-clause-synced : goal.select_area-requires-clause-synced
select_area-requires-clause-synced g c = λ x told. (area_there g (goal.at.select_area-requires-clause-synced g c).In_ok-stage_area x told).3

-- ---- the selector

pub returns-clause-settled : goal.returns-clause-settled
returns-clause-settled g c = both_ok c.select_area.result c.select_area.ensures.selected c.select_area.ensures.selected (λ selected again l s log other stages second.
    let there = stages_there g (goal.at.returns-clause-settled g c).After-stage_area l s log other stages in
    selected l s log other (c.in_ok-stage_area.ensures.beside l s log other there) (ap (λ (o : Log). o.second) stages.becomes) (c.selector_of-selector.ensures.selects ∙ second))

pub returns-clause-left : goal.returns-clause-left
returns-clause-left g c = λ l s log other stages.
    let d = g.D.Disk in
    let there = stages_there g (goal.at.returns-clause-left g c).After-stage_area l s log other stages in
    if_before (d.content c.args.disk.now) (d.content c.stage_area.new.disk) _ c.stage_area.ensures.told
    (c.select_area.ensures.left l s log other (c.in_ok-stage_area.ensures.beside l s log other there) (ap (λ (o : Log). o.second) stages.becomes))

pub returns-clause-any_moment : goal.returns-clause-any_moment
returns-clause-any_moment g c = λ l s log other stages.
    let a = (goal.at.returns-clause-any_moment g c).After-stage_area in
    let there = stages_there g a l s log other stages in
    moments_joined g.D.Disk (λ bytes. IsOneOf s log other (starts l bytes)) c.args.disk.now c.stage_area.new.disk c.select_area.new.disk c.stage_area.ensures.told
    (area_moments g a l s log other stages)
    (c.select_area.ensures.any_moment l s log other (c.in_ok-stage_area.ensures.beside l s log other there) (ap (λ (o : Log). o.second) stages.becomes))

pub returns-clause-no_longer : goal.returns-clause-no_longer
returns-clause-no_longer g c =
    let d = g.D.Disk in
    let old = c.args.disk.now in
    let mid = c.stage_area.new.disk in
    let first = area_no_longer g (goal.at.returns-clause-no_longer g c).After-stage_area in
    if_told (d.content old) _ (λ there told bytes left.
    let x = some_of (d.content mid) (c.stage_area.ensures.told.1 (is_some_of (d.content old) there told)) in
    let long = at_told (d.content old) _ there told first x.0 (at_told (d.content mid) _ x.0 x.1 (g.met.D.Disk.honest mid)) in
    let longer = at_told (d.content mid) _ x.0 x.1 c.select_area.ensures.no_longer bytes left in
    let far = c.requires.within there told in
    omega (arith, long, longer, far.1))
