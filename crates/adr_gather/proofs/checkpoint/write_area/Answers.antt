use Rattle.std.proofs.Common.{◌≡◌, inl, ℕ, List, length, Some, refl, sym, ◌∙◌, ap, subst, arith}
use Rattle.adr_disk.specs.Disk.{put, Only, Among, Torn, TornTwice}
use Rattle.adr_disk.proofs.Bytes.{length-put}
use Rattle.adr_wire.specs.Fields.{u64}
use Rattle.adr_law_journal.proofs.Told.{both_ok}
use Rattle.adr_model.specs.Store.{State}
use Rattle.adr_model.specs.Lengths.{Log}
use Rattle.adr_law_journal.specs.Areas.{slot_place, selector_place}
use Rattle.adr_law_journal.proofs.Keeping.{slot_low}
use Rattle.adr_law_journal.specs.Kept.{Layout, Stages, IsBeside, starts, IsOneOf}
use Rattle.adr_journal.specs.Kept.{Ids}
use Rattle.adr_journal.proofs.Staging.{stage_finds, beside_after, select_finds, selected_after}
use Rattle.adr_gather.proofs.Steps.{Leaves, if_before, made_of, torn_left, moments_joined, moments_of}
use Rattle.adr_gather.proofs.checkpoint.write_area.Goals as goal
use Rattle.adr_gather.proofs.checkpoint.write_area.Goals.{After-write_twice_through, In_ok-write_twice_through}

-- ---- the area and its slot, whatever the disk answers

module _ (g : _) (c : After-write_twice_through g) (l : Layout Ids State) (s : State) (log other : Log) (stages : Stages l g.D.Disk.content g.D.Disk.may_leave c.args.disk.now c.args.place c.args.written.now (slot_place c.args.second) s log other) where
  abbrev One : List ℕ → Type 0
  One bytes = IsOneOf s log other (starts l bytes)

  stages_there : Stages l g.D.Disk.content g.D.Disk.may_leave c.args.disk.now c.args.place c.args.written.now c.slot_of-slot.result s log other
  stages_there = subst (λ (k : ℕ). Stages l g.D.Disk.content g.D.Disk.may_leave c.args.disk.now c.args.place c.args.written.now k s log other) (sym c.slot_of-slot.ensures) stages

  abbrev Twice_torn : List ℕ → List ℕ → Type 0
  Twice_torn there = TornTwice c.args.place (length c.args.written.now) c.slot_of-slot.result (length c.to_be_bytes.result) there

  area_finds : (there : List ℕ) → g.D.Disk.content c.args.disk.now ≡ Some there → Among One (Twice_torn there)
  area_finds there told = λ bytes torn.
      inl (stage_finds l g.D.Disk.content g.D.Disk.may_leave c.args.disk.now s log other c.args.place c.args.written.now c.slot_of-slot.result (length c.to_be_bytes.result) (ap length c.to_be_bytes.ensures) stages_there there told bytes torn)

  area_moments : Leaves g.D.Disk One c.args.disk.now c.write_twice_through.new.disk
  area_moments = moments_of g.D.Disk One c.args.disk.now c.write_twice_through.new.disk Twice_torn area_finds c.write_twice_through.ensures.any_moment

pub returns-in_err-write_twice_through-clause-left : goal.returns-in_err-write_twice_through-clause-left
returns-in_err-write_twice_through-clause-left g c = λ l s log other stages.
    let a = (goal.at.returns-in_err-write_twice_through-clause-left g c).After-write_twice_through in
    torn_left g.D.Disk (One g a l s log other stages) c.args.disk.now c.write_twice_through.new.disk (Twice_torn g a l s log other stages) (area_finds g a l s log other stages) c.write_twice_through.ensures.left

pub returns-in_err-write_twice_through-clause-any_moment : goal.returns-in_err-write_twice_through-clause-any_moment
returns-in_err-write_twice_through-clause-any_moment g c = λ l s log other stages. area_moments g (goal.at.returns-in_err-write_twice_through-clause-any_moment g c).After-write_twice_through l s log other stages

-- ---- where it passes, both are there

module _ (g : _) (c : In_ok-write_twice_through g) where
  area_there : (x : List ℕ) → g.D.Disk.content c.write_twice_through.new.disk ≡ Some x
      → (there : List ℕ) × (g.D.Disk.content c.args.disk.now ≡ Some there) × (put (put there c.args.place c.args.written.now) c.slot_of-slot.result c.to_be_bytes.result ≡ x) × Only x (g.D.Disk.may_leave c.write_twice_through.new.disk)
  area_there =
      made_of g.D.Disk c.args.disk.now c.write_twice_through.new.disk (λ there. put (put there c.args.place c.args.written.now) c.slot_of-slot.result c.to_be_bytes.result) c.in_ok-write_twice_through.ensures.written c.in_ok-write_twice_through.ensures.durable c.write_twice_through.ensures.told

  module _ (l : Layout Ids State) (s : State) (log other : Log) (stages : Stages l g.D.Disk.content g.D.Disk.may_leave c.args.disk.now c.args.place c.args.written.now c.slot_of-slot.result s log other) where
    beside : IsBeside l g.D.Disk.content g.D.Disk.may_leave c.write_twice_through.new.disk s log other
    unfolding u64
    beside =
        beside_after l g.D.Disk.content g.D.Disk.may_leave c.args.disk.now s log other c.args.place c.args.written.now c.slot_of-slot.result 8 refl stages c.write_twice_through.new.disk c.to_be_bytes.result c.to_be_bytes.ensures
        c.in_ok-write_twice_through.ensures.written c.in_ok-write_twice_through.ensures.durable c.write_twice_through.ensures.told

pub write_twice_through-requires-clause-later_within : goal.write_twice_through-requires-clause-later_within
write_twice_through-requires-clause-later_within g c = λ there told. let within = c.requires.within there told in let low = slot_low c.args.second in omega (arith, within.1, low.1, c.slot_of-slot.ensures)

pub write_through-requires-clause-within : goal.write_through-requires-clause-within
write_through-requires-clause-within g c = λ x told.
    let there = area_there g (goal.at.write_through-requires-clause-within g c).In_ok-write_twice_through x told in
    let within = c.requires.within there.0 there.1 in
    omega (arith, ap length there.2, length-put (put there.0 c.args.place c.args.written.now) c.slot_of-slot.result c.to_be_bytes.result, length-put there.0 c.args.place c.args.written.now, within.0, within.1)

pub write_through-requires-clause-synced : goal.write_through-requires-clause-synced
write_through-requires-clause-synced g c = λ x told. (area_there g (goal.at.write_through-requires-clause-synced g c).In_ok-write_twice_through x told).3

-- ---- the selector

pub returns-clause-settled : goal.returns-clause-settled
returns-clause-settled g c =
    let d = g.D.Disk in
    let e = c.write_through.ensures in
    let x = goal.at.returns-clause-settled g c in
    both_ok c.write_through.result e.written e.durable (λ written durable l s log other stages second.
    let b = beside g x.In_ok-write_twice_through l s log other (stages_there g x.After-write_twice_through l s log other stages) in
    selected_after l d.content d.may_leave c.write_twice_through.new.disk s log other b (ap (λ (o : Log). o.second) stages.becomes) c.write_through.new.disk c.selector_of-selector.result (c.selector_of-selector.ensures ∙ second) written durable e.told)

pub returns-clause-left : goal.returns-clause-left
returns-clause-left g c = λ l s log other stages.
    let d = g.D.Disk in
    let x = goal.at.returns-clause-left g c in
    let mid = c.write_twice_through.new.disk in
    let b = beside g x.In_ok-write_twice_through l s log other (stages_there g x.After-write_twice_through l s log other stages) in
    if_before (d.content c.args.disk.now) (d.content mid) _ c.write_twice_through.ensures.told
    (torn_left d (λ bytes. IsOneOf s log other (starts l bytes)) mid c.write_through.new.disk (Torn selector_place 1)
    (select_finds l d.content d.may_leave mid s log other b (ap (λ (o : Log). o.second) stages.becomes)) c.write_through.ensures.left)

pub returns-clause-any_moment : goal.returns-clause-any_moment
returns-clause-any_moment g c = λ l s log other stages.
    let d = g.D.Disk in
    let x = goal.at.returns-clause-any_moment g c in
    let mid = c.write_twice_through.new.disk in
    let P : List ℕ → Type 0 = λ bytes. IsOneOf s log other (starts l bytes) in
    let b = beside g x.In_ok-write_twice_through l s log other (stages_there g x.After-write_twice_through l s log other stages) in
    moments_joined d P c.args.disk.now mid c.write_through.new.disk c.write_twice_through.ensures.told (area_moments g x.After-write_twice_through l s log other stages)
    (moments_of d P mid c.write_through.new.disk (Torn selector_place 1) (select_finds l d.content d.may_leave mid s log other b (ap (λ (o : Log). o.second) stages.becomes)) c.write_through.ensures.any_moment)
