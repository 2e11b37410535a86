use Rattle.std.proofs.Common.{◌≡◌, ℕ, List, [], length, false, refl, sym, ◌∙◌, ap, subst, arith}
use Rattle.std.specs.Prelude.{vec_capacity}
use Rattle.std.proofs.lemmas.Option.{IfSome_then}
use Rattle.adr_disk.specs.declared.disk.Disk.{Ghosts as DiskGhosts}
use Rattle.adr_model.specs.Store.{State}
use Rattle.adr_model.specs.Change.{Change, after}
use Rattle.adr_model.specs.Lengths.{Log}
use Rattle.adr_law_journal.specs.Areas.{Found, start_of}
use Rattle.adr_law_journal.specs.Kept.{FindsEither}
use Rattle.adr_journal.specs.Ended.{found_after}
use Rattle.adr_journal.specs.declared.form.Form.{Ghosts as FormGhosts}
use Rattle.adr_gather.specs.Held.{joined}
use Rattle.adr_gather.specs.Gathered.{Gathered, IsNext, gathered}
use Rattle.adr_gather.proofs.Committing.{IsReady, between, gathered_on, moves, next_so, under}
use Rattle.adr_gather.proofs.Finding.{IsOn, found_left, left_of, told_leaves, told_left, told_of}
use Rattle.adr_gather.proofs.Moving.{holds_finds, one_either}
use Rattle.adr_gather.proofs.Steps.{if_before}
use Rattle.adr_gather.proofs.gathering.GatheringKeeper.commit.Goals as goal
use Rattle.adr_gather.proofs.gathering.GatheringKeeper.commit.Goals.{After-len}

-- ---- what it is ready for

abbrev IsReadyOn : {D F : Type 0} → DiskGhosts D → FormGhosts F → Gathered D → ℕ → Log → Log → List ℕ → List ℕ → Found State → Change → Type 0
IsReadyOn d form v capacity log next areas written f change =
    IsReady form.head form.area form.following d.content d.may_leave d.spare_calls d.spare_bytes v capacity log next areas written (form.area_of f.state) (form.body_of change) f change

module _ (g : _) (c : After-len g) where
  is_ready : (f : Found State) (change : Change)
      → (c.args.self.now.failed ≡ false → IsOn g.D.Disk g.F.Form (gathered c.args.self.now.disk c.args.self.now.gate c.args.self.now.held.items) c.args.self.now.log f)
      → IsNext g.D.Disk.spare_calls g.D.Disk.spare_bytes c.args.self.now.disk (vec_capacity c.args.self.now.held) c.args.self.now.held.items c.args.self.now.log c.args.self.now.next c.args.self.now.area.items c.args.self.now.prepared.items (g.F.Form.area_of f.state) (g.F.Form.body_of change) f.state change
      → g.F.Form.can_follow f.state change
      → IsReadyOn g.D.Disk g.F.Form (gathered c.args.self.now.disk c.args.self.now.gate c.args.self.now.held.items) (vec_capacity c.args.self.now.held) c.args.self.now.log c.args.self.now.next c.deref.result.now c.args.self.now.prepared.items f change
  is_ready f change at prepared can =
      let law = g.met.F.Form in
      record {
        is = at c.requires.up;
        prepared = next_so c.deref.result.now c.args.self.now.prepared.items c.deref.ensures.value refl prepared;
        follows = law.body_follows f.state change can;
        long = law.body_length f.state change can;
        tells = λ short place. law.tells_area place f.state (law.begins_anew f.state change can) short;
        area_long = λ short. law.area_length f.state (law.begins_anew f.state change can);
      }

  is_ready_now : IsReadyOn g.D.Disk g.F.Form (gathered c.args.self.now.disk c.args.self.now.gate c.args.self.now.held.items) (vec_capacity c.args.self.now.held) c.args.self.now.log c.args.self.now.next c.deref.result.now c.args.self.now.prepared.items c.requires.prepared.0 c.requires.prepared.1
  is_ready_now = let p = c.requires.prepared in is_ready p.0 p.1 p.2 p.3 p.4

  size_is : c.len.result ≡ length c.args.self.now.prepared.items
  size_is = omega (arith, c.len.ensures, c.args.self.now.prepared.ok)

pub move_log-moved-requires : goal.move_log-moved-requires
move_log-moved-requires g c =
    let a = (goal.at.move_log-moved-requires g c).After-len in
    let p = c.requires.prepared in
    let r = is_ready_now g a in
    (under r, p.0.state, c.args.self.now.log, between r, moves r c.len.result (size_is g a))

-- ---- where it passes

pub returns-in-Ok-clause-ok : goal.returns-in-Ok-clause-ok
returns-in-Ok-clause-ok g c = λ f change at prepared can up.
    let d = g.D.Disk in
    let form = g.F.Form in
    let k = c.args.self.now in
    let r = is_ready g (goal.at.returns-in-Ok-clause-ok g c).After-len f change at prepared can in
    let v = gathered c.move_log-moved.new.disk c.move_log-moved.new.gate c.move_log-moved.new.held.items in
    let size = size_is g (goal.at.returns-in-Ok-clause-ok g c).After-len in
    let holds = c.in-Ok.ensures.holds (under r) f.state k.log (between r) (moves r c.len.result size) in
    let items : c.join.new.held.items ≡ joined v.held k.prepared.items = c.join.ensures ∙ ap (joined v.held) c.deref-in-Ok.ensures.value in
    subst (λ (h : List ℕ). IsOn d form (gathered v.disk v.gate h) k.next (found_after f change)) (sym items) (gathered_on r v holds)

pub returns-in-Ok-clause-left : goal.returns-in-Ok-clause-left
returns-in-Ok-clause-left g c = λ f change at prepared can.
    let d = g.D.Disk in
    let form = g.F.Form in
    let k = c.args.self.now in
    let v = gathered c.move_log-moved.new.disk c.move_log-moved.new.gate c.join.new.held.items in
    let is : IsOn d form v k.next (found_after f change) = returns-in-Ok-clause-ok g c f change at prepared can c.requires.up in
    told_left d form (gathered k.disk k.gate k.held.items) _
    (if_before (d.content k.disk) (d.content v.disk) _ c.move_log-moved.ensures.told (found_left d form v (d.content v.disk) (FindsEither f.state (after f.state change)) (holds_finds form.head form.area form.following d.content d.may_leave v k.next (found_after f change) is f.state)))

pub returns-in-Ok-clause-any_moment : goal.returns-in-Ok-clause-any_moment
returns-in-Ok-clause-any_moment g c = λ f change at prepared can.
    let d = g.D.Disk in
    let form = g.F.Form in
    told_leaves (λ k. left_of d form (gathered k.disk k.gate k.held.items)) c.args.self.now _ (told_of d form (gathered c.args.self.now.disk c.args.self.now.gate c.args.self.now.held.items)) (FindsEither f.state (after f.state change)) (returns-in-Ok-clause-left g c f change at prepared can)

-- ---- where it fails

pub returns-in-Err-clause-left : goal.returns-in-Err-clause-left
returns-in-Err-clause-left g c = λ f change at prepared can.
    let d = g.D.Disk in
    let form = g.F.Form in
    let k = c.args.self.now in
    let a = (goal.at.returns-in-Err-clause-left g c).After-len in
    let r = is_ready g a f change at prepared can in
    let v = gathered c.move_log-moved.new.disk c.move_log-moved.new.gate c.move_log-moved.new.held.items in
    told_left d form (gathered k.disk k.gate k.held.items) _
    (found_left d form v (d.content k.disk) (FindsEither f.state (after f.state change))
    (IfSome_then (d.content k.disk) (c.move_log-moved.ensures.left (under r) f.state k.log (between r) (moves r c.len.result (size_is g a))) (λ there h bytes image. one_either f.state k.log (between r) (after f.state change) (start_of form.head form.area form.following bytes) (h bytes image))))

pub returns-in-Err-clause-any_moment : goal.returns-in-Err-clause-any_moment
returns-in-Err-clause-any_moment g c = λ f change at prepared can.
    let d = g.D.Disk in
    let form = g.F.Form in
    told_leaves (λ k. left_of d form (gathered k.disk k.gate k.held.items)) c.args.self.now _ (told_of d form (gathered c.args.self.now.disk c.args.self.now.gate c.args.self.now.held.items)) (FindsEither f.state (after f.state change)) (returns-in-Err-clause-left g c f change at prepared can)
