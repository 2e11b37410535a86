use Rattle.std.proofs.Common.{◌≡◌, ℕ, ◌+◌, List, false, Option, None, Some, Ok, Err, IfSome, refl, sym, ◌∙◌, ap, subst}
use Rattle.std.specs.Prelude.{◌↔◌, IsSome, max, if◌then◌else◌}
use Rattle.std.proofs.lemmas.Option.{IfSome_then}
use Rattle.adr_io.specs.declared.Fault.{Fault}
use Rattle.adr_io.specs.declared.Fault.TheVariants.{Failed}
use Rattle.adr_disk.specs.Disk.{Among, LeavesOnly}
use Rattle.adr_disk.specs.declared.disk.Disk.{Ghosts as DiskGhosts}
use Rattle.adr_model.specs.Store.{State}
use Rattle.adr_model.specs.Change.{Change, after}
use Rattle.adr_model.specs.Lengths.{Log, change_length, image_length, is_due}
use Rattle.adr_law_journal.specs.Areas.{Found, found, start_of}
use Rattle.adr_law_journal.specs.Kept.{starts, FindsEither}
use Rattle.adr_law_journal.specs.Log.{record_of}
use Rattle.adr_law_journal.specs.Recording.{log_behind}
use Rattle.adr_journal.specs.Kept.{IsPrepared}
use Rattle.adr_journal.specs.Ran.{Makes}
use Rattle.adr_journal.specs.Written.{AreNoLonger, IsOneOfThree}
use Rattle.adr_journal.specs.declared.form.Form.{Ghosts as FormGhosts}
use Rattle.adr_journal.proofs.Bounded.{commit_within}
use Rattle.adr_journal.proofs.Commits.{either_of, failed_so, room_suffices}
use Rattle.adr_journal.proofs.Found.{IsAtOn, IsWithinOn, found_moments, found_there, left_behind, left_of, same_disk, told_both, told_of}
use Rattle.adr_journal.proofs.Prepared.{IsReadyFor, area_within, behind_is, layout, mid, near_end, next_at, ready, record_within, takes_both}
use Rattle.adr_journal.proofs.journal.JournalKeeper.commit.Goals as goal
use Rattle.adr_journal.proofs.journal.JournalKeeper.commit.Goals.{After-deref-2, After-write_commit-written, In-Err}

-- ---- what the journal is ready for

abbrev IsReady : {D F : Type 0} → DiskGhosts D → FormGhosts F → D → Log → Log → List ℕ → List ℕ → Found State → Change → Type 0
IsReady d form disk log next area written f change =
    IsReadyFor form.head form.area form.following d.content d.may_leave d.spare_calls d.spare_bytes disk log next area written (form.area_of f.state) (form.body_of change) f change

module _ (g : _) (c : After-deref-2 g) where
  is_ready : (f : Found State) (change : Change)
      → (c.args.self.now.failed ≡ false → IsAtOn g.D.Disk g.F.Form c.args.self.now.disk c.args.self.now.log f)
      → IsPrepared g.D.Disk.spare_calls g.D.Disk.spare_bytes c.args.self.now.disk c.args.self.now.log c.args.self.now.next c.args.self.now.area.items c.args.self.now.prepared.items (g.F.Form.area_of f.state) (g.F.Form.body_of change) f.state change
      → g.F.Form.can_follow f.state change → IsReady g.D.Disk g.F.Form c.args.self.now.disk c.args.self.now.log c.args.self.now.next c.deref.result.now c.deref-2.result.now f change
  is_ready f change at prepared can =
      let law = g.met.F.Form in
      ready (at c.requires.up) prepared c.deref.ensures.value c.deref-2.ensures.value (law.body_follows f.state change can) (law.body_length f.state change can)
      (λ short place. law.tells_area place f.state (law.begins_anew f.state change can) short) (λ short. law.area_length f.state (law.begins_anew f.state change can))

  is_ready_now : IsReady g.D.Disk g.F.Form c.args.self.now.disk c.args.self.now.log c.args.self.now.next c.deref.result.now c.deref-2.result.now c.requires.prepared.0 c.requires.prepared.1
  is_ready_now = let p = c.requires.prepared in is_ready p.0 p.1 p.2 p.3 p.4

pub write_commit-written-requires-clause-takes : goal.write_commit-written-requires-clause-takes
write_commit-written-requires-clause-takes g c =
    let p = c.requires.prepared in
    let r = is_ready_now g (goal.at.write_commit-written-requires-clause-takes g c).After-deref-2 in
    (layout r, p.0.state, after p.0.state p.1, c.args.self.now.log, mid r, g.F.Form.body_of p.1, takes_both r)

pub write_commit-written-requires-clause-begun : goal.write_commit-written-requires-clause-begun
write_commit-written-requires-clause-begun g c = record_within (is_ready_now g (goal.at.write_commit-written-requires-clause-begun g c).After-deref-2)

pub write_commit-written-requires-clause-ends : goal.write_commit-written-requires-clause-ends
write_commit-written-requires-clause-ends g c = near_end (is_ready_now g (goal.at.write_commit-written-requires-clause-ends g c).After-deref-2)

-- ---- whatever it answers

module _ (g : _) (c : After-write_commit-written g) where
  told : IsSome (told_of g.D.Disk g.F.Form c.write_commit-written.new.disk) ↔ IsSome (told_of g.D.Disk g.F.Form c.args.self.now.disk)
  told = told_both g.D.Disk g.F.Form c.args.self.now.disk c.write_commit-written.new.disk c.write_commit-written.ensures.told

  module _ {f : Found State} {change : Change} (r : IsReady g.D.Disk g.F.Form c.args.self.now.disk c.args.self.now.log c.args.self.now.next c.deref.result.now c.deref-2.result.now f change) where
    -- what is promised of all that the disk takes, of what the journal is ready for
    of_three : IfSome (g.D.Disk.content c.args.self.now.disk) (λ _. Among (λ bytes. IsOneOfThree f.state c.args.self.now.log (mid r) (after f.state change) (log_behind (mid r) (g.F.Form.body_of change)) (starts (layout r) bytes)) (g.D.Disk.may_leave c.write_commit-written.new.disk))
    of_three = c.write_commit-written.ensures.left (layout r) f.state (after f.state change) c.args.self.now.log (mid r) (g.F.Form.body_of change) (takes_both r)

    moments : IfSome (g.D.Disk.content c.args.self.now.disk) (λ _. LeavesOnly g.D.Disk.moment g.D.Disk.left_since c.args.self.now.disk c.write_commit-written.new.disk (λ bytes. FindsEither f.state (after f.state change) (starts (layout r) bytes)))
    moments = c.write_commit-written.ensures.any_moment (layout r) f.state (after f.state change) c.args.self.now.log (mid r) (g.F.Form.body_of change) (takes_both r)

    left : IfSome (told_of g.D.Disk g.F.Form c.args.self.now.disk) (λ _. Among (FindsEither f.state (after f.state change)) (left_of g.D.Disk g.F.Form c.write_commit-written.new.disk))
    left =
        let d = g.D.Disk in
        let form = g.F.Form in
        let j = c.args.self.now in
        left_behind d form j.disk j.disk c.write_commit-written.new.disk (same_disk d j.disk) (FindsEither f.state (after f.state change))
        (IfSome_then (d.content j.disk) of_three (λ there h bytes left.
        either_of f.state (after f.state change) j.log (mid r) (log_behind (mid r) (form.body_of change)) (starts (layout r) bytes) (h bytes left)))

    within : (file image longest : ℕ) → IsWithinOn g.D.Disk g.F.Form c.args.self.now.disk file image longest
        → IsWithinOn g.D.Disk g.F.Form c.write_commit-written.new.disk file (max image (if is_due f.log change then image_length f.state.store else 0)) (max longest (5 + change_length change))
    within file image longest was =
        let d = g.D.Disk in
        let form = g.F.Form in
        let old = c.args.self.now.disk in
        let new = c.write_commit-written.new.disk in
        let log = c.args.self.now.log in
        let finds = subst (λ (l : Log). IfSome (d.content old) (λ there. start_of form.head form.area form.following there ≡ Ok (found f.state l))) r.at.is_log (found_there d form old log f r.at) in
        let left = IfSome_then (d.content old) of_three (λ there h.
        subst (λ (n : Log). Among (λ bytes. IsOneOfThree f.state log (mid r) (after f.state change) n (start_of form.head form.area form.following bytes)) (d.may_leave new)) (behind_is r ∙ r.prepared.leads) h) in
        let no_longer = subst (λ (n : ℕ). AreNoLonger (d.content old) (d.may_leave new) n) (ap (λ (l : Log). l.log_end) r.prepared.leads) (c.write_commit-written.ensures.no_longer (area_within r)) in
        let is = commit_within form.head form.area form.following d.content d.may_leave old new c.write_commit-written.ensures.told file image longest log f.state (after f.state change) change finds (g.met.D.Disk.honest old) no_longer left was in
        subst (λ (l : Log). IsWithinOn d form new file (max image (if is_due l change then image_length f.state.store else 0)) (max longest (5 + change_length change))) (sym r.at.is_log) is

    -- it makes these calls of the disk, by the bytes that were prepared
    makes : (e : Option Fault) → Makes g.D.Disk.gives c.deref.result.now c.args.self.now.next c.deref-2.result.now c.args.self.now.disk e c.write_commit-written.new.disk
        → Makes g.D.Disk.gives c.args.self.now.area.items c.args.self.now.next (record_of (g.F.Form.body_of change)) c.args.self.now.disk e c.write_commit-written.new.disk
    makes e h =
        let d = g.D.Disk in
        let j = c.args.self.now in
        subst (λ (w : List ℕ). Makes d.gives j.area.items j.next w j.disk e c.write_commit-written.new.disk) r.prepared.is
        (subst (λ (a : List ℕ). Makes d.gives a j.next c.deref-2.result.now j.disk e c.write_commit-written.new.disk) c.deref.ensures.value h)

pub returns-in-Ok-clause-told : goal.returns-in-Ok-clause-told
returns-in-Ok-clause-told g c = told g (goal.at.returns-in-Ok-clause-told g c).After-write_commit-written

pub returns-in-Err-clause-told : goal.returns-in-Err-clause-told
returns-in-Err-clause-told g c = told g (goal.at.returns-in-Err-clause-told g c).After-write_commit-written

pub returns-in-Ok-clause-any_moment : goal.returns-in-Ok-clause-any_moment
returns-in-Ok-clause-any_moment g c = λ f change at prepared can.
    let x = goal.at.returns-in-Ok-clause-any_moment g c in
    found_moments g.D.Disk g.F.Form (λ j. j.disk) c.args.self.now _ (FindsEither f.state (after f.state change)) (moments g x.After-write_commit-written (is_ready g x.After-deref-2 f change at prepared can))

pub returns-in-Err-clause-any_moment : goal.returns-in-Err-clause-any_moment
returns-in-Err-clause-any_moment g c = λ f change at prepared can.
    let x = goal.at.returns-in-Err-clause-any_moment g c in
    found_moments g.D.Disk g.F.Form (λ j. j.disk) c.args.self.now _ (FindsEither f.state (after f.state change)) (moments g x.After-write_commit-written (is_ready g x.After-deref-2 f change at prepared can))

pub returns-in-Ok-clause-left : goal.returns-in-Ok-clause-left
returns-in-Ok-clause-left g c = λ f change at prepared can.
    let x = goal.at.returns-in-Ok-clause-left g c in left g x.After-write_commit-written (is_ready g x.After-deref-2 f change at prepared can)

pub returns-in-Err-clause-left : goal.returns-in-Err-clause-left
returns-in-Err-clause-left g c = λ f change at prepared can.
    let x = goal.at.returns-in-Err-clause-left g c in left g x.After-write_commit-written (is_ready g x.After-deref-2 f change at prepared can)

pub returns-in-Ok-clause-within : goal.returns-in-Ok-clause-within
returns-in-Ok-clause-within g c = λ f change at prepared can.
    let x = goal.at.returns-in-Ok-clause-within g c in within g x.After-write_commit-written (is_ready g x.After-deref-2 f change at prepared can)

pub returns-in-Err-clause-within : goal.returns-in-Err-clause-within
returns-in-Err-clause-within g c = λ f change at prepared can.
    let x = goal.at.returns-in-Err-clause-within g c in within g x.After-write_commit-written (is_ready g x.After-deref-2 f change at prepared can)

-- ---- where it passes

pub returns-in-Ok-clause-ok : goal.returns-in-Ok-clause-ok
returns-in-Ok-clause-ok g c = λ f change at prepared can up.
    let r = is_ready g (goal.at.returns-in-Ok-clause-ok g c).After-deref-2 f change at prepared can in
    next_at r c.write_commit-written.new.disk (c.in-Ok.ensures.settled (layout r) f.state (after f.state change) c.args.self.now.log (mid r) (g.F.Form.body_of change) (takes_both r))

pub returns-in-Ok-clause-commits : goal.returns-in-Ok-clause-commits
returns-in-Ok-clause-commits g c = λ f change at prepared can.
    let x = goal.at.returns-in-Ok-clause-commits g c in makes g x.After-write_commit-written (is_ready g x.After-deref-2 f change at prepared can) None c.in-Ok.ensures.gives

-- ---- where it fails

-- it is the disk that failed
disk_failed : (g : _) (c : In-Err g) {f : Found State} {change : Change} → IsReady g.D.Disk g.F.Form c.args.self.now.disk c.args.self.now.log c.args.self.now.next c.deref.result.now c.deref-2.result.now f change → c.in-Err.field-0 ≡ Failed
disk_failed g c r =
    failed_so c.in-Err.field-0 (λ is. room_suffices c.deref.result.now c.deref-2.result.now (g.D.Disk.spare_calls c.args.self.now.disk) (g.D.Disk.spare_bytes c.args.self.now.disk) r.prepared.spare (c.in-Err.ensures.no_memory_only is))

pub returns-in-Err-clause-commits : goal.returns-in-Err-clause-commits
returns-in-Err-clause-commits g c = λ f change at prepared can.
    let x = goal.at.returns-in-Err-clause-commits g c in
    let r = is_ready g x.After-deref-2 f change at prepared can in
    makes g x.After-write_commit-written r (Some Failed)
    (subst (λ (e : Fault). Makes g.D.Disk.gives c.deref.result.now c.args.self.now.next c.deref-2.result.now c.args.self.now.disk (Some e) c.write_commit-written.new.disk) (disk_failed g x.In-Err r) c.in-Err.ensures.gives)

pub returns-in-Err-clause-fault : goal.returns-in-Err-clause-fault
returns-in-Err-clause-fault g c =
    let x = goal.at.returns-in-Err-clause-fault g c in (refl, c.in-Err.ensures.cause.failed (ap Err (disk_failed g x.In-Err (is_ready_now g x.After-deref-2))), refl)
