use Rattle.std.proofs.Common.{◌≡◌, ℕ, ◌+◌, ◌-◌, [], ◌∷◌, IfSome, refl, sym, ◌∙◌, ap, subst, arith}
use Rattle.std.specs.Prelude.{◌↔◌, IsSome}
use Rattle.adr_disk.specs.Disk.{Among}
use Rattle.adr_model.specs.Store.{State}
use Rattle.adr_model.specs.Lengths.{Log, first_area, new_log}
use Rattle.adr_law_journal.specs.Areas.{found, start_of}
use Rattle.adr_law_journal.specs.Kept.{Layout, Rests}
use Rattle.adr_law_journal.specs.Log.{open_gate}
use Rattle.adr_journal.specs.Ended.{IsNewOrNone}
use Rattle.adr_journal.specs.Kept.{Ids, ids_of}
use Rattle.adr_journal.proofs.Begun.{new_layout, new_rests, new_at}
use Rattle.adr_gather.specs.Gathered.{content_of, gathered, images_of}
use Rattle.adr_gather.proofs.Finding.{IsOn, found_left, left_of, told_leaves, told_left, told_of}
use Rattle.adr_gather.proofs.Viewing.{none_left, settled_holds}
use Rattle.adr_gather.proofs.gathering.GatheringKeeper.format.Goals as goal
use Rattle.adr_gather.proofs.gathering.GatheringKeeper.format.Goals.{After-write_log}

-- ---- where a log is written, whatever the disk answers

module _ (g : _) (c : After-write_log g) where
  abbrev layout : Layout Ids State
  layout =
      let form = g.F.Form in
      let s = c.args.state.now in
      new_layout form.head form.area form.following (form.front_of (ids_of s)) (form.area_of s) s (g.met.F.Form.tells_front s (g.met.F.Form.begins_formed s c.requires.begins))

  rests : Rests layout c.args.state.now (new_log c.args.state.now) (open_gate ∷ c.deref.result.now)
  rests =
      let form = g.F.Form in
      let law = g.met.F.Form in
      let s = c.args.state.now in
      new_rests form.head form.area form.following (form.front_of (ids_of s)) (form.area_of s) s (law.tells_front s (law.begins_formed s c.requires.begins)) (law.tells_area first_area s c.requires.begins c.in_ok-written.ensures.short) (law.area_length s c.requires.begins) c.deref.result.now (c.deref.ensures.value ∙ c.in_ok-written.ensures.bytes)

  both : IsSome (g.D.Disk.content c.write_log.new.disk) ↔ IsSome (g.D.Disk.content c.args.self.now.disk)
  both = subst (λ o. IsSome (g.D.Disk.content c.write_log.new.disk) ↔ IsSome o) c.reserve.ensures.keeps.content_stays c.write_log.ensures.told

  left : (gate : ℕ) → IfSome (told_of g.D.Disk g.F.Form (gathered c.args.self.now.disk c.args.self.now.gate c.args.self.now.held.items)) (λ _. Among (IsNewOrNone c.args.state.now) (left_of g.D.Disk g.F.Form (gathered c.write_log.new.disk gate c.args.self.now.held.items)))
  left gate =
      let d = g.D.Disk in
      let form = g.F.Form in
      let k = c.args.self.now in
      let s = c.args.state.now in
      told_left d form (gathered k.disk k.gate k.held.items) _
      (found_left d form (gathered c.write_log.new.disk gate k.held.items) (d.content k.disk) (IsNewOrNone s)
      (none_left d.content d.may_leave c.write_log.new.disk gate k.held.items (d.content k.disk) (λ bytes. IsNewOrNone s (start_of form.head form.area form.following bytes)) c.requires.empty.1 both
      (subst (λ o. IfSome o (λ _. Among (λ bytes. IsNewOrNone s (start_of form.head form.area form.following bytes)) (d.may_leave c.write_log.new.disk))) c.reserve.ensures.keeps.content_stays (c.write_log.ensures.left layout s (new_log s) rests))))

pub returns-in-Ok-write_log-clause-left : goal.returns-in-Ok-write_log-clause-left
returns-in-Ok-write_log-clause-left g c = left g (goal.at.returns-in-Ok-write_log-clause-left g c).After-write_log (c.end.result - 1)

pub returns-clause-left : goal.returns-clause-left
returns-clause-left g c = left g (goal.at.returns-clause-left g c).After-write_log c.args.self.now.gate

pub returns-in-Ok-write_log-clause-any_moment : goal.returns-in-Ok-write_log-clause-any_moment
returns-in-Ok-write_log-clause-any_moment g c =
    let d = g.D.Disk in
    let form = g.F.Form in
    told_leaves (λ k. left_of d form (gathered k.disk k.gate k.held.items)) c.args.self.now _ (told_of d form (gathered c.args.self.now.disk c.args.self.now.gate c.args.self.now.held.items)) (IsNewOrNone c.args.state.now) (returns-in-Ok-write_log-clause-left g c)

pub returns-clause-any_moment : goal.returns-clause-any_moment
returns-clause-any_moment g c =
    let d = g.D.Disk in
    let form = g.F.Form in
    told_leaves (λ k. left_of d form (gathered k.disk k.gate k.held.items)) c.args.self.now _ (told_of d form (gathered c.args.self.now.disk c.args.self.now.gate c.args.self.now.held.items)) (IsNewOrNone c.args.state.now) (returns-clause-left g c)

pub returns-in-Ok-write_log-clause-ok : goal.returns-in-Ok-write_log-clause-ok
returns-in-Ok-write_log-clause-ok g c = λ up.
    let d = g.D.Disk in
    let form = g.F.Form in
    let law = g.met.F.Form in
    let s = c.args.state.now in
    let x = (goal.at.returns-in-Ok-write_log-clause-ok g c).After-write_log in
    let v = gathered c.write_log.new.disk (c.end.result - 1) c.args.self.now.held.items in
    let is_log = c.in_ok-written.ensures.log in
    let end : v.gate + 1 ≡ (new_log s).log_end = omega (arith, c.end.ensures, ap (λ (l : Log). l.log_end) is_log) in
    let holds = settled_holds d.content d.may_leave (layout g x) v s (new_log s) c.requires.empty.1 end (c.in-Ok-write_log.ensures.settled (layout g x) s (new_log s) (rests g x)) in
    let is_head = law.tells_front s (law.begins_formed s c.requires.begins) in
    let at = new_at form.head form.area form.following (form.front_of (ids_of s)) (form.area_of s) s is_head (content_of d.content) (images_of d.content d.may_leave) v c.in_ok-written.ensures.short holds.whole in
    subst (λ (l : Log). IsOn d form v l (found s (new_log s))) (sym is_log) (record {
      at = record {
        is_log = refl;
        version = at.version;
        front = form.front_of (ids_of s);
        is_head = is_head;
        settled = holds.whole;
        place = at.place;
        first = at.first;
        begun = at.begun;
        ends = at.ends;
      };
      holds = holds;
    })
