use Rattle.std.proofs.Common.{◌≡◌, ℕ, ◌-◌, List, [], length, Some, IfSome, refl, sym, ◌∙◌, ap, subst, arith}
use Rattle.adr_disk.specs.Disk.{Among}
use Rattle.adr_law_journal.specs.Areas.{found, start_of}
use Rattle.adr_law_journal.specs.Kept.{Rests}
use Rattle.adr_law_journal.proofs.Reading.{area_long}
use Rattle.adr_law_journal.proofs.Settled.{stands}
use Rattle.adr_law_journal.proofs.Told.{at_told, if_mapped}
use Rattle.adr_journal.specs.Ended.{StillReads}
use Rattle.adr_journal.specs.Kept.{ids_of, layout_of}
use Rattle.adr_journal.specs.declared.keeper.StartRefusal.TheVariants.{NoMemory}
use Rattle.adr_journal.proofs.Found.{for_some}
use Rattle.adr_gather.specs.Held.{once_written, with_held}
use Rattle.adr_gather.specs.Gathered.{content_of, gathered}
use Rattle.adr_gather.proofs.Finding.{content, fewer_left, images, left_of, now_leaves, still_by}
use Rattle.adr_gather.proofs.Viewing.{none_held, settled_holds}
use Rattle.adr_gather.proofs.gathering.GatheringKeeper.start.Goals as goal
use Rattle.adr_gather.proofs.gathering.GatheringKeeper.start.Goals.{After-read_written, In-Ok}

-- ---- whatever the disk answers

module _ (g : _) (c : After-read_written g) where
  left : Among (left_of g.D.Disk g.F.Form (gathered c.args.self.now.disk c.args.self.now.gate c.args.self.now.held.items)) (left_of g.D.Disk g.F.Form (gathered c.read_written.new.disk c.args.self.now.gate c.read_written.new.held.items))
  left =
      let k = c.args.self.now in
      fewer_left g.D.Disk g.F.Form (gathered k.disk k.gate k.held.items) (gathered c.read_written.new.disk k.gate c.read_written.new.held.items) c.read_written.ensures.left

-- ---- where it is refused

pub returns-in-Err-NoMemory-clause-still : goal.returns-in-Err-NoMemory-clause-still
returns-in-Err-NoMemory-clause-still g c =
    let d = g.D.Disk in
    let k = c.args.self.now in
    still_by d g.F.Form (λ k. gathered k.disk k.gate k.held.items) k _ (NoMemory c.in-Err-NoMemory.settled)
    (subst (λ e. StillReads (content d) (images d) (λ _. 0) (λ v t. images d v) e (gathered k.disk k.gate k.held.items) (gathered c.read_written.new.disk k.gate c.read_written.new.held.items)) c.in-Err-NoMemory.field-0-is c.in-Err-NoMemory.ensures.still)

-- ---- all was read

module _ (g : _) (c : In-Ok g) where
  -- the disk has what was to be read
  now : g.D.Disk.content c.read_written.new.disk ≡ content_of g.D.Disk.content (gathered c.args.self.now.disk c.args.self.now.gate c.args.self.now.held.items)
  now =
      let o = g.D.Disk.content c.read_written.new.disk in
      sym (ap (λ (h : List ℕ). once_written o c.args.self.now.gate h) c.in-Ok.ensures.none ∙ none_held o c.args.self.now.gate) ∙ c.in-Ok.ensures.same

  read : IfSome (content_of g.D.Disk.content (gathered c.args.self.now.disk c.args.self.now.gate c.args.self.now.held.items)) (λ there. c.in-Ok.bytes.items ≡ there)
  read = subst (λ o. IfSome o (λ there. c.in-Ok.bytes.items ≡ there)) now c.in-Ok.ensures.bytes

-- ---- where it is found

pub returns-clause-left : goal.returns-clause-left
returns-clause-left g c = λ t was.
    let d = g.D.Disk in
    let none = c.in-Ok.ensures.none in
    left g (goal.at.returns-clause-left g c).After-read_written t
    (was.0, (λ told. let x = was.1 told in (x.0, x.1, ap (λ (h : List ℕ). with_held c.args.self.now.gate h x.0) none ∙ sym (ap (λ (h : List ℕ). with_held (c.end.result - 1) h x.0) none) ∙ x.2)), was.2)

pub returns-clause-any_moment : goal.returns-clause-any_moment
returns-clause-any_moment g c =
    now_leaves (λ k. left_of g.D.Disk g.F.Form (gathered k.disk k.gate k.held.items)) c.args.self.now _ (left_of g.D.Disk g.F.Form (gathered c.args.self.now.disk c.args.self.now.gate c.args.self.now.held.items)) (returns-clause-left g c)

pub returns-clause-ok : goal.returns-clause-ok
returns-clause-ok g c =
    let d = g.D.Disk in
    let f = g.F.Form in
    let s = c.in_ok-state.state in
    let log = c.in_ok-state.log in
    let k = c.args.self.now in
    let new = c.read_written.new.disk in
    let ok = (goal.at.returns-clause-ok g c).In-Ok in
    let is = c.in_ok-state.ensures.rests in
    let within = c.in_ok-state.ensures.within in
    let l = layout_of f.head f.area f.following is.front (ids_of s) is.is_head in
    let rests : (there : List ℕ) → content_of d.content (gathered k.disk k.gate k.held.items) ≡ Some there → Rests l s log there = λ there told.
    subst (λ (y : List ℕ). Rests l s log y) (c.deref.ensures.value ∙ at_told (content_of d.content (gathered k.disk k.gate k.held.items)) _ there told (read g ok)) is.rests in
    let far = area_long (f.area (ids_of s)) f.following s log.place log.version log.first log.log_end c.deref.result.now is.rests.ready.stands in
    let v = (gathered c.read_written.new.disk (c.end.result - 1) c.read_written.new.held.items) in
    let holds = settled_holds d.content d.may_leave l v s log c.in-Ok.ensures.none (omega (arith, c.end.ensures, within.0))
    (record {
      at_rest = λ there told. rests there (sym (now g ok) ∙ told);
      synced = λ there told. for_some (d.content new) _ c.in-Ok.ensures.durable there told;
    }) in (
      log,
      (λ up. record {
        at = record {
          is_log = refl;
          version = c.in_ok-state.ensures.version;
          front = is.front;
          is_head = is.is_head;
          settled = holds.whole;
          place = is.rests.ready.low;
          first = omega (arith, within.0, within.1, c.in-Ok.bytes.ok, c.in-Ok.bytes.small, ap length c.deref.ensures.value);
          begun = far.0;
          ends = omega (arith, within.1, c.in-Ok.bytes.ok, c.in-Ok.bytes.small, ap length c.deref.ensures.value);
        };
        holds = holds;
      }),
      if_mapped (start_of f.head f.area f.following) (content_of d.content (gathered k.disk k.gate k.held.items)) _ (λ there told. stands l s log there (rests there told)),
    )
