use Rattle.std.proofs.Common.{◌≡◌, inl, ℕ, ◌-◌, List, length, Bool, IfSome, None, sym, ◌∙◌, ap, subst}
use Rattle.std.proofs.lemmas.Option.{IfSome_then}
use Rattle.adr_disk.specs.Disk.{Among, ended}
use Rattle.adr_disk.specs.declared.disk.Disk.{Ghosts as DiskGhosts}
use Rattle.adr_model.specs.Store.{State}
use Rattle.adr_model.specs.Lengths.{Log}
use Rattle.adr_law_journal.specs.Areas.{slot_place}
use Rattle.adr_law_journal.specs.Commits.{Commits, Checkpoints}
use Rattle.adr_law_journal.specs.Kept.{Layout, Stages, starts, FindsEither, IsOneOf, IsSettled}
use Rattle.adr_law_journal.specs.Recording.{log_behind}
use Rattle.adr_law_journal.proofs.Told.{both_ok}
use Rattle.adr_journal.specs.Kept.{Ids}
use Rattle.adr_journal.specs.Written.{IsEitherLog, IsOneOfThree, Takes, TakesBoth}
use Rattle.adr_journal.proofs.Commits.{none_there, some_there, ends_within, stages_within, takes_none, takes_then, stages_it, of_record, either_of, makes_both}
use Rattle.adr_journal.proofs.Steps.{Leaves, if_before, moments_joined, moments_of}
use Rattle.adr_journal.proofs.committing.write_commit.Goals as goal
use Rattle.adr_journal.proofs.committing.write_commit.Goals.{After-end, After-second, After-write_checkpoint, After-end-2}

-- what is asked of the disk, and of its checkpoint
abbrev TakesAll : {D : Type 0} → DiskGhosts D → D → List ℕ → Log → List ℕ → Layout Ids State → State → State → Log → Log → List ℕ → Type 0
TakesAll d disk area next written l s t log mid body = TakesBoth l d.content d.may_leave disk area next (next.log_end - length written) written s t log mid body

abbrev StagesIt : {D : Type 0} → DiskGhosts D → D → ℕ → List ℕ → Bool → Layout Ids State → State → Log → Log → Type 0
StagesIt d disk place area second l s log mid = Stages l d.content d.may_leave disk place area (slot_place second) s log mid × (second ≡ mid.second)

-- ---- what a record leaves, alone or behind a checkpoint

module _ {D : Type 0} (d : DiskGhosts D) (old new : D) (l : Layout Ids State) (s t : State) (log mid next : Log) where
  record_left : IfSome (d.content old) (λ _. Among (λ bytes. IsEitherLog s mid t next (starts l bytes)) (d.may_leave new)) → IfSome (d.content old) (λ _. Among (λ bytes. IsOneOfThree s log mid t next (starts l bytes)) (d.may_leave new))
  record_left h = IfSome_then (d.content old) h (λ there each bytes left. of_record s t log mid next (starts l bytes) (each bytes left))

  record_moments : Leaves d (λ bytes. IsEitherLog s mid t next (starts l bytes)) old new → Leaves d (λ bytes. FindsEither s t (starts l bytes)) old new
  record_moments h =
      moments_of d (λ bytes. FindsEither s t (starts l bytes)) old new (λ there bytes. IsEitherLog s mid t next (starts l bytes))
      (λ there told bytes is. either_of s t log mid next (starts l bytes) (of_record s t log mid next (starts l bytes) is)) h

-- ---- no area

module _ (g : _) (c : After-end g) {l : Layout Ids State} {s t : State} {log mid : Log} {body : List ℕ} (both : TakesAll g.D.Disk c.args.disk.now c.args.area.now c.args.next c.args.written.now l s t log mid body) where
  takes_it : Takes l g.D.Disk.content g.D.Disk.may_leave c.args.disk.now (c.end.result - length c.args.written.now) c.args.written.now s t mid body
  takes_it =
      takes_none l g.D.Disk.content g.D.Disk.may_leave c.args.disk.now c.args.area.now c.args.next (c.args.next.log_end - length c.args.written.now) c.args.written.now s t log mid body both (c.end.result - length c.args.written.now) (ap (λ (n : ℕ). n - length c.args.written.now) c.end.ensures)
      (none_there c.args.area.now (sym c.is_empty.ensures ∙ c.if-is_empty.true))

pub write_record-requires-clause-within : goal.write_record-requires-clause-within
write_record-requires-clause-within g c =
    let r = c.requires.takes in
    let takes = takes_it g (goal.at.write_record-requires-clause-within g c).After-end r.6 in
    ends_within r.0 g.D.Disk.content g.D.Disk.may_leave c.args.disk.now r.1 r.4 (c.end.result - length c.args.written.now) takes.ends takes.settled

pub returns-then-is_empty-clause-settled : goal.returns-then-is_empty-clause-settled
returns-then-is_empty-clause-settled g c =
    both_ok c.write_record.result c.write_record.ensures.settled c.write_record.ensures.settled (λ settled again l s t log mid body both.
    settled l s t mid body (takes_it g (goal.at.returns-then-is_empty-clause-settled g c).After-end both))

pub returns-then-is_empty-clause-left : goal.returns-then-is_empty-clause-left
returns-then-is_empty-clause-left g c = λ l s t log mid body both.
    record_left g.D.Disk c.args.disk.now c.write_record.new.disk l s t log mid (log_behind mid body) (c.write_record.ensures.left l s t mid body (takes_it g (goal.at.returns-then-is_empty-clause-left g c).After-end both))

pub returns-then-is_empty-clause-any_moment : goal.returns-then-is_empty-clause-any_moment
returns-then-is_empty-clause-any_moment g c = λ l s t log mid body both.
    record_moments g.D.Disk c.args.disk.now c.write_record.new.disk l s t log mid (log_behind mid body) (c.write_record.ensures.any_moment l s t mid body (takes_it g (goal.at.returns-then-is_empty-clause-any_moment g c).After-end both))

-- ---- an area first

module _ (g : _) (c : After-second g) {l : Layout Ids State} {s t : State} {log mid : Log} {body : List ℕ} (both : TakesAll g.D.Disk c.args.disk.now c.args.area.now c.args.next c.args.written.now l s t log mid body) where
  stages : StagesIt g.D.Disk c.args.disk.now c.place.result c.args.area.now c.second.result l s log mid
  stages =
      stages_it l g.D.Disk.content g.D.Disk.may_leave c.args.disk.now c.args.area.now c.args.next (c.args.next.log_end - length c.args.written.now) c.args.written.now s t log mid body both c.place.result c.second.result c.place.ensures c.second.ensures
      (some_there c.args.area.now (sym c.is_empty.ensures ∙ c.if-is_empty.false))

-- whatever the checkpoint answers
module _ (g : _) (c : After-write_checkpoint g) {l : Layout Ids State} {s : State} (t : State) {log mid : Log} (staged : StagesIt g.D.Disk c.args.disk.now c.place.result c.args.area.now c.second.result l s log mid) where
  checkpoint_moments : Leaves g.D.Disk (λ bytes. FindsEither s t (starts l bytes)) c.args.disk.now c.write_checkpoint.new.disk
  checkpoint_moments =
      moments_of g.D.Disk (λ bytes. FindsEither s t (starts l bytes)) c.args.disk.now c.write_checkpoint.new.disk (λ there bytes. IsOneOf s log mid (starts l bytes))
      (λ there told bytes is. either_of s t log mid mid (starts l bytes) (inl is)) (c.write_checkpoint.ensures.any_moment l s log mid staged.0)

-- where it passes
module _ (g : _) (c : After-end-2 g) {l : Layout Ids State} {s t : State} {log mid : Log} {body : List ℕ} (both : TakesAll g.D.Disk c.args.disk.now c.args.area.now c.args.next c.args.written.now l s t log mid body)
    (staged : StagesIt g.D.Disk c.args.disk.now c.place.result c.args.area.now c.second.result l s log mid) where
  settles : IsSettled l g.D.Disk.content g.D.Disk.may_leave c.write_checkpoint.new.disk s mid
  settles = c.in_ok-write_checkpoint.ensures.settled l s log mid staged.0 staged.1

  takes_behind : Takes l g.D.Disk.content g.D.Disk.may_leave c.write_checkpoint.new.disk (c.end-2.result - length c.args.written.now) c.args.written.now s t mid body
  takes_behind =
      takes_then l g.D.Disk.content g.D.Disk.may_leave c.args.disk.now c.args.area.now c.args.next (c.args.next.log_end - length c.args.written.now) c.args.written.now s t log mid body both (c.end-2.result - length c.args.written.now) (ap (λ (n : ℕ). n - length c.args.written.now) c.end-2.ensures)
      c.write_checkpoint.new.disk settles

pub write_checkpoint-requires-clause-within : goal.write_checkpoint-requires-clause-within
write_checkpoint-requires-clause-within g c =
    let r = c.requires.takes in
    stages_within r.0 g.D.Disk.content g.D.Disk.may_leave c.args.disk.now c.place.result c.args.area.now (slot_place c.second.result) r.1 r.3 r.4 (stages g (goal.at.write_checkpoint-requires-clause-within g c).After-second r.6).0

pub returns-in_err-write_checkpoint-clause-left : goal.returns-in_err-write_checkpoint-clause-left
returns-in_err-write_checkpoint-clause-left g c = λ l s t log mid body both.
    IfSome_then (g.D.Disk.content c.args.disk.now) (c.write_checkpoint.ensures.left l s log mid (stages g (goal.at.returns-in_err-write_checkpoint-clause-left g c).After-second both).0) (λ there each bytes left. inl (each bytes left))

pub returns-in_err-write_checkpoint-clause-any_moment : goal.returns-in_err-write_checkpoint-clause-any_moment
returns-in_err-write_checkpoint-clause-any_moment g c = λ l s t log mid body both.
    let x = goal.at.returns-in_err-write_checkpoint-clause-any_moment g c in checkpoint_moments g x.After-write_checkpoint t (stages g x.After-second both)

pub write_record-requires-2-clause-within : goal.write_record-requires-2-clause-within
write_record-requires-2-clause-within g c =
    let x = goal.at.write_record-requires-2-clause-within g c in
    let r = c.requires.takes in
    let staged = stages g x.After-second r.6 in
    ends_within r.0 g.D.Disk.content g.D.Disk.may_leave c.write_checkpoint.new.disk r.1 r.4 (c.end-2.result - length c.args.written.now) (takes_behind g x.After-end-2 r.6 staged).ends (settles g x.After-end-2 r.6 staged)

pub write_record-requires-2-clause-synced : goal.write_record-requires-2-clause-synced
write_record-requires-2-clause-synced g c =
    let x = goal.at.write_record-requires-2-clause-synced g c in
    let both = c.requires.takes.6 in
    (settles g x.After-end-2 both (stages g x.After-second both)).synced

pub returns-clause-settled : goal.returns-clause-settled
returns-clause-settled g c =
    let x = goal.at.returns-clause-settled g c in
    both_ok c.write_record-2.result c.write_record-2.ensures.settled c.write_record-2.ensures.settled (λ settled again l s t log mid body both.
    settled l s t mid body (takes_behind g x.After-end-2 both (stages g x.After-second both)))

pub returns-clause-left : goal.returns-clause-left
returns-clause-left g c = λ l s t log mid body both.
    let d = g.D.Disk in
    let x = goal.at.returns-clause-left g c in
    let between = c.write_checkpoint.new.disk in
    if_before (d.content c.args.disk.now) (d.content between) _ c.write_checkpoint.ensures.told
    (record_left d between c.write_record-2.new.disk l s t log mid (log_behind mid body) (c.write_record-2.ensures.left l s t mid body (takes_behind g x.After-end-2 both (stages g x.After-second both))))

pub returns-clause-any_moment : goal.returns-clause-any_moment
returns-clause-any_moment g c = λ l s t log mid body both.
    let d = g.D.Disk in
    let x = goal.at.returns-clause-any_moment g c in
    let between = c.write_checkpoint.new.disk in
    let new = c.write_record-2.new.disk in
    let staged = stages g x.After-second both in
    moments_joined d (λ bytes. FindsEither s t (starts l bytes)) c.args.disk.now between new c.write_checkpoint.ensures.told
    (checkpoint_moments g x.After-write_checkpoint t staged)
    (record_moments d between new l s t log mid (log_behind mid body) (c.write_record-2.ensures.any_moment l s t mid body (takes_behind g x.After-end-2 both staged)))

pub returns-clause-gives : goal.returns-clause-gives
returns-clause-gives g c =
    let d = g.D.Disk in
    let old = c.args.disk.now in
    let between = c.write_checkpoint.new.disk in
    let new = c.write_record-2.new.disk in
    let e = ended c.write_record-2.result in
    makes_both d.gives c.args.next c.args.written.now old new c.args.area.now (some_there c.args.area.now (sym c.is_empty.ensures ∙ c.if-is_empty.false)) between e
    (subst (λ (p : ℕ). Checkpoints d.gives p c.args.area.now c.args.next.second old None between) c.place.ensures
    (subst (λ (b : Bool). Checkpoints d.gives c.place.result c.args.area.now b old None between) c.second.ensures c.in_ok-write_checkpoint.ensures.gives))
    (subst (λ (n : ℕ). Commits d.gives (n - length c.args.written.now) c.args.written.now between e new) c.end-2.ensures c.write_record-2.ensures.gives)
