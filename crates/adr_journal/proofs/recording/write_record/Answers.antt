use Rattle.std.proofs.Common.{◌≡◌, ℕ, ◌+◌, ◌-◌, List, length, Some, arith, ap}
use Rattle.adr_disk.specs.Disk.{put, Torn, Among, Only}
use Rattle.adr_disk.proofs.Bytes.{length-put}
use Rattle.adr_model.specs.Store.{State}
use Rattle.adr_model.specs.Lengths.{Log}
use Rattle.adr_law_journal.specs.Kept.{Layout, starts}
use Rattle.adr_law_journal.specs.Recording.{log_behind}
use Rattle.adr_law_journal.proofs.Told.{both_ok}
use Rattle.adr_journal.specs.Kept.{Ids}
use Rattle.adr_journal.specs.Written.{AreNoLonger, IsEitherLog, Takes}
use Rattle.adr_journal.proofs.Steps.{Leaves, gate_finds, if_before, torn_left, made_of, moments_joined, moments_of, no_longer_behind, record_after, record_finds, torn_no_longer}
use Rattle.adr_journal.proofs.recording.write_record.Goals as goal
use Rattle.adr_journal.proofs.recording.write_record.Goals.{After-write_through, In_ok-write_through, After-write_through-2}

-- ---- the first half

module _ (g : _) (c : After-write_through g) where
  first_no_longer : AreNoLonger (g.D.Disk.content c.args.disk.now) (g.D.Disk.may_leave c.write_through.new.disk) (c.args.end + length c.args.written.now)
  first_no_longer = torn_no_longer (g.D.Disk.content c.args.disk.now) (g.D.Disk.may_leave c.write_through.new.disk) c.args.end (length c.args.written.now) (c.args.end + length c.args.written.now) (omega arith) c.write_through.ensures.left

  module _ (l : Layout Ids State) (s t : State) (log : Log) (body : List ℕ) (takes : Takes l g.D.Disk.content g.D.Disk.may_leave c.args.disk.now c.args.end c.args.written.now s t log body) where
    abbrev Either : List ℕ → Type 0
    Either bytes = IsEitherLog s log t (log_behind log body) (starts l bytes)

    first_finds : (there : List ℕ) → g.D.Disk.content c.args.disk.now ≡ Some there → Among Either (Torn c.args.end (length c.args.written.now) there)
    first_finds = let old = c.args.disk.now in record_finds l g.D.Disk.content g.D.Disk.may_leave old old old c.args.end c.args.written.now s t log body takes

    first_moments : Leaves g.D.Disk Either c.args.disk.now c.write_through.new.disk
    first_moments = moments_of g.D.Disk Either c.args.disk.now c.write_through.new.disk (λ there. Torn c.args.end (length c.args.written.now) there) first_finds c.write_through.ensures.any_moment

-- where it passes, the record is there
module _ (g : _) (c : In_ok-write_through g) where
  record_there : (x : List ℕ) → g.D.Disk.content c.write_through.new.disk ≡ Some x
      → (there : List ℕ) × (g.D.Disk.content c.args.disk.now ≡ Some there) × (put there c.args.end c.args.written.now ≡ x) × Only x (g.D.Disk.may_leave c.write_through.new.disk)
  record_there = made_of g.D.Disk c.args.disk.now c.write_through.new.disk (λ there. put there c.args.end c.args.written.now) c.in_ok-write_through.ensures.written c.in_ok-write_through.ensures.durable c.write_through.ensures.told

pub write_through-requires-2-clause-within : goal.write_through-requires-2-clause-within
write_through-requires-2-clause-within g c = λ x told.
    let there = record_there g (goal.at.write_through-requires-2-clause-within g c).In_ok-write_through x told in
    omega (arith, ap length there.2, length-put there.0 c.args.end c.args.written.now, c.requires.within there.0 there.1)

pub write_through-requires-2-clause-synced : goal.write_through-requires-2-clause-synced
write_through-requires-2-clause-synced g c = λ x told. (record_there g (goal.at.write_through-requires-2-clause-synced g c).In_ok-write_through x told).3

pub returns-in_err-write_through-clause-left : goal.returns-in_err-write_through-clause-left
returns-in_err-write_through-clause-left g c = λ l s t log body takes.
    let a = (goal.at.returns-in_err-write_through-clause-left g c).After-write_through in
    torn_left g.D.Disk (Either g a l s t log body takes) c.args.disk.now c.write_through.new.disk (λ there. Torn c.args.end (length c.args.written.now) there) (first_finds g a l s t log body takes) c.write_through.ensures.left

pub returns-in_err-write_through-clause-any_moment : goal.returns-in_err-write_through-clause-any_moment
returns-in_err-write_through-clause-any_moment g c = first_moments g (goal.at.returns-in_err-write_through-clause-any_moment g c).After-write_through

pub returns-in_err-write_through-clause-no_longer : goal.returns-in_err-write_through-clause-no_longer
returns-in_err-write_through-clause-no_longer g c = first_no_longer g (goal.at.returns-in_err-write_through-clause-no_longer g c).After-write_through

-- ---- the gate

pub returns-clause-settled : goal.returns-clause-settled
returns-clause-settled g c =
    let d = g.D.Disk in
    let e = c.write_through-2.ensures in
    let is : c.args.end - 1 + 1 ≡ c.args.end = omega (arith, c.requires.begun) in
    both_ok c.write_through-2.result e.written e.durable (λ written durable l s t log body takes.
    record_after l d.content d.may_leave c.args.disk.now c.write_through.new.disk c.write_through-2.new.disk c.args.end c.args.written.now s t log body takes
    c.in_ok-write_through.ensures.written c.in_ok-write_through.ensures.durable c.write_through.ensures.told (c.args.end - 1) is written durable e.told)

module _ (g : _) (c : After-write_through-2 g) (l : Layout Ids State) (s t : State) (log : Log) (body : List ℕ) (takes : Takes l g.D.Disk.content g.D.Disk.may_leave c.args.disk.now c.args.end c.args.written.now s t log body) where
  then_finds : (x : List ℕ) → g.D.Disk.content c.write_through.new.disk ≡ Some x → Among (λ bytes. IsEitherLog s log t (log_behind log body) (starts l bytes)) (Torn (c.args.end - 1) 1 x)
  then_finds =
      gate_finds l g.D.Disk.content g.D.Disk.may_leave c.args.disk.now c.write_through.new.disk c.write_through-2.new.disk c.args.end c.args.written.now s t log body takes
      c.in_ok-write_through.ensures.written c.in_ok-write_through.ensures.durable c.write_through.ensures.told (c.args.end - 1) (omega (arith, c.requires.begun))

pub returns-clause-left : goal.returns-clause-left
returns-clause-left g c = λ l s t log body takes.
    let d = g.D.Disk in
    let mid = c.write_through.new.disk in
    if_before (d.content c.args.disk.now) (d.content mid) _ c.write_through.ensures.told
    (torn_left d (λ bytes. IsEitherLog s log t (log_behind log body) (starts l bytes)) mid c.write_through-2.new.disk (Torn (c.args.end - 1) 1) (then_finds g (goal.at.returns-clause-left g c).After-write_through-2 l s t log body takes) c.write_through-2.ensures.left)

pub returns-clause-any_moment : goal.returns-clause-any_moment
returns-clause-any_moment g c = λ l s t log body takes.
    let d = g.D.Disk in
    let x = goal.at.returns-clause-any_moment g c in
    let mid = c.write_through.new.disk in
    let new = c.write_through-2.new.disk in
    let P : List ℕ → Type 0 = λ bytes. IsEitherLog s log t (log_behind log body) (starts l bytes) in
    moments_joined d P c.args.disk.now mid new c.write_through.ensures.told (first_moments g x.After-write_through l s t log body takes)
    (moments_of d P mid new (Torn (c.args.end - 1) 1) (then_finds g x.After-write_through-2 l s t log body takes) c.write_through-2.ensures.any_moment)

pub returns-clause-no_longer : goal.returns-clause-no_longer
returns-clause-no_longer g c =
    let d = g.D.Disk in
    let mid = c.write_through.new.disk in
    let new = c.write_through-2.new.disk in
    let end = c.args.end + length c.args.written.now in
    no_longer_behind d c.args.disk.now mid new end c.write_through.ensures.told (g.met.D.Disk.honest mid) (first_no_longer g (goal.at.returns-clause-no_longer g c).After-write_through)
    (torn_no_longer (d.content mid) (d.may_leave new) (c.args.end - 1) 1 end (omega (arith, c.requires.begun)) c.write_through-2.ensures.left)
