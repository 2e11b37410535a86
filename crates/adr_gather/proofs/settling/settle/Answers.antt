use Rattle.std.proofs.Common.{◌≡◌, ℕ, ◌+◌, List, length, IfSome, Some, ◌∙◌, arith}
use Rattle.adr_disk.specs.Disk.{Torn, Among}
use Rattle.adr_model.specs.Store.{State}
use Rattle.adr_model.specs.Lengths.{Log}
use Rattle.adr_law_journal.specs.Kept.{Layout, starts}
use Rattle.adr_law_journal.proofs.Told.{at_told, both_ok, if_told, is_some_of, some_of}
use Rattle.adr_journal.specs.Kept.{Ids}
use Rattle.adr_journal.specs.Written.{IsEitherLog}
use Rattle.adr_gather.specs.Held.{once_written, with_held}
use Rattle.adr_gather.specs.Taken.{Takes}
use Rattle.adr_gather.proofs.Putting.{torn_same}
use Rattle.adr_gather.proofs.Settled.{behind_finds, gate_finds, mid_there, mid_within, new_only, new_written, same_behind, settled_behind}
use Rattle.adr_gather.proofs.Steps.{Leaves, if_before, torn_left, moments_joined, moments_of}
use Rattle.adr_gather.proofs.settling.settle.Goals as goal
use Rattle.adr_gather.proofs.settling.settle.Goals.{After-write_through, After-write_through-2}

-- ---- what stands behind the gate

module _ (g : _) (c : After-write_through g) where
  first_same : once_written (g.D.Disk.content c.write_through.new.disk) c.args.gate c.args.written.now ≡ once_written (g.D.Disk.content c.args.disk.now) c.args.gate c.args.written.now
  first_same =
      let new = c.write_through.new.disk in
      same_behind g.D.Disk c.args.disk.now new c.args.gate c.args.written.now (c.args.gate + 1) (length c.args.written.now) c.requires.some (λ there told. (c.requires.within there told, omega (arith, c.requires.within there told)))
      (omega arith) (omega arith) c.write_through.ensures.told (g.met.D.Disk.honest new) c.write_through.ensures.left

  first_each : IfSome (g.D.Disk.content c.args.disk.now) (λ there. Among (λ bytes. with_held c.args.gate c.args.written.now bytes ≡ with_held c.args.gate c.args.written.now there) (g.D.Disk.may_leave c.write_through.new.disk))
  first_each =
      let old = c.args.disk.now in
      let gate = c.args.gate in
      let written = c.args.written.now in
      if_told (g.D.Disk.content old) _ (λ there told bytes left.
      let near = c.requires.within there told in
      torn_same gate written (gate + 1) (length written) there bytes c.requires.some near (at_told (g.D.Disk.content old) _ there told c.write_through.ensures.left bytes left) (omega arith) (omega (arith, near)) (omega arith))

  module _ (l : Layout Ids State) (s t : State) (log next : Log) (takes : Takes l g.D.Disk.content g.D.Disk.may_leave c.args.disk.now c.args.gate c.args.written.now s t log next) where
    abbrev Either : List ℕ → Type 0
    Either bytes = IsEitherLog s log t next (starts l bytes)

    first_finds : (there : List ℕ) → g.D.Disk.content c.args.disk.now ≡ Some there → Among Either (Torn (c.args.gate + 1) (length c.args.written.now) there)
    first_finds = let old = c.args.disk.now in behind_finds g.D.Disk l old old old c.args.gate c.args.written.now s t log next takes

    first_moments : Leaves g.D.Disk Either c.args.disk.now c.write_through.new.disk
    first_moments = moments_of g.D.Disk Either c.args.disk.now c.write_through.new.disk (λ there. Torn (c.args.gate + 1) (length c.args.written.now) there) first_finds c.write_through.ensures.any_moment

pub write_through-requires-2-clause-within : goal.write_through-requires-2-clause-within
write_through-requires-2-clause-within g c = λ x told.
    let new = c.write_through.new.disk in
    let within = mid_within g.D.Disk c.args.disk.now new new c.args.gate c.args.written.now c.requires.within c.in_ok-write_through.ensures.written c.in_ok-write_through.ensures.durable c.write_through.ensures.told x told in
    omega (arith, within)

pub write_through-requires-2-clause-synced : goal.write_through-requires-2-clause-synced
write_through-requires-2-clause-synced g c = λ x told.
    let new = c.write_through.new.disk in
    (mid_there g.D.Disk c.args.disk.now new new c.args.gate c.args.written.now c.requires.within c.in_ok-write_through.ensures.written c.in_ok-write_through.ensures.durable c.write_through.ensures.told x told).3

pub returns-in_err-write_through-clause-same : goal.returns-in_err-write_through-clause-same
returns-in_err-write_through-clause-same g c = first_same g (goal.at.returns-in_err-write_through-clause-same g c).After-write_through

pub returns-in_err-write_through-clause-each : goal.returns-in_err-write_through-clause-each
returns-in_err-write_through-clause-each g c = first_each g (goal.at.returns-in_err-write_through-clause-each g c).After-write_through

pub returns-in_err-write_through-clause-left : goal.returns-in_err-write_through-clause-left
returns-in_err-write_through-clause-left g c = λ l s t log next takes.
    let a = (goal.at.returns-in_err-write_through-clause-left g c).After-write_through in
    torn_left g.D.Disk (Either g a l s t log next takes) c.args.disk.now c.write_through.new.disk (λ there. Torn (c.args.gate + 1) (length c.args.written.now) there) (first_finds g a l s t log next takes) c.write_through.ensures.left

pub returns-in_err-write_through-clause-any_moment : goal.returns-in_err-write_through-clause-any_moment
returns-in_err-write_through-clause-any_moment g c = first_moments g (goal.at.returns-in_err-write_through-clause-any_moment g c).After-write_through

-- ---- the gate

pub returns-clause-each : goal.returns-clause-each
returns-clause-each g c =
    let d = g.D.Disk in
    let old = c.args.disk.now in
    let mid = c.write_through.new.disk in
    let gate = c.args.gate in
    let written = c.args.written.now in
    let first = first_each g (goal.at.returns-clause-each g c).After-write_through in
    if_told (d.content old) _ (λ there told bytes left.
    let x = some_of (d.content mid) (c.write_through.ensures.told.1 (is_some_of (d.content old) there told)) in
    let near = mid_within d old mid mid gate written c.requires.within c.in_ok-write_through.ensures.written c.in_ok-write_through.ensures.durable c.write_through.ensures.told x.0 x.1 in
    torn_same gate written gate 1 x.0 bytes c.requires.some near (at_told (d.content mid) _ x.0 x.1 c.write_through-2.ensures.left bytes left) (omega arith) (omega (arith, near)) (omega (arith, c.requires.some))
    ∙ at_told (d.content old) _ there told first x.0 (at_told (d.content mid) _ x.0 x.1 (g.met.D.Disk.honest mid)))

pub returns-clause-settled : goal.returns-clause-settled
returns-clause-settled g c =
    let d = g.D.Disk in
    let e = c.write_through-2.ensures in
    both_ok c.write_through-2.result e.written e.durable (λ written durable l s t log next takes.
    settled_behind d l c.args.disk.now c.write_through.new.disk c.write_through-2.new.disk c.args.gate c.args.written.now s t log next takes c.requires.within
    c.in_ok-write_through.ensures.written c.in_ok-write_through.ensures.durable c.write_through.ensures.told written durable e.told)

pub returns-clause-written : goal.returns-clause-written
returns-clause-written g c =
    let d = g.D.Disk in
    let e = c.write_through-2.ensures in
    both_ok c.write_through-2.result e.written e.durable (λ written durable.
    new_written d c.args.disk.now c.write_through.new.disk c.write_through-2.new.disk c.args.gate c.args.written.now c.requires.within
    c.in_ok-write_through.ensures.written c.in_ok-write_through.ensures.durable c.write_through.ensures.told written durable e.told c.requires.some)

pub returns-clause-durable : goal.returns-clause-durable
returns-clause-durable g c =
    let d = g.D.Disk in
    let e = c.write_through-2.ensures in
    both_ok c.write_through-2.result e.written e.durable (λ written durable.
    new_only d c.args.disk.now c.write_through.new.disk c.write_through-2.new.disk c.args.gate c.args.written.now c.requires.within
    c.in_ok-write_through.ensures.written c.in_ok-write_through.ensures.durable c.write_through.ensures.told written durable e.told)

pub returns-clause-same : goal.returns-clause-same
returns-clause-same g c =
    let mid = c.write_through.new.disk in
    let new = c.write_through-2.new.disk in
    let within = mid_within g.D.Disk c.args.disk.now mid new c.args.gate c.args.written.now c.requires.within c.in_ok-write_through.ensures.written c.in_ok-write_through.ensures.durable c.write_through.ensures.told in
    same_behind g.D.Disk mid new c.args.gate c.args.written.now c.args.gate 1 c.requires.some (λ there told. (within there told, omega (arith, within there told)))
    (omega arith) (omega (arith, c.requires.some)) c.write_through-2.ensures.told (g.met.D.Disk.honest new) c.write_through-2.ensures.left
    ∙ first_same g (goal.at.returns-clause-same g c).After-write_through

module _ (g : _) (c : After-write_through-2 g) (l : Layout Ids State) (s t : State) (log next : Log) (takes : Takes l g.D.Disk.content g.D.Disk.may_leave c.args.disk.now c.args.gate c.args.written.now s t log next) where
  then_finds : (x : List ℕ) → g.D.Disk.content c.write_through.new.disk ≡ Some x → Among (λ bytes. IsEitherLog s log t next (starts l bytes)) (Torn c.args.gate 1 x)
  then_finds =
      gate_finds g.D.Disk l c.args.disk.now c.write_through.new.disk c.write_through-2.new.disk c.args.gate c.args.written.now s t log next takes c.requires.within
      c.in_ok-write_through.ensures.written c.in_ok-write_through.ensures.durable c.write_through.ensures.told

pub returns-clause-left : goal.returns-clause-left
returns-clause-left g c = λ l s t log next takes.
    let d = g.D.Disk in
    let mid = c.write_through.new.disk in
    if_before (d.content c.args.disk.now) (d.content mid) _ c.write_through.ensures.told
    (torn_left d (λ bytes. IsEitherLog s log t next (starts l bytes)) mid c.write_through-2.new.disk (Torn c.args.gate 1) (then_finds g (goal.at.returns-clause-left g c).After-write_through-2 l s t log next takes) c.write_through-2.ensures.left)

pub returns-clause-any_moment : goal.returns-clause-any_moment
returns-clause-any_moment g c = λ l s t log next takes.
    let d = g.D.Disk in
    let x = goal.at.returns-clause-any_moment g c in
    let mid = c.write_through.new.disk in
    let new = c.write_through-2.new.disk in
    let P : List ℕ → Type 0 = λ bytes. IsEitherLog s log t next (starts l bytes) in
    moments_joined d P c.args.disk.now mid new c.write_through.ensures.told (first_moments g x.After-write_through l s t log next takes)
    (moments_of d P mid new (Torn c.args.gate 1) (then_finds g x.After-write_through-2 l s t log next takes) c.write_through-2.ensures.any_moment)
