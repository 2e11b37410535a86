use Rattle.std.proofs.Common.{◌≡◌, ℕ, ◌+◌, ◌≤◌, List, [], length, IfSome, sym, ◌∙◌, ap, subst, arith}
use Rattle.std.proofs.lemmas.Bool.{eqb-true}
use Rattle.adr_disk.specs.Disk.{Among, Only}
use Rattle.adr_disk.proofs.Moments.{started}
use Rattle.adr_model.specs.Store.{State}
use Rattle.adr_model.specs.Lengths.{Log}
use Rattle.adr_law_journal.specs.Kept.{Layout, starts}
use Rattle.adr_law_journal.proofs.Told.{if_told}
use Rattle.adr_journal.specs.Kept.{Ids}
use Rattle.adr_journal.specs.Written.{IsEitherLog}
use Rattle.adr_gather.specs.Gathered.{Holds, content_of, gathered, images_of}
use Rattle.adr_gather.specs.Held.{once_written, with_held}
use Rattle.adr_gather.specs.Taken.{Takes}
use Rattle.adr_gather.proofs.Viewing.{base_finds, each_only, holds_settled, holds_takes, images_only, none_held, none_only, nothing_there, something_there}
use Rattle.adr_gather.proofs.settling.settle_all.Goals as goal
use Rattle.adr_gather.proofs.settling.settle_all.Goals.{After-settle, In_ok-settle}

-- ---- nothing is held

pub returns-then-is_empty-clause-settled : goal.returns-then-is_empty-clause-settled
returns-then-is_empty-clause-settled g c = λ l s log h.
    let k = c.args.held.now in
    holds_settled g.D.Disk.content g.D.Disk.may_leave l (gathered c.args.disk.now c.args.gate.now k.items) s log (nothing_there k.items (omega (arith, eqb-true _ 0 (sym c.is_empty.ensures ∙ c.if-is_empty.true), k.ok))) h

pub returns-then-is_empty-clause-only : goal.returns-then-is_empty-clause-only
returns-then-is_empty-clause-only g c =
    let d = g.D.Disk in
    let old = c.args.disk.now in
    images_only d.content d.may_leave old old c.args.gate.now c.args.held.now.items (λ is. is, λ is. is)
    (each_only d.content d.may_leave old old c.args.gate.now c.args.held.now.items (if_told (d.content old) (λ there. Only there (d.may_leave old)) (λ there told. c.requires.synced there told)))

pub returns-then-is_empty-clause-left : goal.returns-then-is_empty-clause-left
returns-then-is_empty-clause-left g c = λ l s log h.
    let d = g.D.Disk in
    let v = gathered c.args.disk.now c.args.gate.now c.args.held.now.items in
    if_told (d.content c.args.disk.now) _ (λ there told. base_finds d.content d.may_leave l v s log h there told)

pub returns-then-is_empty-clause-any_moment : goal.returns-then-is_empty-clause-any_moment
returns-then-is_empty-clause-any_moment g c = λ l s log h.
    let d = g.D.Disk in
    let old = c.args.disk.now in
    let v = gathered old c.args.gate.now c.args.held.now.items in
    if_told (d.content old) _ (λ there told.
    started d.moment d.left_since old (λ bytes. IsEitherLog h.base.state h.base.log s log (starts l bytes))
    (λ bytes left. base_finds d.content d.may_leave l v s log h there told bytes (g.met.D.Disk.only_now old bytes left)))

-- ---- something is held

module _ (g : _) (c : After-settle g) where
  held_same : c.deref.result.now ≡ c.args.held.now.items
  held_same = c.deref.ensures.value

  each : IfSome (g.D.Disk.content c.args.disk.now) (λ there. Among (λ bytes. with_held c.args.gate.now c.args.held.now.items bytes ≡ with_held c.args.gate.now c.args.held.now.items there) (g.D.Disk.may_leave c.settle.new.disk))
  each =
      subst (λ (h : List ℕ). IfSome (g.D.Disk.content c.args.disk.now) (λ there. Among (λ bytes. with_held c.args.gate.now h bytes ≡ with_held c.args.gate.now h there) (g.D.Disk.may_leave c.settle.new.disk))) held_same c.settle.ensures.each

  module _ (some : 1 ≤ length c.args.held.now.items) (l : Layout Ids State) (s : State) (log : Log) (h : Holds l g.D.Disk.content g.D.Disk.may_leave (gathered c.args.disk.now c.args.gate.now c.args.held.now.items) s log) where
    takes : Takes l g.D.Disk.content g.D.Disk.may_leave c.args.disk.now c.args.gate.now c.deref.result.now h.base.state s h.base.log log
    takes =
        subst (λ (w : List ℕ). Takes l g.D.Disk.content g.D.Disk.may_leave c.args.disk.now c.args.gate.now w h.base.state s h.base.log log) (sym held_same)
        (holds_takes g.D.Disk.content g.D.Disk.may_leave l (gathered c.args.disk.now c.args.gate.now c.args.held.now.items) s log some h)

pub returns-in_err-settle-clause-same : goal.returns-in_err-settle-clause-same
returns-in_err-settle-clause-same g c =
    let d = g.D.Disk in
    subst (λ (h : List ℕ). once_written (d.content c.settle.new.disk) c.args.gate.now h ≡ once_written (d.content c.args.disk.now) c.args.gate.now h) c.deref.ensures.value c.settle.ensures.same

pub returns-in_err-settle-clause-only : goal.returns-in_err-settle-clause-only
returns-in_err-settle-clause-only g c =
    let d = g.D.Disk in
    images_only d.content d.may_leave c.args.disk.now c.settle.new.disk c.args.gate.now c.args.held.now.items c.settle.ensures.told (each g (goal.at.returns-in_err-settle-clause-only g c).After-settle)

pub returns-in_err-settle-clause-left : goal.returns-in_err-settle-clause-left
returns-in_err-settle-clause-left g c = λ l s log h.
    let some : 1 ≤ length c.args.held.now.items = something_there c.args.held.now.items _ (omega (arith, c.args.held.now.ok)) (sym c.is_empty.ensures ∙ c.if-is_empty.false) in
    c.settle.ensures.left l h.base.state s h.base.log log (takes g (goal.at.returns-in_err-settle-clause-left g c).After-settle some l s log h)

pub returns-in_err-settle-clause-any_moment : goal.returns-in_err-settle-clause-any_moment
returns-in_err-settle-clause-any_moment g c = λ l s log h.
    let some : 1 ≤ length c.args.held.now.items = something_there c.args.held.now.items _ (omega (arith, c.args.held.now.ok)) (sym c.is_empty.ensures ∙ c.if-is_empty.false) in
    c.settle.ensures.any_moment l h.base.state s h.base.log log (takes g (goal.at.returns-in_err-settle-clause-any_moment g c).After-settle some l s log h)

pub settle-requires-clause-some : goal.settle-requires-clause-some
settle-requires-clause-some g c =
    let some : 1 ≤ length c.args.held.now.items = something_there c.args.held.now.items _ (omega (arith, c.args.held.now.ok)) (sym c.is_empty.ensures ∙ c.if-is_empty.false) in
    omega (arith, some, ap length c.deref.ensures.value)

-- where it passes, nothing is held
module _ (g : _) (c : In_ok-settle g) where
  written : g.D.Disk.content c.settle.new.disk ≡ once_written (g.D.Disk.content c.args.disk.now) c.args.gate.now c.args.held.now.items
  written = subst (λ (h : List ℕ). g.D.Disk.content c.settle.new.disk ≡ once_written (g.D.Disk.content c.args.disk.now) c.args.gate.now h) c.deref.ensures.value c.in_ok-settle.ensures.written

pub returns-clause-settled : goal.returns-clause-settled
returns-clause-settled g c = λ l s log h.
    let x = goal.at.returns-clause-settled g c in
    let some : 1 ≤ length c.args.held.now.items = something_there c.args.held.now.items _ (omega (arith, c.args.held.now.ok)) (sym c.is_empty.ensures ∙ c.if-is_empty.false) in
    c.in_ok-settle.ensures.settled l h.base.state s h.base.log log (takes g x.After-settle some l s log h)

pub returns-clause-same : goal.returns-clause-same
returns-clause-same g c =
    let d = g.D.Disk in
    ap (λ (h : List ℕ). once_written (d.content c.settle.new.disk) (c.args.gate.now + c.len-size.result) h) c.clear.ensures.items ∙ none_held (d.content c.settle.new.disk) (c.args.gate.now + c.len-size.result) ∙ written g (goal.at.returns-clause-same g c).In_ok-settle

pub returns-clause-only : goal.returns-clause-only
returns-clause-only g c =
    let d = g.D.Disk in
    let v = gathered c.args.disk.now c.args.gate.now c.args.held.now.items in
    let new = c.settle.new.disk in
    subst (λ (h : List ℕ). IfSome (content_of d.content v) (λ there. Only there (images_of d.content d.may_leave (gathered new (c.args.gate.now + c.len-size.result) h)))) (sym c.clear.ensures.items)
    (none_only d.content d.may_leave v new (c.args.gate.now + c.len-size.result) (written g (goal.at.returns-clause-only g c).In_ok-settle) c.in_ok-settle.ensures.durable)

pub returns-clause-left : goal.returns-clause-left
returns-clause-left g c = λ l s log h.
    let some : 1 ≤ length c.args.held.now.items = something_there c.args.held.now.items _ (omega (arith, c.args.held.now.ok)) (sym c.is_empty.ensures ∙ c.if-is_empty.false) in
    c.settle.ensures.left l h.base.state s h.base.log log (takes g (goal.at.returns-clause-left g c).After-settle some l s log h)

pub returns-clause-any_moment : goal.returns-clause-any_moment
returns-clause-any_moment g c = λ l s log h.
    let some : 1 ≤ length c.args.held.now.items = something_there c.args.held.now.items _ (omega (arith, c.args.held.now.ok)) (sym c.is_empty.ensures ∙ c.if-is_empty.false) in
    c.settle.ensures.any_moment l h.base.state s h.base.log log (takes g (goal.at.returns-clause-any_moment g c).After-settle some l s log h)
