use Rattle.std.proofs.Common.{◌≡◌, ℕ, ◌≤◌, List, [], length, IfSome, sym, ◌∙◌, ap, subst, arith}
use Rattle.std.specs.Prelude.{◌↔◌, IsSome}
use Rattle.adr_disk.specs.Disk.{Among, Only}
use Rattle.adr_law_journal.proofs.Told.{at_told, if_told}
use Rattle.adr_journal.proofs.Found.{KeepsDisk, kept_again, same_disk}
use Rattle.adr_gather.specs.Held.{once_written, with_held}
use Rattle.adr_gather.specs.Gathered.{content_of, gathered, images_of}
use Rattle.adr_gather.proofs.Restarted.{looked_only, looked_same, none_beyond, synced_still}
use Rattle.adr_gather.proofs.Viewing.{images_only, none_held, none_only, something_there}
use Rattle.adr_gather.proofs.restarting.write_held.Goals as goal
use Rattle.adr_gather.proofs.restarting.write_held.Goals.{After-reserve, After-settle, In_ok-settle}

-- ---- nothing is held

pub returns-then-is_empty-clause-only : goal.returns-then-is_empty-clause-only
returns-then-is_empty-clause-only g c =
    let d = g.D.Disk in
    let old = c.args.disk.now in
    looked_only d old old c.args.gate c.args.held.now.items c.requires (same_disk d old)

-- ---- there is no such gate

pub returns-in_err-len-clause-same : goal.returns-in_err-len-clause-same
returns-in_err-len-clause-same g c = looked_same g.D.Disk c.args.disk.now c.len.new.self c.args.gate c.args.held.now.items c.len.ensures.keeps

pub returns-in_err-len-clause-only : goal.returns-in_err-len-clause-only
returns-in_err-len-clause-only g c = looked_only g.D.Disk c.args.disk.now c.len.new.self c.args.gate c.args.held.now.items c.requires c.len.ensures.keeps

pub returns-then-len-gate-clause-same : goal.returns-then-len-gate-clause-same
returns-then-len-gate-clause-same g c =
    let d = g.D.Disk in
    let old = c.args.disk.now in
    let new = c.len.new.self in
    ap (λ (h : List ℕ). once_written (d.content new) c.args.gate h) c.clear.ensures.items ∙ none_held (d.content new) c.args.gate ∙ c.len.ensures.keeps.content_stays
    ∙ sym (none_beyond (d.content old) c.args.gate c.args.held.now.items (if_told (d.content old) _ (λ there told. omega (arith, at_told (d.content old) _ there told c.in_ok-len.ensures.len, c.if-len-gate.true))))

pub returns-then-len-gate-clause-durable : goal.returns-then-len-gate-clause-durable
returns-then-len-gate-clause-durable g c =
    let d = g.D.Disk in
    let old = c.args.disk.now in
    let new = c.len.new.self in
    subst (λ o. IfSome o (λ there. Only there (d.may_leave new))) (sym c.len.ensures.keeps.content_stays) (synced_still d old new c.requires c.len.ensures.keeps)

pub returns-then-len-gate-clause-only : goal.returns-then-len-gate-clause-only
returns-then-len-gate-clause-only g c =
    let d = g.D.Disk in
    let old = c.args.disk.now in
    let new = c.len.new.self in
    let far = none_beyond (d.content old) c.args.gate c.args.held.now.items (if_told (d.content old) _ (λ there told. omega (arith, at_told (d.content old) _ there told c.in_ok-len.ensures.len, c.if-len-gate.true))) in
    let only = subst (λ o. IfSome o (λ there. Only there (d.may_leave new))) (sym c.len.ensures.keeps.content_stays) (synced_still d old new c.requires c.len.ensures.keeps) in
    let v = gathered old c.args.gate c.args.held.now.items in
    subst (λ (h : List ℕ). IfSome (content_of d.content v) (λ there. Only there (images_of d.content d.may_leave (gathered new c.args.gate h)))) (sym c.clear.ensures.items)
    (none_only d.content d.may_leave v new c.args.gate (c.len.ensures.keeps.content_stays ∙ sym far) only)

pub returns-then-room-size-clause-same : goal.returns-then-room-size-clause-same
returns-then-room-size-clause-same g c = looked_same g.D.Disk c.args.disk.now c.len.new.self c.args.gate c.args.held.now.items c.len.ensures.keeps

pub returns-then-room-size-clause-only : goal.returns-then-room-size-clause-only
returns-then-room-size-clause-only g c = looked_only g.D.Disk c.args.disk.now c.len.new.self c.args.gate c.args.held.now.items c.requires c.len.ensures.keeps

pub returns-in_err-reserve-clause-same : goal.returns-in_err-reserve-clause-same
returns-in_err-reserve-clause-same g c =
    looked_same g.D.Disk c.args.disk.now c.reserve.new.self c.args.gate c.args.held.now.items (kept_again g.D.Disk c.args.disk.now c.len.new.self c.reserve.new.self c.len.ensures.keeps c.reserve.ensures.keeps)

pub returns-in_err-reserve-clause-only : goal.returns-in_err-reserve-clause-only
returns-in_err-reserve-clause-only g c =
    looked_only g.D.Disk c.args.disk.now c.reserve.new.self c.args.gate c.args.held.now.items c.requires (kept_again g.D.Disk c.args.disk.now c.len.new.self c.reserve.new.self c.len.ensures.keeps c.reserve.ensures.keeps)

-- ---- what is held is written

module _ (g : _) (c : After-reserve g) where
  both_keep : KeepsDisk g.D.Disk c.args.disk.now c.reserve.new.self
  both_keep = kept_again g.D.Disk c.args.disk.now c.len.new.self c.reserve.new.self c.len.ensures.keeps c.reserve.ensures.keeps

pub settle-requires-clause-some : goal.settle-requires-clause-some
settle-requires-clause-some g c =
    let some : 1 ≤ length c.args.held.now.items = something_there c.args.held.now.items _ (omega (arith, c.args.held.now.ok)) (sym c.is_empty.ensures ∙ c.if-is_empty.false) in
    omega (arith, some, ap length c.deref.ensures.value)

pub settle-requires-clause-within : goal.settle-requires-clause-within
settle-requires-clause-within g c = λ there told.
    let d = g.D.Disk in
    let keeps = both_keep g (goal.at.settle-requires-clause-within g c).After-reserve in
    omega (arith, at_told (d.content c.args.disk.now) _ there (sym keeps.content_stays ∙ told) c.in_ok-len.ensures.len, c.if-len-gate.false)

pub settle-requires-clause-synced : goal.settle-requires-clause-synced
settle-requires-clause-synced g c = λ there told bytes left.
    let keeps = both_keep g (goal.at.settle-requires-clause-synced g c).After-reserve in
    c.requires there (sym keeps.content_stays ∙ told) bytes (keeps.no_more bytes left)

module _ (g : _) (c : After-settle g) (keeps : KeepsDisk g.D.Disk c.args.disk.now c.reserve.new.self) where
  told : IsSome (g.D.Disk.content c.settle.new.disk) ↔ IsSome (g.D.Disk.content c.args.disk.now)
  told = subst (λ o. IsSome (g.D.Disk.content c.settle.new.disk) ↔ IsSome o) keeps.content_stays c.settle.ensures.told

  each : IfSome (g.D.Disk.content c.args.disk.now) (λ there. Among (λ bytes. with_held c.args.gate c.args.held.now.items bytes ≡ with_held c.args.gate c.args.held.now.items there) (g.D.Disk.may_leave c.settle.new.disk))
  each =
      subst (λ (h : List ℕ). IfSome (g.D.Disk.content c.args.disk.now) (λ there. Among (λ bytes. with_held c.args.gate h bytes ≡ with_held c.args.gate h there) (g.D.Disk.may_leave c.settle.new.disk))) c.deref.ensures.value
      (subst (λ o. IfSome o (λ there. Among (λ bytes. with_held c.args.gate c.deref.result.now bytes ≡ with_held c.args.gate c.deref.result.now there) (g.D.Disk.may_leave c.settle.new.disk))) keeps.content_stays c.settle.ensures.each)

  same : once_written (g.D.Disk.content c.settle.new.disk) c.args.gate c.args.held.now.items ≡ once_written (g.D.Disk.content c.args.disk.now) c.args.gate c.args.held.now.items
  same =
      subst (λ (h : List ℕ). once_written (g.D.Disk.content c.settle.new.disk) c.args.gate h ≡ once_written (g.D.Disk.content c.args.disk.now) c.args.gate h) c.deref.ensures.value
      (c.settle.ensures.same ∙ ap (λ o. once_written o c.args.gate c.deref.result.now) keeps.content_stays)

pub returns-in_err-settle-clause-told : goal.returns-in_err-settle-clause-told
returns-in_err-settle-clause-told g c = let x = goal.at.returns-in_err-settle-clause-told g c in told g x.After-settle (both_keep g x.After-reserve)

pub returns-in_err-settle-clause-same : goal.returns-in_err-settle-clause-same
returns-in_err-settle-clause-same g c = let x = goal.at.returns-in_err-settle-clause-same g c in same g x.After-settle (both_keep g x.After-reserve)

pub returns-in_err-settle-clause-only : goal.returns-in_err-settle-clause-only
returns-in_err-settle-clause-only g c =
    let d = g.D.Disk in
    let x = goal.at.returns-in_err-settle-clause-only g c in
    let keeps = both_keep g x.After-reserve in
    images_only d.content d.may_leave c.args.disk.now c.settle.new.disk c.args.gate c.args.held.now.items (told g x.After-settle keeps) (each g x.After-settle keeps)

pub returns-clause-told : goal.returns-clause-told
returns-clause-told g c = let x = goal.at.returns-clause-told g c in told g x.After-settle (both_keep g x.After-reserve)

-- what is there then
module _ (g : _) (c : In_ok-settle g) (keeps : KeepsDisk g.D.Disk c.args.disk.now c.reserve.new.self) where
  written : g.D.Disk.content c.settle.new.disk ≡ once_written (g.D.Disk.content c.args.disk.now) c.args.gate c.args.held.now.items
  written =
      subst (λ (h : List ℕ). g.D.Disk.content c.settle.new.disk ≡ once_written (g.D.Disk.content c.args.disk.now) c.args.gate h) c.deref.ensures.value
      (c.in_ok-settle.ensures.written ∙ ap (λ o. once_written o c.args.gate c.deref.result.now) keeps.content_stays)

pub returns-clause-same : goal.returns-clause-same
returns-clause-same g c =
    let d = g.D.Disk in
    let x = goal.at.returns-clause-same g c in
    ap (λ (h : List ℕ). once_written (d.content c.settle.new.disk) c.args.gate h) c.clear-2.ensures.items ∙ none_held (d.content c.settle.new.disk) c.args.gate ∙ written g x.In_ok-settle (both_keep g x.After-reserve)

pub returns-clause-only : goal.returns-clause-only
returns-clause-only g c =
    let d = g.D.Disk in
    let x = goal.at.returns-clause-only g c in
    let v = gathered c.args.disk.now c.args.gate c.args.held.now.items in
    let new = c.settle.new.disk in
    subst (λ (h : List ℕ). IfSome (content_of d.content v) (λ there. Only there (images_of d.content d.may_leave (gathered new c.args.gate h)))) (sym c.clear-2.ensures.items)
    (none_only d.content d.may_leave v new c.args.gate (written g x.In_ok-settle (both_keep g x.After-reserve)) c.in_ok-settle.ensures.durable)
