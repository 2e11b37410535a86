use Rattle.std.proofs.Common.{◌≡◌, ℕ, List, [], ◌∷◌, length, Some, sym, ◌∙◌, ap, subst, arith}
use Rattle.adr_disk.specs.Disk.{Among, Torn, Only}
use Rattle.adr_model.specs.Store.{State}
use Rattle.adr_model.specs.Lengths.{Log}
use Rattle.adr_law_journal.specs.Log.{open_gate}
use Rattle.adr_law_journal.specs.Kept.{Layout, Rests}
use Rattle.adr_law_journal.proofs.Told.{both_ok}
use Rattle.adr_journal.specs.Kept.{Ids}
use Rattle.adr_gather.proofs.Steps.{Leaves, if_before, torn_left, moments_joined, moments_of, stepped, second_is, third_is, None_at, tears_first, tears_second, tears_third}
use Rattle.adr_gather.proofs.beginning.write_log.Goals as goal
use Rattle.adr_gather.proofs.beginning.write_log.Goals.{After-write_through, In_ok-write_through, After-write_through-2, In_ok-write_through-2}

-- ---- the closed gate

module _ (g : _) (c : After-write_through g) (l : Layout Ids State) (s : State) (log : Log) where
  first_moments : Leaves g.D.Disk (None_at l s log) c.args.disk.now c.write_through.new.disk
  first_moments = moments_of g.D.Disk (None_at l s log) c.args.disk.now c.write_through.new.disk (Torn 0 1) (λ x told. tears_first l s log x (c.requires.empty x told)) c.write_through.ensures.any_moment

-- where it passes, it stands alone
module _ (g : _) (c : In_ok-write_through g) where
  gate_there : (x : List ℕ) → g.D.Disk.content c.write_through.new.disk ≡ Some x → (x ≡ 0 ∷ []) × Only x (g.D.Disk.may_leave c.write_through.new.disk)
  gate_there = stepped g.D.Disk c.args.disk.now c.write_through.new.disk [] 0 (0 ∷ []) c.requires.empty c.in_ok-write_through.ensures.written c.in_ok-write_through.ensures.durable c.write_through.ensures.told

pub write_through-requires-2-clause-within : goal.write_through-requires-2-clause-within
write_through-requires-2-clause-within g c = λ x told. let gate = gate_there g (goal.at.write_through-requires-2-clause-within g c).In_ok-write_through x told in omega (arith, ap length gate.0)

pub write_through-requires-2-clause-synced : goal.write_through-requires-2-clause-synced
write_through-requires-2-clause-synced g c = λ x told. (gate_there g (goal.at.write_through-requires-2-clause-synced g c).In_ok-write_through x told).1

pub returns-in_err-write_through-clause-left : goal.returns-in_err-write_through-clause-left
returns-in_err-write_through-clause-left g c = λ l s log rests.
    torn_left g.D.Disk (None_at l s log) c.args.disk.now c.write_through.new.disk (Torn 0 1) (λ x told. tears_first l s log x (c.requires.empty x told)) c.write_through.ensures.left

pub returns-in_err-write_through-clause-any_moment : goal.returns-in_err-write_through-clause-any_moment
returns-in_err-write_through-clause-any_moment g c = λ l s log rests. first_moments g (goal.at.returns-in_err-write_through-clause-any_moment g c).After-write_through l s log

-- ---- the rest behind it

module _ (g : _) (c : After-write_through-2 g) (stood : (x : List ℕ) → g.D.Disk.content c.write_through.new.disk ≡ Some x → (x ≡ 0 ∷ []) × Only x (g.D.Disk.may_leave c.write_through.new.disk)) (l : Layout Ids State) (s : State) (log : Log) where
  second_finds : (x : List ℕ) → g.D.Disk.content c.write_through.new.disk ≡ Some x → Among (None_at l s log) (Torn 1 (length c.args.written.now) x)
  second_finds x told = tears_second l s log (length c.args.written.now) x (stood x told).0

  second_moments : Leaves g.D.Disk (None_at l s log) c.write_through.new.disk c.write_through-2.new.disk
  second_moments = moments_of g.D.Disk (None_at l s log) c.write_through.new.disk c.write_through-2.new.disk (Torn 1 (length c.args.written.now)) second_finds c.write_through-2.ensures.any_moment

module _ (g : _) (c : In_ok-write_through-2 g) (stood : (x : List ℕ) → g.D.Disk.content c.write_through.new.disk ≡ Some x → (x ≡ 0 ∷ []) × Only x (g.D.Disk.may_leave c.write_through.new.disk)) where
  all_there : (x : List ℕ) → g.D.Disk.content c.write_through-2.new.disk ≡ Some x → (x ≡ 0 ∷ c.args.written.now) × Only x (g.D.Disk.may_leave c.write_through-2.new.disk)
  all_there x told =
      let both = stepped g.D.Disk c.write_through.new.disk c.write_through-2.new.disk (0 ∷ []) 1 c.args.written.now (λ x told. (stood x told).0) c.in_ok-write_through-2.ensures.written c.in_ok-write_through-2.ensures.durable c.write_through-2.ensures.told x told in
      (both.0 ∙ second_is c.args.written.now, both.1)

pub write_through-requires-3-clause-synced : goal.write_through-requires-3-clause-synced
write_through-requires-3-clause-synced g c = λ x told.
    let p = goal.at.write_through-requires-3-clause-synced g c in (all_there g p.In_ok-write_through-2 (gate_there g p.In_ok-write_through) x told).1

pub returns-in_err-write_through-2-clause-left : goal.returns-in_err-write_through-2-clause-left
returns-in_err-write_through-2-clause-left g c = λ l s log rests.
    let d = g.D.Disk in
    let p = goal.at.returns-in_err-write_through-2-clause-left g c in
    let first = c.write_through.new.disk in
    if_before (d.content c.args.disk.now) (d.content first) _ c.write_through.ensures.told
    (torn_left d (None_at l s log) first c.write_through-2.new.disk (Torn 1 (length c.args.written.now)) (second_finds g p.After-write_through-2 (gate_there g p.In_ok-write_through) l s log) c.write_through-2.ensures.left)

pub returns-in_err-write_through-2-clause-any_moment : goal.returns-in_err-write_through-2-clause-any_moment
returns-in_err-write_through-2-clause-any_moment g c = λ l s log rests.
    let p = goal.at.returns-in_err-write_through-2-clause-any_moment g c in
    moments_joined g.D.Disk (None_at l s log) c.args.disk.now c.write_through.new.disk c.write_through-2.new.disk c.write_through.ensures.told
    (first_moments g p.After-write_through l s log) (second_moments g p.After-write_through-2 (gate_there g p.In_ok-write_through) l s log)

-- ---- the open gate

pub returns-clause-left : goal.returns-clause-left
returns-clause-left g c = λ l s log rests.
    let d = g.D.Disk in
    let p = goal.at.returns-clause-left g c in
    let first = c.write_through.new.disk in
    let second = c.write_through-2.new.disk in
    let stood = all_there g p.In_ok-write_through-2 (gate_there g p.In_ok-write_through) in
    if_before (d.content c.args.disk.now) (d.content first) _ c.write_through.ensures.told
    (if_before (d.content first) (d.content second) _ c.write_through-2.ensures.told
    (torn_left d (None_at l s log) second c.write_through-3.new.disk (Torn 0 1) (λ x told. tears_third l s log c.args.written.now x rests (stood x told).0) c.write_through-3.ensures.left))

pub returns-clause-any_moment : goal.returns-clause-any_moment
returns-clause-any_moment g c = λ l s log rests.
    let d = g.D.Disk in
    let P = None_at l s log in
    let p = goal.at.returns-clause-any_moment g c in
    let first = c.write_through.new.disk in
    let second = c.write_through-2.new.disk in
    let third = c.write_through-3.new.disk in
    let gate = gate_there g p.In_ok-write_through in
    let stood = all_there g p.In_ok-write_through-2 gate in
    moments_joined d P c.args.disk.now first third c.write_through.ensures.told (first_moments g p.After-write_through l s log)
    (moments_joined d P first second third c.write_through-2.ensures.told (second_moments g p.After-write_through-2 gate l s log)
    (moments_of d P second third (Torn 0 1) (λ x told. tears_third l s log c.args.written.now x rests (stood x told).0) c.write_through-3.ensures.any_moment))

pub returns-clause-settled : goal.returns-clause-settled
returns-clause-settled g c =
    let d = g.D.Disk in
    let e = c.write_through-3.ensures in
    let p = goal.at.returns-clause-settled g c in
    let stood = all_there g p.In_ok-write_through-2 (gate_there g p.In_ok-write_through) in
    both_ok c.write_through-3.result e.written e.durable (λ written durable l s log rests.
    let last = stepped d c.write_through-2.new.disk c.write_through-3.new.disk (0 ∷ c.args.written.now) 0 (open_gate ∷ []) (λ x told. (stood x told).0) written durable e.told in
    record {
      at_rest = λ y told. subst (λ (z : List ℕ). Rests l s log z) (sym ((last y told).0 ∙ third_is c.args.written.now)) rests;
      synced = λ y told. (last y told).1;
    })
