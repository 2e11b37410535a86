use Rattle.std.proofs.Common.{◌≡◌, inr, ◌+◌, ◌-◌, ℕ, List, length, sym, ◌∙◌, ap, subst, arith}
use Rattle.adr_model.specs.Store.{State}
use Rattle.adr_model.specs.Change.{Change, after}
use Rattle.adr_model.specs.Lengths.{Log}
use Rattle.adr_law_journal.specs.Areas.{Found}
use Rattle.adr_journal.specs.Ended.{found_after}
use Rattle.adr_journal.specs.Written.{TakesBoth}
use Rattle.adr_journal.proofs.Prepared.{IsReadyFor, layout, mid, next_at, record_within, takes_both}
use Rattle.adr_test_plain.specs.Kept.{told_as, StaysAs, IsAtBytes, IsNext}
use Rattle.adr_test_plain.specs.Laws.{log_tells}
use Rattle.adr_test_plain.proofs.InMemory.{ready_for}
use Rattle.adr_test_plain.proofs.PlainKeeper.commit.Given.{Over}
use Rattle.adr_test_plain.proofs.PlainKeeper.commit.Goals as goal

module _ (g : Over) (capacity : ℕ) (bytes : List ℕ) (log next : Log) (area written : List ℕ) (f : Found State) (c : Change) (at : IsAtBytes g.F.Form.head g.F.Form.area g.F.Form.following bytes log f)
    (is_next : IsNext capacity bytes log next area written (g.F.Form.area_of f.state) (g.F.Form.body_of c) f.state c) (can : g.F.Form.can_follow f.state c) where
  -- what it is ready for
  ready : IsReadyFor g.F.Form.head g.F.Form.area g.F.Form.following told_as StaysAs (λ there. 9) (λ there. length area + 9 + length written + 1) bytes log next area written (g.F.Form.area_of f.state) (g.F.Form.body_of c) f c
  ready =
      let form = g.F.Form in
      let law = g.met.F.Form in
      ready_for form.head form.area form.following capacity bytes log next area written (form.area_of f.state) (form.body_of c) f c
      at is_next (law.body_follows f.state c can) (law.body_length f.state c can) (λ short place. law.tells_area place f.state (law.begins_anew f.state c can) short) (λ short. law.area_length f.state (law.begins_anew f.state c can))

  takes : (put_area put_written : List ℕ) → put_area ≡ area → put_written ≡ written
      → TakesBoth (layout ready) told_as StaysAs bytes put_area next (next.log_end - length put_written) put_written f.state (after f.state c) log (mid ready) (g.F.Form.body_of c)
  takes put_area put_written is_area is_written =
      let body = g.F.Form.body_of c in
      let t = after f.state c in
      subst (λ (w : List ℕ). TakesBoth (layout ready) told_as StaysAs bytes put_area next (next.log_end - length w) w f.state t log (mid ready) body) (sym is_written)
      (subst (λ (a : List ℕ). TakesBoth (layout ready) told_as StaysAs bytes a next (next.log_end - length written) written f.state t log (mid ready) body) (sym is_area) (takes_both ready))

pub put_commit-requires-clause-takes : goal.put_commit-requires-clause-takes
put_commit-requires-clause-takes g c =
    let p = c.requires.prepared in
    let k = c.args.self.now in
    let change = p.1 in
    let r = ready g _ k.bytes.items k.log k.next k.area.items k.prepared.items p.0 change p.2 p.3 p.4 in
    (layout r, p.0.state, after p.0.state change, k.log, mid r, g.F.Form.body_of change, takes g _ k.bytes.items k.log k.next k.area.items k.prepared.items p.0 change p.2 p.3 p.4 c.deref.result.now c.deref-2.result.now c.deref.ensures.value c.deref-2.ensures.value)

pub put_commit-requires-clause-begun : goal.put_commit-requires-clause-begun
put_commit-requires-clause-begun g c =
    let p = c.requires.prepared in
    let k = c.args.self.now in
    omega (arith, record_within (ready g _ k.bytes.items k.log k.next k.area.items k.prepared.items p.0 p.1 p.2 p.3 p.4), ap length c.deref-2.ensures.value)

pub returns-clause-ok : goal.returns-clause-ok
returns-clause-ok g c = λ f change at is_next can.
    let k = c.args.self.now in
    let r = ready g _ k.bytes.items k.log k.next k.area.items k.prepared.items f change at is_next can in
    let both = takes g _ k.bytes.items k.log k.next k.area.items k.prepared.items f change at is_next can c.deref.result.now c.deref-2.result.now c.deref.ensures.value c.deref-2.ensures.value in
    next_at r c.put_commit.new.bytes.items (c.put_commit.ensures (layout r) f.state (after f.state change) k.log (mid r) (g.F.Form.body_of change) both)

pub returns-clause-any_moment : goal.returns-clause-any_moment
returns-clause-any_moment g c = λ f change at is_next can.
    let form = g.F.Form in
    let after_it = found_after f change in
    let tells = log_tells form.head form.area form.following c.put_commit.new.bytes.items c.args.self.now.next after_it (returns-clause-ok g c f change at is_next can) in
    record { later = omega arith; each = λ t left. inr (after_it.log, left ∙ tells); before = λ n t le left. inr (inr (after_it.log, left ∙ tells)) }

pub returns-clause-left : goal.returns-clause-left
returns-clause-left g c = λ f change at is_next can t left.
    let form = g.F.Form in
    let after_it = found_after f change in
    inr (after_it.log, left ∙ log_tells form.head form.area form.following c.put_commit.new.bytes.items c.args.self.now.next after_it (returns-clause-ok g c f change at is_next can))
