use Rattle.std.proofs.Common.{◌≡◌, ℕ, ◌+◌, ◌++◌, List, length, drop, Err, ap, ◌∙◌, subst}
use Rattle.adr_law_journal.specs.Log.{body_at, with_length}
use Rattle.adr_journal.specs.Kept.{ids_of}
use Rattle.adr_journal.proofs.Starts.{damage_at, body_bytes, no_body, stops, further}
use Rattle.adr_journal.proofs.replaying.take_record.Goals as goal
use Rattle.adr_journal.proofs.replaying.take_record.Goals.{In-Ok}

pub returns-in_default-clause-damaged : goal.returns-in_default-clause-damaged
returns-in_default-clause-damaged g c =
    let f = g.F.Form in
    let a = c.args.area in
    let gate = c.args.gate in
    let none = subst (λ (l : List ℕ). (p : ℕ) × (body_at (record { place = gate + 1; bytes = l }) ≡ Err p)) c.split_at.ensures.back (c.in_default.ensures.none (gate + 1)) in
    damage_at c.damaged.result gate _ c.damaged.ensures
    (no_body f.head f.area f.following c.args.bytes.now a.second a.place a.version a.first gate c.args.state.now c.requires.reached c.requires.there c.requires.open none.0 none.1)

-- the body stands behind its length
there : (l m body : List ℕ) → l ≡ m → l ≡ with_length body ++ drop (4 + length body) l → m ≡ with_length body ++ drop (4 + length body) m
there l m body is stands = subst (λ (l : List ℕ). l ≡ with_length body ++ drop (4 + length body) l) is stands

pub returns-in-Err-CannotFollow-clause-damaged : goal.returns-in-Err-CannotFollow-clause-damaged
returns-in-Err-CannotFollow-clause-damaged g c =
    let f = g.F.Form in
    let a = c.args.area in
    let body = c.in-Some.body.now in
    damage_at c.damaged-in-Err-CannotFollow.result c.args.gate _ c.damaged-in-Err-CannotFollow.ensures
    (stops f.head f.area f.following c.args.bytes.now a.second a.place a.version a.first c.args.gate c.args.state.now c.requires.reached c.requires.there c.requires.open body (there _ _ body c.split_at.ensures.back c.in-Some.ensures.some.0) c.in-Some.ensures.some.1
    (c.follow.ensures.refused (c.in-Err-CannotFollow.is ∙ ap Err c.in-Err-CannotFollow.field-0-is)))

-- what follows is formed, and has the identifiers of what was before
next : (g : _) (c : In-Ok g) → g.F.Form.is_formed c.follow.new.state × (ids_of c.follow.new.state ≡ ids_of c.args.state.now)
next g c =
    let body = c.in-Some.body.now in
    g.met.F.Form.stays_formed c.args.area.version c.args.state.now c.follow.new.state body (body_bytes c.args.bytes.now body (c.args.gate + 1) (λ i. (c.type_inv.bytes i).fits) (there _ _ body c.split_at.ensures.back c.in-Some.ensures.some.0)) c.requires.formed c.in-Ok.ensures.ok

pub returns-in-Ok-clause-reached : goal.returns-in-Ok-clause-reached
returns-in-Ok-clause-reached g c =
    let f = g.F.Form in
    let a = c.args.area in
    let body = c.in-Some.body.now in
    further f.head f.area f.following c.args.bytes.now a.second a.place a.version a.first c.args.gate c.args.state.now c.requires.reached c.requires.there c.requires.open body (there _ _ body c.split_at.ensures.back c.in-Some.ensures.some.0) c.in-Some.ensures.some.1
    c.follow.new.state c.in-Ok.ensures.ok (next g c).1

pub returns-in-Ok-clause-formed : goal.returns-in-Ok-clause-formed
returns-in-Ok-clause-formed g c = (next g c).0
