use Rattle.std.proofs.Common.{◌≡◌, ◌≤◌, drop, subst}
use Rattle.adr_wire.specs.Reading.{Refuses}
use Rattle.adr_model.specs.Lengths.{area_version}
use Rattle.adr_journal.specs.Kept.{ids_of}
use Rattle.adr_journal.proofs.Starts.{dropped_bytes, begins, no_area}
use Rattle.adr_journal.proofs.replaying.read_first.Goals as goal
use Rattle.adr_journal.proofs.replaying.read_first.Goals.{In-Ok}

-- what the area begins with
began : (g : _) (c : In-Ok g)
    → g.F.Form.is_formed c.in-Ok.field-0.state × (ids_of c.in-Ok.field-0.state ≡ (c.in_ok-owner.owner.dsa, c.in_ok-owner.owner.inv)) × (c.in-Ok.field-0.version ≤ area_version)
began g c =
    let place = c.in_ok-second.place in
    let o = c.in_ok-owner.owner in
    let owned = c.in_ok-owner.ensures.owned in
    g.met.F.Form.area_formed place owned.front (o.dsa, o.inv) (drop place c.args.bytes.now) _ _ owned.is_head (dropped_bytes c.args.bytes.now place (λ i. (c.type_inv.bytes i).fits)) c.in-Ok.ensures.ok

pub returns-in-Ok-clause-reached : goal.returns-in-Ok-clause-reached
returns-in-Ok-clause-reached g c =
    let f = g.F.Form in
    let place = c.in_ok-second.place in
    let o = c.in_ok-owner.owner in
    let r = c.in-Ok.field-0 in
    let was = g.met.F.Form.area_read place (o.dsa, o.inv) (drop place c.args.bytes.now) _ _ (dropped_bytes c.args.bytes.now place (λ i. (c.type_inv.bytes i).fits)) c.in-Ok.ensures.ok in
    begins f.head f.area f.following c.args.bytes.now (o.dsa, o.inv) c.in_ok-owner.ensures.owned c.in_ok-second.second place c.in_ok-second.ensures.named (record { version = r.version; state = r.state }) r.first was (began g c).1

pub returns-in-Ok-clause-formed : goal.returns-in-Ok-clause-formed
returns-in-Ok-clause-formed g c = (began g c).0

pub returns-in-Ok-clause-version : goal.returns-in-Ok-clause-version
returns-in-Ok-clause-version g c = (began g c).2

pub returns-in-Err-Refused-clause-damaged : goal.returns-in-Err-Refused-clause-damaged
returns-in-Err-Refused-clause-damaged g c =
    let f = g.F.Form in
    let o = c.in_ok-owner.owner in
    let place = c.in_ok-second.place in
    let refused = subst (λ e. Refuses e (f.area (o.dsa, o.inv) (record { place = place; bytes = drop place c.args.bytes.now }))) c.in-Err-Refused.field-0-is c.in-Err-Refused.ensures.err in
    no_area f.head f.area f.following c.args.bytes.now (o.dsa, o.inv) c.in_ok-owner.ensures.owned c.in_ok-second.second place c.in_ok-second.ensures.named c.in-Err-Refused.malformed.place refused
