use Rattle.std.proofs.Common.{drop, arith}
use Rattle.adr_journal.proofs.Starts.{damage_at, dropped_bytes, short_at_0, wrong_at_0, owned}
use Rattle.adr_journal.proofs.replaying.read_owner.Goals as goal

pub returns-then-bytes-lt2-clause-damaged : goal.returns-then-bytes-lt2-clause-damaged
returns-then-bytes-lt2-clause-damaged g c =
    let f = g.F.Form in
    damage_at c.damaged.result 0 _ c.damaged.ensures (short_at_0 f.head f.area f.following c.args.bytes.now c.if-bytes-lt2.true)

pub returns-then-bytes-clause-damaged : goal.returns-then-bytes-clause-damaged
returns-then-bytes-clause-damaged g c =
    let f = g.F.Form in
    damage_at c.damaged-then-bytes.result 0 _ c.damaged-then-bytes.ensures (wrong_at_0 f.head f.area f.following c.args.bytes.now c.if-bytes.true)

pub returns-in-Ok-clause-owned : goal.returns-in-Ok-clause-owned
returns-in-Ok-clause-owned g c =
    let f = g.F.Form in
    let bytes = c.args.bytes.now in
    let o = c.in-Ok.owner in
    let read = g.met.F.Form.head_read (drop 1 bytes) (o.dsa, o.inv) _ (dropped_bytes bytes 1 (λ i. (c.type_inv.bytes i).fits)) c.in-Ok.ensures.ok in
    owned f.head f.area f.following bytes (o.dsa, o.inv) (omega (arith, c.if-bytes-lt2.false)) c.if-bytes.false read.0
