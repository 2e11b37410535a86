use Rattle.std.proofs.Common.{◌∙◌, drop, subst, sym}
use Rattle.adr_values.specs.declared.failure.Failure.{Failure}
use Rattle.adr_wire.specs.declared.refusal.Malformed.{Malformed}
use Rattle.adr_wire.specs.Reading.{Refuses, Rest, TellsAs}
use Rattle.adr_wire.proofs.Combining.{from}
use Rattle.adr_records.specs.Head.{front_at}
use Rattle.adr_records.proofs.Heads.{front_said, no_front}
use Rattle.adr_records.proofs.head.read_front.Goals as goal

pub returns-then-is_empty-clause-err : goal.returns-then-is_empty-clause-err
returns-then-is_empty-clause-err c =
    subst (λ (e : Failure Malformed). Refuses e (front_at (from 1 (drop 1 c.args.bytes.now)))) (sym c.malformed.ensures)
    (no_front c.args.bytes.now (sym c.is_empty.ensures ∙ c.if-is_empty.true))

pub returns-clause-ok : goal.returns-clause-ok
returns-clause-ok c =
    (front_said (λ o. (o.dsa, o.inv)) c.read_owner.result c.args.bytes.now c.read_owner.new.reader (λ i. (c.type_inv.bytes i).fits)
    (subst (λ (r : Rest). TellsAs (λ o. (o.dsa, o.inv)) c.read_owner.result c.read_owner.new.reader (front_at r)) c.at-reader.ensures c.read_owner.ensures)).0

pub returns-clause-err : goal.returns-clause-err
returns-clause-err c =
    (front_said (λ o. (o.dsa, o.inv)) c.read_owner.result c.args.bytes.now c.read_owner.new.reader (λ i. (c.type_inv.bytes i).fits)
    (subst (λ (r : Rest). TellsAs (λ o. (o.dsa, o.inv)) c.read_owner.result c.read_owner.new.reader (front_at r)) c.at-reader.ensures c.read_owner.ensures)).1
