use Rattle.std.proofs.Common.{◌≡◌, ◌≤◌, ◌<◌, ℕ, ◌+◌, ◌++◌, List, length, take, drop, Err, ap, sym, ◌∙◌, subst, arith, length-take}
use Rattle.adr_wire.specs.Fields.{u32_at}
use Rattle.adr_wire.specs.Reading.{Names}
use Rattle.adr_wire.specs.declared.refusal.Malformed.{Malformed}
use Rattle.adr_values.specs.declared.failure.Failure.{Failure}
use Rattle.adr_values.specs.declared.failure.Failure.TheVariants.{Refused, NoMemory}
use Rattle.adr_law_journal.specs.Log.{body_at, with_length}
use Rattle.adr_law_journal.proofs.Replays.{no_length, length_read, no_room, body_read}
use Rattle.adr_journal.proofs.replaying.body_of.Goals as goal

no_body : (e : Failure Malformed) (place : ℕ) (bytes : List ℕ) → Names e (u32_at (record { place = 0; bytes = bytes })) → (q : ℕ) × (body_at (record { place = place; bytes = bytes }) ≡ Err q)
no_body (Refused malformed) place bytes named = no_length malformed.place bytes named place
no_body NoMemory place bytes named = absurd named

pub returns-in-Err-clause-none : goal.returns-in-Err-clause-none
returns-in-Err-clause-none c = λ place.
    no_body c.in-Err.field-0 place c.args.bytes.now (subst (λ r. Names c.in-Err.field-0 (u32_at r)) c.new-reader.ensures c.in-Err.ensures)

pub split_at-requires : goal.split_at-requires
split_at-requires c = (length_read c.args.bytes.now c.in-Ok.len c.read_u32.new.self (λ i. (c.type_inv.bytes i).fits) (ap u32_at (sym c.new-reader.ensures) ∙ c.in-Ok.ensures)).0

pub returns-then-rest-len-clause-none : goal.returns-then-rest-len-clause-none
returns-then-rest-len-clause-none c =
    let l = length_read c.args.bytes.now c.in-Ok.len c.read_u32.new.self (λ i. (c.type_inv.bytes i).fits) (ap u32_at (sym c.new-reader.ensures) ∙ c.in-Ok.ensures) in
    no_room c.args.bytes.now c.in-Ok.len l.1 l.2 (subst (λ (x : List ℕ). length x < c.in-Ok.len) c.split_at.ensures.back c.if-rest-len.true)

pub returns-clause-some : goal.returns-clause-some
returns-clause-some c =
    let l = length_read c.args.bytes.now c.in-Ok.len c.read_u32.new.self (λ i. (c.type_inv.bytes i).fits) (ap u32_at (sym c.new-reader.ensures) ∙ c.in-Ok.ensures) in
    let enough = subst (λ (x : List ℕ). c.in-Ok.len ≤ length x) c.split_at.ensures.back c.if-rest-len.false in
    let is : c.split_at-2.result.0.now ≡ take c.in-Ok.len (drop 4 c.args.bytes.now) = c.split_at-2.ensures.front ∙ ap (take c.in-Ok.len) c.split_at.ensures.back in (
      subst (λ (b : List ℕ). c.args.bytes.now ≡ with_length b ++ drop (4 + length b) c.args.bytes.now) (sym is) (body_read c.args.bytes.now c.in-Ok.len l.2 enough),
      omega (arith, l.1, ap length is, length-take c.in-Ok.len (drop 4 c.args.bytes.now)),
    )
