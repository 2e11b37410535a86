-- A partial replica that changes over to schema 2 stays what it is: what a schema allows, schema 2 allows, and nothing else changes.
use Rattle.std.proofs.Common.{◌≡◌, ◌∷◌, [], false, inl, inr, cond, sym, ap, ◌∙◌, subst, refl, None, Ok, arith}
use Rattle.std.specs.Prelude.{◌==◌}
use Rattle.std.specs.Bool.{then_some}
use Rattle.std.specs.BTreeMap.{insert_entry}
use Rattle.std.proofs.lemmas.Bool.{le-leb}
use Rattle.adr_values.specs.Order.{identifier_order}
use Rattle.adr_values.specs.Numbered.{numbered}
use Rattle.adr_values.proofs.Extending.{second_is_last}
use Rattle.adr_values.specs.Vector.{at, raised}
use Rattle.adr_model.specs.Store.{State, Store, updates_of}
use Rattle.adr_model.specs.Change.{Change, after}
use Rattle.adr_model.specs.Formed.{IsFormed}
use Rattle.adr_model.specs.Upgrade.{upgraded, upgrade_refusal, upgrade}
use Rattle.adr_model.specs.Replica.{Book}
use Rattle.adr_call.specs.declared.refusal.UpgradeRefusal.TheVariants.{Quarantined, SchemaThere}
use Rattle.adr_values.specs.First.{first_of}
use Rattle.adr_values.proofs.ExactCalls.{not_then}
use Rattle.adr_model.specs.Refusing.{unless}
use Rattle.adr_model.specs.Serve.{is_quarantined}
use Rattle.adr_law_knowledge.proofs.Refusing.{answered, none_there}
use Rattle.adr_law_calls.proofs.More.{rows_formed_more, classes_known_more}
use Rattle.adr_law_calls.proofs.Upgraded.{same_vector}
use Rattle.adr_law_partial.specs.Laws.{IsPart}
use Rattle.adr_law_partial.specs.Partial.{Partial, as_state, partial_after, upgrade_part}
use Rattle.adr_law_partial.specs.Passive.{IsFormedPart, IsPassive, IsSoundPartial}
use Rattle.adr_law_partial.specs.StandsFor.{StandsFor, without_cursor}

-- no USN raises no cursor
same_cursors : (p : Partial) → p.store.usn ≡ 0 → raised p.store.vector p.dsa p.store.usn ≡ p.store.vector
same_cursors p e = ap (raised p.store.vector p.dsa) e ∙ ap (λ b. cond b p.store.vector (insert_entry identifier_order p.store.vector p.dsa 0)) (le-leb 0 (at p.store.vector p.dsa) (omega arith))

-- what isn't refused hasn't schema 2
not_second : (s : State) → upgrade_refusal s ≡ None → (s.store.schema == 2) ≡ false
not_second s none =
    not_then (s.store.schema == 2) (SchemaThere s.store.schema)
    (none_there (then_some (is_quarantined s.mode) Quarantined ∷ then_some (s.store.schema == 2) (SchemaThere s.store.schema) ∷ []) none (then_some (s.store.schema == 2) (SchemaThere s.store.schema)) (inr (inl refl)))

-- what a partial replica that is upgraded writes
changed : (p : Partial) (c : Change) → upgrade_part p ≡ Ok c → upgraded (as_state p) ≡ c
changed p c e = (answered (upgrade_refusal (as_state p)) (upgraded (as_state p)) c e).1

-- it is upgraded where its schema isn't 2
upgrades : (p : Partial) → (p.store.schema == 2) ≡ false → upgrade_part p ≡ Ok (upgraded (as_state p))
upgrades p is = ap (λ b. unless (first_of (then_some b (SchemaThere p.store.schema) ∷ [])) (upgraded (as_state p))) is

stands_then : (p : Partial) (s : State) → StandsFor p s → IsFormed s → StandsFor (partial_after p (upgraded (as_state p))) (after s (upgraded s))
stands_then p s stands formed = record {
  dsa = stands.dsa;
  usn = stands.usn;
  schema = refl;
  rows = stands.rows;
  vector = same_cursors p stands.usn ∙ stands.vector ∙ ap (without_cursor s.inv) (sym (same_vector s formed));
  times = stands.times;
  purged = stands.purged;
  marks = stands.marks;
}

pub stands_upgraded : (p : Partial) (s : State) (c : Change) → StandsFor p s → IsFormed s → upgrade s ≡ Ok c
    → (d : Change) × (upgrade_part p ≡ Ok d) × StandsFor (partial_after p d) (after s c)
stands_upgraded p s c stands formed e =
    let a = answered (upgrade_refusal s) (upgraded s) c e in
    (upgraded (as_state p), upgrades p (ap (λ n. n == 2) stands.schema ∙ not_second s a.0), subst (λ x. StandsFor (partial_after p (upgraded (as_state p))) (after s x)) a.1 (stands_then p s stands formed))

-- the whole store under schema 2
abbrev second : Store → Store
second whole = record whole { schema = 2 }

part_upgraded : (p : Partial) (whole : Store) → IsPart p whole → IsPart (partial_after p (upgraded (as_state p))) (second whole)
part_upgraded p whole part = assumption (same_cursors p part.usn ∙ part.vector, refl)

passive_upgraded : (book : Book) (whole : Store) → IsPassive book whole → IsPassive book (second whole)
passive_upgraded book whole is =
    assumption (
      rows_formed_more (numbered whole.schema) (numbered 2) (second_is_last whole.schema) (updates_of whole.rows) is.base.rows,
      classes_known_more (numbered whole.schema) (numbered 2) (second_is_last whole.schema) (updates_of whole.rows) is.base.classes,
    )

sound_then : (book : Book) (p : Partial) → IsSoundPartial book p → IsSoundPartial book (partial_after p (upgraded (as_state p)))
sound_then book p is = record { whole = second is.whole; passive = passive_upgraded book is.whole is.passive; part = part_upgraded p is.whole is.part }

pub sound_upgraded : (book : Book) (p : Partial) (c : Change) → IsSoundPartial book p → upgrade_part p ≡ Ok c → IsSoundPartial book (partial_after p c)
sound_upgraded book p c is e = subst (λ x. IsSoundPartial book (partial_after p x)) (changed p c e) (sound_then book p is)

formed_then : (p : Partial) → IsFormedPart p → IsFormedPart (partial_after p (upgraded (as_state p)))
formed_then p is = record {
  whole = second is.whole;
  rising = is.rising;
  locals = is.locals;
  alone = is.alone;
  rows = rows_formed_more (numbered is.whole.schema) (numbered 2) (second_is_last is.whole.schema) (updates_of is.whole.rows) is.rows;
  part = part_upgraded p is.whole is.part;
}

pub formed_upgraded : (p : Partial) (c : Change) → IsFormedPart p → upgrade_part p ≡ Ok c → IsFormedPart (partial_after p c)
formed_upgraded p c is e = subst (λ x. IsFormedPart (partial_after p x)) (changed p c e) (formed_then p is)
