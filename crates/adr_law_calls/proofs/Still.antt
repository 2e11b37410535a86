-- A quarantine can follow a formed state, and a controller that is made of a formed image is formed.
use Rattle.std.proofs.Common.{◌≡◌, inl, inr, cond, ◌==◌, ℕ, ◌≤◌, [], ◌∷◌, Bool, true, false, ◌||◌, refl, sym, subst, arith, length, Ok}
use Rattle.std.specs.Prelude.{nat_lt}
use Rattle.std.specs.List.{list_any}
use Rattle.std.specs.Bool.{then_some}
use Rattle.std.specs.Ordering.{is_eq}
use Rattle.std.proofs.lemmas.Bool.{or_parts, both_ways, ltb-false}
use Rattle.adr_values.specs.Order.{identifier_order}
use Rattle.adr_values.specs.declared.stamp.Oid.{Oid}
use Rattle.adr_values.proofs.ExactCalls.{not_then}
use Rattle.adr_values.specs.Numbered.{numbered}
use Rattle.adr_values.specs.Vector.{Cursors, IsVector, at, raised, cursor_limit}
use Rattle.adr_values.proofs.Cursors.{same_from_test, test_itself}
use Rattle.adr_values.proofs.Comparing.{everywhere_from_at_most, at_most_from_everywhere}
use Rattle.adr_values.proofs.Joining.{raised_here, rising-raised, from_one-raised}
use Rattle.adr_values.proofs.Moments.{times_stay}
use Rattle.adr_call.specs.declared.refusal.Table.TheVariants.{Cursors as CursorTable}
use Rattle.adr_call.specs.declared.refusal.AdoptRefusal.TheVariants.{IdentifierUsed, Full}
use Rattle.adr_model.specs.Update.{Identifier, inv_of, same_identifier, ends}
use Rattle.adr_model.specs.Store.{Held, PartnerMark, Normal, Store, State, updates_of, empty_state}
use Rattle.adr_model.specs.Formed.{IsFormedStore, IsFormed}
use Rattle.adr_model.specs.Sound.{AreClassesKnown}
use Rattle.adr_model.specs.Collect.{names_inv, woken, adopt_refusal, adopt, quarantine}
use Rattle.adr_values.proofs.Extending.{second_is_last}
use Rattle.adr_call.specs.declared.refusal.UpgradeRefusal.TheVariants.{Quarantined, SchemaThere}
use Rattle.adr_model.specs.Change.{Change}
use Rattle.adr_model.specs.Serve.{is_quarantined}
use Rattle.adr_model.specs.Upgrade.{upgraded, upgrade_refusal, upgrade}
use Rattle.adr_law_calls.proofs.More.{classes_known_more}
use Rattle.adr_law_calls.proofs.Passed.{normal_where_not_quarantined}
use Rattle.adr_law_calls.proofs.Upgraded.{upgraded_formed}
use Rattle.adr_law_knowledge.proofs.Refusing.{answered}
use Rattle.adr_law_knowledge.proofs.Raised.{raised_up, not_raised}
use Rattle.adr_law_calls.proofs.Empty.{empty_is_formed}
use Rattle.adr_law_calls.specs.Follow.{HasKnownClasses, CanFollow}
use Rattle.adr_law_calls.proofs.Said.{neither}
use Rattle.adr_law_calls.proofs.TakenFollow.{nothing_is_vector}
use Rattle.adr_law_calls.proofs.Going.{goes_on_alone}

-- a formed store keeps its forms under another vector that has seen as much
with_vector : (s : Store) (v : Cursors) → IsFormedStore s → IsVector v
    → ((i : Identifier) → at s.vector i ≤ at v i)
    → IsFormedStore (record s { vector = v })
with_vector s v formed vector up = record {
  vector = vector;
  times = times_stay s.vector v s.times up formed.times;
  purged = formed.purged;
  purged_within = at_most_from_everywhere s.purged v formed.purged.rising
      (λ i. omega (arith, everywhere_from_at_most s.purged s.vector formed.purged_within i, up i));
  marks = formed.marks;
  rising = formed.rising;
  locals = formed.locals;
  alone = formed.alone;
  rows = formed.rows;
  limits = record { objects = formed.limits.objects; links = formed.limits.links; marks = formed.limits.marks };
}

pub quarantine_follows : (s : State) → IsFormed s → HasKnownClasses s → s.mode ≡ Normal
    → CanFollow s (quarantine s)
quarantine_follows s formed classes normal = record {
  goes_on = goes_on_alone s (quarantine s) normal (omega arith) tt (inl refl) nothing_is_vector tt (λ o m. absurd m);
  formed = record {
    store = with_vector s.store (raised s.store.vector s.inv s.store.usn) formed.store
        (subst IsVector (sym same) formed.store.vector) (raised_up s.store.vector s.inv s.store.usn);
    own = (let here = raised_here s.store.vector s.inv s.store.usn in omega (arith, here, formed.own));
  };
  classes = classes;
}
  where
    same : raised s.store.vector s.inv s.store.usn ≡ s.store.vector
    same = not_raised s.store.vector s.inv s.store.usn (omega (arith, formed.own))

pub upgraded_follows : (s : State) → IsFormed s → HasKnownClasses s → s.mode ≡ Normal → CanFollow s (upgraded s)
upgraded_follows s formed classes normal = record {
  goes_on = goes_on_alone s (upgraded s) normal (omega arith) tt (inr refl) nothing_is_vector tt (λ o m. absurd m);
  formed = upgraded_formed s formed;
  classes = classes_known_more (numbered s.store.schema) (numbered 2) (second_is_last s.store.schema) (updates_of s.store.rows) classes;
}

pub upgrade_follows : (s : State) (c : Change) → IsFormed s → HasKnownClasses s → upgrade s ≡ Ok c → CanFollow s c
upgrade_follows s c formed classes e =
    let g = answered (upgrade_refusal s) (upgraded s) c e in
    let n = neither (then_some (is_quarantined s.mode) Quarantined) (then_some (s.store.schema == 2) (SchemaThere s.store.schema)) g.0 in
    subst (CanFollow s) g.1 (upgraded_follows s formed classes (normal_where_not_quarantined s.mode (not_then (is_quarantined s.mode) Quarantined n.0)))

-- an identifier that no cursor names has none
unnamed : (v : Cursors) (inv : Identifier)
    → list_any (λ (c : Identifier × ℕ). same_identifier c.0 inv) v ≡ false → at v inv ≡ 0
unnamed [] inv none = refl
unnamed (c ∷ cs) inv none = by (is_eq (identifier_order inv c.0)) refl
    (or_parts (same_identifier c.0 inv) (list_any (λ (d : Identifier × ℕ). same_identifier d.0 inv) cs) none)
    (unnamed cs inv)
  where
    by : (b : Bool) → is_eq (identifier_order inv c.0) ≡ b
        → (same_identifier c.0 inv ≡ false) × (list_any (λ (d : Identifier × ℕ). same_identifier d.0 inv) cs ≡ false)
        → (list_any (λ (d : Identifier × ℕ). same_identifier d.0 inv) cs ≡ false → at cs inv ≡ 0)
        → cond b c.1 (at cs inv) ≡ 0
    by true is p rest = absurd
        (both_ways (same_identifier c.0 inv) p.0 (subst (λ i. same_identifier i inv ≡ true) (same_from_test inv c.0 is) (test_itself inv)))
    by false is p rest = rest p.1

module _ (image : Store) (dsa inv : Identifier) (formed : IsFormedStore image) where
  abbrev s : State
  s = woken image dsa inv

  is_new : names_inv image inv ≡ false → at image.vector inv ≡ 0
  is_new none = unnamed image.vector inv
      (or_parts (list_any (λ (c : Identifier × ℕ). same_identifier c.0 inv) image.vector) (list_any (λ (c : Identifier × ℕ). same_identifier c.0 inv) image.purged)
      (or_parts (list_any (λ (c : Identifier × ℕ). same_identifier c.0 inv) image.vector || list_any (λ (c : Identifier × ℕ). same_identifier c.0 inv) image.purged)
      (list_any (λ (h : Held). same_identifier (inv_of h.update) inv || list_any (λ (o : Oid). same_identifier o.birth.inv inv) (ends h.update.key)) image.rows)
      (or_parts (list_any (λ (c : Identifier × ℕ). same_identifier c.0 inv) image.vector || list_any (λ (c : Identifier × ℕ). same_identifier c.0 inv) image.purged
      || list_any (λ (h : Held). same_identifier (inv_of h.update) inv || list_any (λ (o : Oid). same_identifier o.birth.inv inv) (ends h.update.key)) image.rows)
      (list_any (λ (k : Identifier × PartnerMark). same_identifier k.1.inv inv) image.marks) none).0).0).0

  woken_formed : names_inv image inv ≡ false → length (raised image.vector inv image.usn) ≤ cursor_limit
      → IsFormed s
  woken_formed none few = record {
    store = with_vector image (raised image.vector inv image.usn) formed
        (record { rising = rising-raised image.vector inv image.usn formed.vector.rising; from_one = from_one-raised image.vector inv image.usn formed.vector.from_one; few = few })
        (raised_up image.vector inv image.usn);
    own = (let here = raised_here image.vector inv image.usn in omega (arith, here, is_new none));
  }

pub adopted_is_formed : (image : Store) (dsa inv : Identifier) (s : State) → IsFormedStore image
    → adopt image dsa inv ≡ Ok s → IsFormed s
adopted_is_formed image dsa inv s formed e =
    let length_after = length (raised image.vector inv image.usn) in
    let g = answered (adopt_refusal image inv (woken image dsa inv)) (woken image dsa inv) s e in
    let n = neither (then_some (names_inv image inv) IdentifierUsed) (then_some (nat_lt cursor_limit length_after) (Full CursorTable cursor_limit)) g.0 in
    subst IsFormed g.1 (woken_formed image dsa inv formed (not_then (names_inv image inv) IdentifierUsed n.0)
    (ltb-false cursor_limit length_after (not_then (nat_lt cursor_limit length_after) (Full CursorTable cursor_limit) n.1)))

pub adopted_has_known_classes : (image : Store) (dsa inv : Identifier) (s : State)
    → AreClassesKnown (numbered image.schema) (updates_of image.rows) → adopt image dsa inv ≡ Ok s
    → HasKnownClasses s
adopted_has_known_classes image dsa inv s classes e = subst HasKnownClasses
    (answered (adopt_refusal image inv (woken image dsa inv)) (woken image dsa inv) s e).1 classes

pub new_is_formed : (dsa inv : Identifier)
    → IsFormed (empty_state dsa inv) × HasKnownClasses (empty_state dsa inv)
new_is_formed dsa inv = (record { store = empty_is_formed; own = refl }, λ u m. absurd m)
