-- What was collected stays below some numbers and vectors above them, where controllers of one vector collect once each and then pull whole cycles.
use Rattle.std.proofs.Common.{◌≡◌, ◌⊎◌, inl, inr, ⊎_elim, ℕ, List, [], ◌∷◌, true, false, Ok, refl, sym, ap, ◌∙◌, subst, arith}
use Rattle.std.specs.Prelude.{codes}
use Rattle.std.specs.Str.{bytes_eq}
use Rattle.adr_call.specs.declared.call.Call.TheVariants as calls
use Rattle.adr_call.specs.declared.event.Event.{Event}
use Rattle.adr_call.specs.declared.event.Event.TheVariants as events
use Rattle.adr_values.specs.Vector.{Cursors, at, at_most}
use Rattle.adr_values.proofs.Comparing.{everywhere_from_at_most, at_most_from_everywhere}
use Rattle.adr_model.specs.Member.{Member, Each}
use Rattle.adr_model.specs.Reflects.{Numbers, AtMost}
use Rattle.adr_model.specs.Store.{Store, State}
use Rattle.adr_model.specs.Change.{Change, after}
use Rattle.adr_model.specs.Formed.{IsFormed}
use Rattle.adr_model.specs.Collect.{deaths_to_collect, collection, collect}
use Rattle.adr_model.specs.Replica.{Replica}
use Rattle.adr_model.specs.World.{Name, World}
use Rattle.adr_model.specs.Step.{step, after_lines}
use Rattle.adr_model.specs.Sound.{IsSoundWorld}
use Rattle.adr_law_calls.proofs.CollectionFollows.{collect_is_collection}
use Rattle.adr_law_calls.proofs.CollectionFormed.{covered, higher}
use Rattle.adr_law_calls.proofs.PurgedVector.{purged_within}
use Rattle.adr_law_convergence.proofs.Found.{same_name_tests}
use Rattle.adr_law_convergence.proofs.Runs.{stands}
use Rattle.adr_law_convergence.proofs.Wholes.{IsCycled}
use Rattle.adr_run_exercise.specs.Generated.{collections}
use Rattle.adr_run_exercised.proofs.Collecting.{IsLeft, collecting_case, collecting_sound}
use Rattle.adr_run_exercised.proofs.Level.{own_or_other}

differ : (a b : Name) → bytes_eq a b ≡ false → a ≡ b → ⊥
differ a b is e = let t : bytes_eq a b ≡ true = same_name_tests a b e in absurd (cc)

-- what was collected lies below these numbers, and the vector above them
abbrev pub IsBetween : Numbers → Store → Type 0
IsBetween V s = AtMost (at s.purged) V × AtMost V (at s.vector)

abbrev pub AreBetween : Numbers → List Name → World → Type 0
AreBetween V names w = Each (λ r. Member r.name names → IsBetween V r.safe.store) w.replicas

-- so who pulls covers what the other one collected
pub covers_purged : (V : Numbers) (w : World) → IsSoundWorld w → (r q : Replica) → Member r w.replicas → IsBetween V r.safe.store → IsBetween V q.safe.store → at_most r.safe.store.purged q.safe.store.vector ≡ true
covers_purged V w sound r q m b c = at_most_from_everywhere r.safe.store.purged q.safe.store.vector (sound.replicas r m).safe.store.formed.purged.rising (λ i. omega (arith, b.0 i, c.1 i))

-- ---- a whole cycle

module _ (V : Numbers) (names : List Name) (w v : World) (sound : IsSoundWorld w) (dest source : Name) (c : IsCycled w v dest source) where
  -- the vector of who pulled never falls
  rises : AtMost (at c.d.safe.store.vector) (at c.n.safe.store.vector)
  rises i = ⊎_elim
      (λ own. omega (
        arith,
        ap (at c.d.safe.store.vector) (own ∙ c.carried.inv),
        (sound.replicas c.d c.d_there.0).safe.formed.own,
        c.carried.rises,
        c.carried.all.own,
        ap (at c.n.safe.store.vector) own,
      ))
      (λ other. omega (arith, c.carried.all.vector i other))
      (own_or_other c.n.safe.inv i)

  pub between_on : AreBetween V names w → AreBetween V names v
  between_on were r m is = by (stands w v sound dest source c r m)
    where
      new : r ≡ c.n → r.name ≡ dest → IsBetween V r.safe.store
      new same f = let d = were c.d c.d_there.0 (subst (λ n. Member n names) (f ∙ sym c.d_there.1) is) in
          subst (λ (q : Replica). IsBetween V q.safe.store) (sym same) (subst (λ (p : Cursors). AtMost (at p) V) (sym c.carried.all.purged) d.0, λ i. omega (arith, d.1 i, rises i))

      by : ((r ≡ c.n) × (r.name ≡ dest)) ⊎ ((r.name ≡ dest → ⊥) × Member r w.replicas) → IsBetween V r.safe.store
      by (inl (same, f)) = new same f
      by (inr (other, k)) = were r k is

-- ---- collections

-- a collection covers what the vector covers, and the vector never falls
abbrev Collects : Replica → State → Type 0
Collects r s = AtMost (at s.store.purged) (at r.safe.store.vector) × AtMost (at r.safe.store.vector) (at s.store.vector)

collection_within : (w : World) → IsSoundWorld w → (lifetime : ℕ) (r : Replica) → Member r w.replicas → (c : Change) → collect r.safe w.time lifetime ≡ Ok c → Collects r (after r.safe c)
collection_within w sound lifetime r m c e = subst (λ (x : Change). Collects r (after r.safe x)) (collect_is_collection r.safe w.time lifetime c e) (within, higher r.safe w.time lifetime formed)
  where
    formed : IsFormed r.safe
    formed = (sound.replicas r m).safe.formed

    within : AtMost (at (after r.safe (collection r.safe (deaths_to_collect r.safe w.time lifetime))).store.purged) (at r.safe.store.vector)
    within = purged_within r.safe.store.purged r.safe.store.vector (deaths_to_collect r.safe w.time lifetime) formed.store.purged formed.store.purged_within formed.store.vector (covered r.safe w.time lifetime formed)

module _ (one : Cursors) (names : List Name) where
  -- who hasn't collected has the one vector
  abbrev pub AreAfter : List Name → World → Type 0
  AreAfter done w = Each (λ r. Member r.name names → IsBetween (at one) r.safe.store × ((Member r.name done → ⊥) → r.safe.store.vector ≡ one)) w.replicas

  pub nobody_collected : (w : World) → IsSoundWorld w → Each (λ r. Member r.name names → r.safe.store.vector ≡ one) w.replicas → AreAfter [] w
  nobody_collected w sound have r m is = let same = have r m is in (
    subst (λ v. AtMost (at r.safe.store.purged) (at v) × AtMost (at v) (at r.safe.store.vector)) same (everywhere_from_at_most r.safe.store.purged r.safe.store.vector (sound.replicas r m).safe.store.formed.purged_within, λ i. omega arith),
    λ none. same,
  )

  collects_after : (done : List Name) (w : World) → IsSoundWorld w → (name : Name) (lifetime : ℕ) → (Member name done → ⊥) → AreAfter done w → AreAfter (name ∷ done) (step w (events.Calls name (calls.Collect lifetime))).0
  collects_after done w sound name lifetime fresh were q m is = by (left.1 q m)
    where
      left : ((step w (events.Calls name (calls.Collect lifetime))).0.book.issued ≡ w.book.issued) × Each (IsLeft w name Collects) (step w (events.Calls name (calls.Collect lifetime))).0.replicas
      left = collecting_case w sound name lifetime Collects
          (λ r n. (everywhere_from_at_most r.safe.store.purged r.safe.store.vector (sound.replicas r n).safe.store.formed.purged_within, λ i. omega arith))
          (λ r n c e. collection_within w sound lifetime r n c e)

      by : IsLeft w name Collects q → IsBetween (at one) q.safe.store × ((Member q.name (name ∷ done) → ⊥) → q.safe.store.vector ≡ one)
      by (inl k) = let b = were q k is in (b.0, λ none. b.1 (λ l. none (inr l)))
      by (inr (r, k, called, same, p)) =
          let b = were r k (subst (λ n. Member n names) same is) in
          let exact : r.safe.store.vector ≡ one = b.1 (λ l. fresh (subst (λ n. Member n done) called l)) in
          (subst (λ v. AtMost (at q.safe.store.purged) (at v) × AtMost (at v) (at q.safe.store.vector)) exact p, λ none. absurd (none (inl (same ∙ called))))

  -- the time is told, or one collects that hasn't yet
  abbrev pub AreFresh : List Name → List Event → Type 0
  AreFresh done [] = Unit {0}
  AreFresh done (events.Time now ∷ es) = AreFresh done es
  AreFresh done (events.Calls name (calls.Collect lifetime) ∷ es) = (Member name done → ⊥) × AreFresh (name ∷ done) es
  AreFresh done (e ∷ es) = ⊥

  pub between_behind : (done : List Name) (es : List Event) (w : World) → IsSoundWorld w → AreFresh done es → AreAfter done w → AreBetween (at one) names (after_lines w es)
  between_behind done [] w sound fresh were = λ r m is. (were r m is).0
  between_behind done (events.Time now ∷ es) w sound fresh were = between_behind done es (step w (events.Time now)).0 (collecting_sound w sound (events.Time now) tt) fresh were
  between_behind done (events.Calls name (calls.Collect lifetime) ∷ es) w sound fresh were =
      between_behind (name ∷ done) es (step w (events.Calls name (calls.Collect lifetime))).0 (collecting_sound w sound (events.Calls name (calls.Collect lifetime)) tt) fresh.1 (collects_after done w sound name lifetime fresh.0 were)
  between_behind done (e ∷ es) w sound fresh were = absurd fresh

  pub collections_fresh : AreFresh [] collections
  unfolding collections
  collections_fresh = (a, (b, (c, (d, tt))))
    where
      a : ⊥ → ⊥
      a m = m

      b : Member (codes "B") (codes "A" ∷ []) → ⊥
      b (inl e) = differ (codes "B") (codes "A") refl e
      b (inr m) = m

      c : Member (codes "C") (codes "B" ∷ codes "A" ∷ []) → ⊥
      c (inl e) = differ (codes "C") (codes "B") refl e
      c (inr (inl e)) = differ (codes "C") (codes "A") refl e
      c (inr (inr m)) = m

      d : Member (codes "D") (codes "C" ∷ codes "B" ∷ codes "A" ∷ []) → ⊥
      d (inl e) = differ (codes "D") (codes "C") refl e
      d (inr (inl e)) = differ (codes "D") (codes "B") refl e
      d (inr (inr (inl e))) = differ (codes "D") (codes "A") refl e
      d (inr (inr (inr m))) = m
