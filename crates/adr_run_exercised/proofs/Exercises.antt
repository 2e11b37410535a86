-- Where no limit was met, the last cycles of the schedule are whole: of every number as far as none was cut off, and of small ones always.
use Rattle.std.proofs.Common.{◌≡◌, ◌≢◌, ◌<◌, ◌≤◌, ◌+◌, ◌*◌, ◌^◌, inl, inr, ⊎_elim, ℕ, List, [], ◌∷◌, ◌++◌, true, false, map, refl, sym, ap, ◌∙◌, subst, arith}
use Rattle.std.specs.Prelude.{codes}
use Rattle.std.specs.List.{sum_by}
use Rattle.std.proofs.lemmas.List.Sums.{sum_by-cons}
use Rattle.adr_values.specs.Vector.{Cursors, at}
use Rattle.adr_call.specs.declared.answer.Answer.{Answer}
use Rattle.adr_call.specs.declared.event.Event.{Event}
use Rattle.adr_call.specs.declared.outcome.Outcome.TheVariants as outcomes
use Rattle.adr_model.specs.Member.{Member, Each}
use Rattle.adr_model.specs.Reflects.{AtMost}
use Rattle.adr_model.specs.Store.{empty_state}
use Rattle.adr_model.specs.Replica.{Replica, on_new_disk}
use Rattle.adr_model.specs.World.{World, empty_world}
use Rattle.adr_model.specs.Cycles.{reply_limit}
use Rattle.adr_model.specs.Step.{step, after_lines, answers}
use Rattle.adr_model.specs.Convergence.{behind, IsRefused, AreUnlimited}
use Rattle.adr_model.proofs.Members.{member_left, member_right, member_of_either}
use Rattle.adr_law_convergence.specs.Rounds.{line_of, AreWhole, in_turn, behind_exchanges}
use Rattle.adr_run_exercise.specs.Generated.{identifier, beginning, rounds, collections, schedule}
use Rattle.adr_run_exercise.specs.Laws.{SchedulesFollow}
use Rattle.adr_run_exercise.specs.Summary.{four_names, refusals_in, summary}
use Rattle.adr_run_exercised.specs.Exercised.{four_pull, six_rounds, until_deleted, until_collected, EndsInWholeCycles, MeetsNoLimit, NoneIsCutOff, UncutExercisesEndEqual, UnlimitedExercisesEndEqual, ExercisesEndEqual}
use Rattle.adr_run_exercised.proofs.Between.{AreBetween, nobody_collected, between_behind, collections_fresh}
use Rattle.adr_run_exercised.proofs.Counted.{writes_until_deleted, writes_until_collected}
use Rattle.adr_run_exercised.proofs.Ends.{one_round_is, six_rounds_are, parts_until_deleted, until_deleted_mild, until_collected_mild, deleted_sound, collected_sound, collected_is, spread_sound, one_vector, there, last_rounds_make_equal}
use Rattle.adr_run_exercised.proofs.Few.{AreOfFew, of_none, of_more, writes_in, lines_few}
use Rattle.adr_run_exercised.proofs.Limits.{HasFirstSchema}
use Rattle.adr_run_exercised.proofs.Manned.{IsReady, AreManned, lines_manned}
use Rattle.adr_run_exercised.proofs.Mild.{AreMild, rounds_mild, collections_mild, from_groups, from_groups_mild, lines_both}
use Rattle.adr_run_exercised.proofs.Schemas.{schema_rules, no_upgrade, HasCollectedNothing, nothing_rules, no_collection, IsNoUpgrade, IsNoCollection}
use Rattle.adr_run_exercised.proofs.Steady.{IsSteady, four_are, six_are, whole_where_uncut, whole_where_few}
use Rattle.adr_run_exercised.proofs.Stores.{AreKept, lines_kept}

-- ---- answers within a run

answered_behind : (before after : List Event) (w : World) (a : Answer) → Member a (answers (after_lines w before) after) → Member a (answers w (before ++ after))
answered_behind [] after w a m = m
answered_behind (e ∷ before) after w a m = member_right (step w e).1 (answers (step w e).0 (before ++ after)) a (answered_behind before after (step w e).0 a m)

answered_before : (before after : List Event) (w : World) (a : Answer) → Member a (answers w before) → Member a (answers w (before ++ after))
answered_before [] after w a m = absurd m
answered_before (e ∷ before) after w a m = ⊎_elim
    (λ l. member_left (step w e).1 (answers (step w e).0 (before ++ after)) a l)
    (λ r. member_right (step w e).1 (answers (step w e).0 (before ++ after)) a (answered_before before after (step w e).0 a r))
    (member_of_either (step w e).1 (answers (step w e).0 before) a m)

module _ (n : ℕ) (P : Answer → Type 0) (all : Each P (answers empty_world (schedule n))) where
  of_spreading : Each P (answers (behind (until_deleted n)) (map line_of (in_turn six_rounds)))
  of_spreading a m = all a
      (answered_before (until_collected n) (rounds 1) empty_world a
      (answered_before (until_deleted n ++ rounds 6) collections empty_world a
      (answered_behind (until_deleted n) (rounds 6) empty_world a
      (subst (λ (es : List Event). Member a (answers (behind (until_deleted n)) es)) (sym six_rounds_are) m))))

  of_ending : Each P (answers (behind (until_collected n)) (map line_of four_pull))
  of_ending a m = all a (answered_behind (until_collected n) (rounds 1) empty_world a (subst (λ (es : List Event). Member a (answers (behind (until_collected n)) es)) (sym one_round_is) m))

unlimited_spreading : (n : ℕ) → MeetsNoLimit n → AreUnlimited (answers (behind (until_deleted n)) (map line_of (in_turn six_rounds)))
unlimited_spreading n unlimited = (of_spreading n (λ a. IsRefused 21 a.outcome → ⊥) unlimited.0, of_spreading n (λ a. IsRefused 22 a.outcome → ⊥) unlimited.1)

unlimited_ending : (n : ℕ) → MeetsNoLimit n → AreUnlimited (answers (behind (until_collected n)) (map line_of four_pull))
unlimited_ending n unlimited = (of_ending n (λ a. IsRefused 21 a.outcome → ⊥) unlimited.0, of_ending n (λ a. IsRefused 22 a.outcome → ⊥) unlimited.1)

-- ---- the four have come

abbrev new : List ℕ → ℕ → ℕ → Replica
new name dsa inv = on_new_disk name (empty_state (identifier dsa) (identifier inv))

abbrev come : List Replica
come = new (codes "A") 0xa0 0xa1 ∷ new (codes "B") 0xb0 0xb1 ∷ new (codes "C") 0xc0 0xc1 ∷ new (codes "D") 0xd0 0xd1 ∷ []

begun_manned : AreManned four_names (behind beginning).replicas
unfolding beginning
begun_manned = record { ready = ready; there = there }
  where
    ready : Each IsReady come
    ready r (inl e) = subst IsReady (sym e) (refl, refl)
    ready r (inr (inl e)) = subst IsReady (sym e) (refl, refl)
    ready r (inr (inr (inl e))) = subst IsReady (sym e) (refl, refl)
    ready r (inr (inr (inr (inl e)))) = subst IsReady (sym e) (refl, refl)
    ready r (inr (inr (inr (inr m)))) = absurd m

    there : Each (λ x. (r : Replica) × Member r come × (r.name ≡ x)) four_names
    there x (inl e) = (new (codes "A") 0xa0 0xa1, inl refl, sym e)
    there x (inr (inl e)) = (new (codes "B") 0xb0 0xb1, inr (inl refl), sym e)
    there x (inr (inr (inl e))) = (new (codes "C") 0xc0 0xc1, inr (inr (inl refl)), sym e)
    there x (inr (inr (inr (inl e)))) = (new (codes "D") 0xd0 0xd1, inr (inr (inr (inl refl))), sym e)
    there x (inr (inr (inr (inr m)))) = absurd m

module _ (n : ℕ) where
  deleted_manned : AreManned four_names (behind (until_deleted n)).replicas
  deleted_manned = subst (λ (es : List Event). AreManned four_names (behind es).replicas) (sym (parts_until_deleted n))
      (subst (λ (w : World). AreManned four_names w.replicas) (sym (lines_both beginning (from_groups n) empty_world))
      (lines_manned four_names (from_groups n) (behind beginning) (from_groups_mild true n) begun_manned))

  spread_manned : AreManned four_names (behind (until_deleted n ++ rounds 6)).replicas
  spread_manned = subst (λ (w : World). AreManned four_names w.replicas) (sym (lines_both (until_deleted n) (rounds 6) empty_world))
      (lines_manned four_names (rounds 6) (behind (until_deleted n)) (rounds_mild true 6) deleted_manned)

  collected_manned : AreManned four_names (behind (until_collected n)).replicas
  collected_manned = subst (λ (w : World). AreManned four_names w.replicas) (sym (lines_both (until_deleted n ++ rounds 6) collections empty_world))
      (lines_manned four_names collections (behind (until_deleted n ++ rounds 6)) collections_mild spread_manned)

  -- few units were issued
  few_behind : (es : List Event) → AreMild true es → writes_in es ≤ 15 * n + 10 → AreOfFew (15 * n + 10) (behind es).book.issued
  few_behind es mild le = of_more (0 + writes_in es) (15 * n + 10) (behind es).book.issued (omega (arith, le)) (lines_few [] es 0 empty_world (record { ready = λ r m. absurd m; there = λ x m. absurd m }) mild of_none)

-- ---- where the last cycles begin

schemas_behind : (es : List Event) → AreMild true es → AreKept HasFirstSchema (behind es)
schemas_behind es mild = lines_kept HasFirstSchema IsNoUpgrade schema_rules true es empty_world mild (no_upgrade es) ((λ r m. absurd m), (λ i m. absurd m))

module _ (follow : SchedulesFollow) (n : ℕ) (small : n < 2 ^ 64) where
  nothing_collected : AreKept HasCollectedNothing (behind (until_deleted n))
  nothing_collected = lines_kept HasCollectedNothing IsNoCollection nothing_rules false (until_deleted n) empty_world (until_deleted_mild false n) (no_collection (until_deleted n) (until_deleted_mild false n))
      ((λ r m. absurd m), (λ i m. absurd m))

  steady_deleted : IsSteady (λ i. 0) (behind (until_deleted n))
  steady_deleted = record {
    sound = deleted_sound follow n small;
    manned = deleted_manned n;
    schemas = schemas_behind (until_deleted n) (until_deleted_mild true n);
    between = λ r m is. (subst (λ (p : Cursors). AtMost (at p) (λ i. 0)) (sym (nothing_collected.0 r m).0) (λ i. omega arith), λ i. omega arith);
  }

  -- behind the six rounds all have the vector of one
  module _ (spreading : AreWhole (behind (until_deleted n)) (in_turn six_rounds)) where
    abbrev spread : World
    spread = behind_exchanges (behind (until_deleted n)) (in_turn six_rounds)

    first : (r : Replica) × Member r spread.replicas × (r.name ≡ codes "A")
    first = there follow n small spreading (codes "A") (inl refl)

    abbrev one : Cursors
    one = first.0.safe.store.vector

    between : AreBetween (at one) four_names (after_lines spread collections)
    between = between_behind one four_names [] collections spread (spread_sound follow n small spreading) (collections_fresh one four_names)
        (nobody_collected one four_names spread (spread_sound follow n small spreading) (λ r m is. one_vector follow n small spreading r m first.0 first.1 is (inl first.2)))

    steady_collected : IsSteady (at one) (behind (until_collected n))
    steady_collected = record {
      sound = collected_sound follow n small;
      manned = collected_manned n;
      schemas = schemas_behind (until_collected n) (until_collected_mild n);
      between = subst (AreBetween (at one) four_names) (sym (collected_is follow n small)) between;
    }

-- ---- the last cycles are whole

uncut_end : SchedulesFollow → (n : ℕ) → n < 2 ^ 64 → MeetsNoLimit n → NoneIsCutOff n → EndsInWholeCycles n
uncut_end follow n small unlimited uncut = record { deleted = deleted; collected = collected }
  where
    deleted : AreWhole (behind (until_deleted n)) (in_turn six_rounds)
    deleted = whole_where_uncut (λ i. 0) (in_turn six_rounds) (behind (until_deleted n)) (steady_deleted follow n small) six_are
        (unlimited_spreading n unlimited) (of_spreading n (λ a. a.outcome ≢ outcomes.More) uncut)

    collected : AreWhole (behind (until_collected n)) four_pull
    collected = whole_where_uncut _ four_pull (behind (until_collected n)) (steady_collected follow n small deleted) four_are
        (unlimited_ending n unlimited) (of_ending n (λ a. a.outcome ≢ outcomes.More) uncut)

pub uncut_exercises_end_equal : SchedulesFollow → UncutExercisesEndEqual
uncut_exercises_end_equal follow n small unlimited uncut = last_rounds_make_equal follow n small (uncut_end follow n small unlimited uncut)

few_end : SchedulesFollow → (n : ℕ) → n < 2 ^ 64 → 15 * n + 10 < reply_limit → MeetsNoLimit n → EndsInWholeCycles n
few_end follow n small fewer unlimited = record { deleted = deleted; collected = collected }
  where
    deleted : AreWhole (behind (until_deleted n)) (in_turn six_rounds)
    deleted = whole_where_few (λ i. 0) (15 * n + 10) fewer (in_turn six_rounds) (behind (until_deleted n)) (steady_deleted follow n small) (few_behind n (until_deleted n) (until_deleted_mild true n) (writes_until_deleted n)) six_are
        (unlimited_spreading n unlimited)

    collected : AreWhole (behind (until_collected n)) four_pull
    collected = whole_where_few _ (15 * n + 10) fewer four_pull (behind (until_collected n)) (steady_collected follow n small deleted) (few_behind n (until_collected n) (until_collected_mild n) (writes_until_collected n)) four_are
        (unlimited_ending n unlimited)

pub unlimited_exercises_end_equal : SchedulesFollow → UnlimitedExercisesEndEqual
unlimited_exercises_end_equal follow n le unlimited = last_rounds_make_equal follow n small (few_end follow n small (omega (arith, le)) unlimited)
  where
    small : n < 2 ^ 64
    small = omega (arith, le)

-- ---- where nothing was refused: the summary counts the refusals of all answers

-- a sum of nothing is of nothings
nothing_of_all : {A : Type 0} (f : A → ℕ) (xs : List A) → sum_by f xs ≡ 0 → Each (λ x. f x ≡ 0) xs
nothing_of_all f [] none x m = absurd m
nothing_of_all f (y ∷ ys) none x (inl e) = ap f e ∙ omega (arith, none, sum_by-cons f y ys)
nothing_of_all f (y ∷ ys) none x (inr m) = nothing_of_all f ys (omega (arith, none, sum_by-cons f y ys)) x m

none_refused : (n : ℕ) → (summary n).refused ≡ 0 → Each (λ a. refusals_in a.outcome ≡ 0) (answers empty_world (schedule n))
unfolding summary
none_refused n none = nothing_of_all (λ (a : Answer). refusals_in a.outcome) (answers empty_world (schedule n)) none

pub exercises_end_equal : SchedulesFollow → ExercisesEndEqual
exercises_end_equal follow n le none = unlimited_exercises_end_equal follow n le (met, met_too)
  where
    met : Each (λ a. IsRefused 21 a.outcome → ⊥) (answers empty_world (schedule n))
    met a m is = omega (arith, none_refused n none a m, ap refusals_in is.2)

    met_too : Each (λ a. IsRefused 22 a.outcome → ⊥) (answers empty_world (schedule n))
    met_too a m is = omega (arith, none_refused n none a m, ap refusals_in is.2)
