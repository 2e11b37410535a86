-- No line of the schedule plans a fault, stops anyone or puts a database back, and each may happen where it is.
use Rattle.std.proofs.Common.{◌≡◌, inl, inr, ℕ, zero, suc, ◌+◌, ◌*◌, ◌/◌, ◌%◌, List, [], ◌∷◌, ◌++◌, Bool, true, false, map, refl, ap, ◌∙◌}
use Rattle.std.specs.Prelude.{◌==◌, if◌then◌else◌, codes}
use Rattle.std.specs.List.{range_with_len, flat_map}
use Rattle.adr_call.specs.declared.write.Write.TheVariants.{Delete}
use Rattle.adr_call.specs.declared.call.Call.{Call}
use Rattle.adr_call.specs.declared.call.Call.TheVariants as calls
use Rattle.adr_call.specs.declared.event.Event.{Event}
use Rattle.adr_call.specs.declared.event.Event.TheVariants as events
use Rattle.adr_call.specs.declared.event.Coming.TheVariants as comings
use Rattle.adr_call.specs.declared.event.Made.TheVariants as mades
use Rattle.adr_call.specs.declared.event.Exchange.TheVariants as exchanges
use Rattle.adr_model.specs.World.{World}
use Rattle.adr_model.specs.Step.{step, after_lines}
use Rattle.adr_model.specs.Convergence.{MayAllHappen, puts_back, PutsNothingBack}
use Rattle.adr_run_exercise.specs.Generated.{controller, identifier, person, round, rounds, beginning, group_added, groups, backed_up, restored, person_added, person_linked, lost, exchanged, met, exchange, drawn, state, person_lines, persons, person_deleted, deletions, collections}

-- a write, or a collection where that is said
abbrev pub IsMildCall : Bool → Call → Type 0
IsMildCall collects (calls.Write what) = Unit {0}
IsMildCall collects (calls.Collect lifetime) = collects ≡ true
IsMildCall collects what = ⊥

-- a line of one of these kinds
abbrev pub IsMild : Bool → Event → Type 0
IsMild collects (events.Time now) = Unit {0}
IsMild collects (events.Comes name inv (comings.Fresh dsa)) = Unit {0}
IsMild collects (events.Comes name inv (comings.Restored image)) = Unit {0}
IsMild collects (events.Calls name what) = IsMildCall collects what
IsMild collects (events.Binds name (mades.Ask partner max version) bind) = Unit {0}
IsMild collects (events.Binds name (mades.Serve request) bind) = Unit {0}
IsMild collects (events.Binds name mades.Backup bind) = Unit {0}
IsMild collects (events.Goes name what) = Unit {0}
IsMild collects e = ⊥

abbrev pub AreMild : Bool → List Event → Type 0
AreMild collects [] = Unit {0}
AreMild collects (e ∷ es) = IsMild collects e × AreMild collects es

-- all behind the beginning, up to the deletions
abbrev pub from_groups : ℕ → List Event
from_groups n = groups ++ (rounds 1 ++ (persons n ++ (rounds 6 ++ deletions n)))

module _ (collects : Bool) where
  pub mild_append : (xs ys : List Event) → AreMild collects xs → AreMild collects ys → AreMild collects (xs ++ ys)
  mild_append [] ys q r = r
  mild_append (x ∷ xs) ys q r = (q.0, mild_append xs ys q.1 r)

  mild_range : (f : ℕ → List Event) → ((k : ℕ) → AreMild collects (f k)) → (m a : ℕ) → AreMild collects (flat_map f (range_with_len a m))
  mild_range f each zero a = tt
  mild_range f each (suc m) a = mild_append (f a) (flat_map f (range_with_len (a + 1) m)) (each a) (mild_range f each m (a + 1))

  mild_where : (b : Bool) (es : List Event) → AreMild collects es → AreMild collects (if b then es else [])
  mild_where true es are = are
  mild_where false es are = tt

  -- ---- the parts of the schedule

  pub beginning_mild : AreMild collects beginning
  unfolding beginning
  beginning_mild = (tt, (tt, (tt, (tt, (tt, tt)))))

  round_mild : AreMild collects round
  unfolding round
  round_mild = (tt, (tt, (tt, (tt, tt))))

  pub rounds_mild : (n : ℕ) → AreMild collects (rounds n)
  unfolding rounds
  rounds_mild zero = tt
  rounds_mild (suc n) = mild_append (rounds n) round (rounds_mild n) round_mild

  group_mild : (g : ℕ) → IsMild collects (group_added g)
  unfolding group_added
  group_mild g = tt

  groups_from_mild : (m a : ℕ) → AreMild collects (map group_added (range_with_len a m))
  groups_from_mild zero a = tt
  groups_from_mild (suc m) a = (group_mild a, groups_from_mild m (a + 1))

  backed_up_mild : (n k : ℕ) → AreMild collects (backed_up n k)
  unfolding backed_up
  backed_up_mild n k = mild_where (k == 2 * n) (events.Binds (codes "B") mades.Backup (codes "image") ∷ []) (tt, tt)

  restored_mild : (n k : ℕ) → AreMild collects (restored n k)
  unfolding restored
  restored_mild n k = mild_where (k == 3 * n) (
      events.Goes (codes "A") (exchanges.Cycle (codes "B") 50) ∷ events.Comes (codes "B") (identifier 0xb2) (comings.Restored (codes "image"))
      ∷ events.Goes (codes "B") (exchanges.Cycle (codes "A") 50) ∷ []) (tt, (tt, (tt, tt)))

  added_mild : (k : ℕ) → IsMild collects (person_added k)
  unfolding person_added
  added_mild k = tt

  linked_mild : (k : ℕ) → IsMild collects (person_linked k)
  unfolding person_linked
  linked_mild k = tt

  lost_mild : (k p q : ℕ) → AreMild collects (lost k p q)
  unfolding lost
  lost_mild k p q = (tt, (tt, tt))

  exchanged_mild : (k p q luck : ℕ) → AreMild collects (exchanged k p q luck)
  unfolding exchanged
  exchanged_mild k p q luck = by (luck == 0)
    where
      by : (b : Bool) → AreMild collects (if b then lost k p q else events.Goes (controller p) (exchanges.Pull (controller q) 3) ∷ [])
      by true = lost_mild k p q
      by false = (tt, tt)

  met_mild : (x k : ℕ) → AreMild collects (met x k)
  unfolding met
  met_mild x k = exchanged_mild k (drawn (state x 1) 4) ((drawn (state x 1) 4 + 1 + drawn (state x 2) 3) % 4) (drawn (state x 3) 4)

  exchange_mild : (n k : ℕ) → AreMild collects (exchange n k)
  unfolding exchange
  exchange_mild n k = mild_where (k % 7 == 6) (met (state n (3 * (k / 7))) k) (met_mild (state n (3 * (k / 7))) k)

  person_mild : (n k : ℕ) → AreMild collects (person_lines n k)
  unfolding person_lines
  person_mild n k = mild_append (backed_up n k ++ restored n k) (person_added k ∷ person_linked k ∷ exchange n k)
      (mild_append (backed_up n k) (restored n k) (backed_up_mild n k) (restored_mild n k)) (added_mild k, (linked_mild k, exchange_mild n k))

  persons_mild : (n : ℕ) → AreMild collects (persons n)
  persons_mild n = mild_range (person_lines n) (person_mild n) (5 * n) 0

  deleted_mild : (k : ℕ) → AreMild collects (person_deleted k)
  unfolding person_deleted
  deleted_mild k = mild_where (k % 10 == 9) (events.Calls (codes "A") (calls.Write (Delete (person k))) ∷ []) (tt, tt)

  deletions_mild : (n : ℕ) → AreMild collects (deletions n)
  deletions_mild n = (tt, mild_range person_deleted deleted_mild (5 * n) 0)

  pub from_groups_mild : (n : ℕ) → AreMild collects (from_groups n)
  from_groups_mild n =
      let deleting = mild_append (rounds 6) (deletions n) (rounds_mild 6) (deletions_mild n) in
      let adding = mild_append (persons n) (rounds 6 ++ deletions n) (persons_mild n) deleting in
      mild_append groups (rounds 1 ++ (persons n ++ (rounds 6 ++ deletions n))) (groups_from_mild 10 0) (mild_append (rounds 1) (persons n ++ (rounds 6 ++ deletions n)) (rounds_mild 1) adding)

pub collections_mild : AreMild true collections
unfolding collections
collections_mild = (tt, (refl, (refl, (refl, (refl, tt)))))

-- ---- what follows

mild_put_nothing_back : (collects : Bool) (e : Event) → IsMild collects e → puts_back e ≡ false
mild_put_nothing_back collects (events.Uses name what bind) is = absurd is
mild_put_nothing_back collects e is = refl

pub nothing_put_back : (collects : Bool) (es : List Event) → AreMild collects es → PutsNothingBack es
nothing_put_back collects [] are e m = absurd m
nothing_put_back collects (f ∷ es) are e (inl is) = ap puts_back is ∙ mild_put_nothing_back collects f are.0
nothing_put_back collects (f ∷ es) are e (inr m) = nothing_put_back collects es are.1 e m

-- ---- lines one after the other

pub lines_both : (before after : List Event) (w : World) → after_lines w (before ++ after) ≡ after_lines (after_lines w before) after
lines_both [] after w = refl
lines_both (e ∷ before) after w = lines_both before after (step w e).0

pub may_before : (before after : List Event) (w : World) → MayAllHappen w (before ++ after) → MayAllHappen w before
may_before [] after w may = tt
may_before (e ∷ before) after w may = (may.0, may_before before after (step w e).0 may.1)
