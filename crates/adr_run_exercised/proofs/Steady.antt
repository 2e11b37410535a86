-- Whole cycles of the four: where no limit was met, and none was cut off, each is whole.
use Rattle.std.proofs.Common.{◌≡◌, ◌≢◌, ◌<◌, ◌≤◌, ◌⊎◌, inl, inr, ⊎_elim, ℕ, List, [], ◌∷◌, true, map, refl, sym, ap, subst, arith}
use Rattle.adr_call.specs.declared.answer.Answer.{Answer}
use Rattle.adr_call.specs.declared.outcome.Outcome.TheVariants as outcomes
use Rattle.adr_model.specs.Member.{Member, Each}
use Rattle.adr_model.specs.Reflects.{Numbers}
use Rattle.adr_model.specs.World.{World}
use Rattle.adr_model.specs.Cycles.{reply_limit}
use Rattle.adr_model.specs.Rings.{is_fine}
use Rattle.adr_model.specs.Sound.{IsSoundWorld}
use Rattle.adr_model.specs.Step.{step, answers}
use Rattle.adr_model.specs.Convergence.{IsRefused, AreUnlimited}
use Rattle.adr_model.proofs.Members.{member_left, member_right, member_of_either}
use Rattle.adr_law_convergence.specs.Rounds.{Exchange, connection, line_of, IsWhole, AreWhole, in_turn}
use Rattle.adr_law_convergence.proofs.Wholes.{IsCycled, cycled}
use Rattle.adr_run_exercise.specs.Summary.{four_names}
use Rattle.adr_run_exercised.specs.Exercised.{four_pull, six_rounds}
use Rattle.adr_run_exercised.proofs.Answered.{IsTold, pulls_told}
use Rattle.adr_run_exercised.proofs.Between.{AreBetween, between_on}
use Rattle.adr_run_exercised.proofs.Ends.{over, each_of_six, is_round, connected}
use Rattle.adr_run_exercised.proofs.Few.{AreOfFew}
use Rattle.adr_run_exercised.proofs.Limits.{HasFirstSchema, cycle_unrefused}
use Rattle.adr_run_exercised.proofs.Manned.{AreManned, cycling_manned}
use Rattle.adr_run_exercised.proofs.Schemas.{schema_rules}
use Rattle.adr_run_exercised.proofs.Stores.{AreKept, cycling_kept}
use Rattle.adr_run_exercised.proofs.Uncut.{NoneIsRefused, cycle_uncut}

-- ---- cycles of the four

-- an exchange between two that are beside each other in the ring
abbrev pub IsOfFour : Exchange → Type 0
IsOfFour x = Member (connection x) over × (1 ≤ x.max)

named : (x : Exchange) → IsOfFour x → Member x.dest four_names × Member x.source four_names
named x is = connected.among (connection x) is.0

pub four_are : Each IsOfFour four_pull
four_are x m = (is_round.only x m, asks_some m)
  where
    asks_some : Member x four_pull → 1 ≤ x.max
    asks_some (inl e) = omega (arith, ap (λ (y : Exchange). y.max) e)
    asks_some (inr (inl e)) = omega (arith, ap (λ (y : Exchange). y.max) e)
    asks_some (inr (inr (inl e))) = omega (arith, ap (λ (y : Exchange). y.max) e)
    asks_some (inr (inr (inr (inl e)))) = omega (arith, ap (λ (y : Exchange). y.max) e)
    asks_some (inr (inr (inr (inr k)))) = absurd k

all_turns : (rs : List (List Exchange)) → Each (λ r. Each IsOfFour r) rs → Each IsOfFour (in_turn rs)
all_turns [] all x m = absurd m
all_turns (r ∷ rs) all x m = ⊎_elim (λ k. all r (inl refl) x k) (λ k. all_turns rs (λ y n. all y (inr n)) x k) (member_of_either r (in_turn rs) x m)

pub six_are : Each IsOfFour (in_turn six_rounds)
six_are = all_turns six_rounds (each_of_six (Each IsOfFour) four_are)

-- what was no refusal, and not that there is more, was well
fine_where : (x : Exchange) (w : World) → IsOfFour x → AreManned four_names w.replicas → NoneIsRefused (step w (line_of x)).1 → Each (λ a. a.outcome ≢ outcomes.More) (step w (line_of x)).1 → IsWhole (step w (line_of x)).1
fine_where x w is are none uncut a m = by (pulls_told four_names x.dest x.source x.max (named x is).0 (named x is).1 reply_limit w are a m)
  where
    by : IsTold a.outcome ⊎ (a.outcome ≡ outcomes.More) → is_fine a.outcome ≡ true
    by (inl (inl well)) = well
    by (inl (inr refused)) = absurd (omega (arith, refused, none a m))
    by (inr more) = absurd (uncut a m more)

module _ (x : Exchange) (xs : List Exchange) (w : World) (P : Answer → Type 0) (all : Each P (answers w (map line_of (x ∷ xs)))) where
  of_first : Each P (step w (line_of x)).1
  of_first a m = all a (member_left (step w (line_of x)).1 (answers (step w (line_of x)).0 (map line_of xs)) a m)

  of_rest : Each P (answers (step w (line_of x)).0 (map line_of xs))
  of_rest a m = all a (member_right (step w (line_of x)).1 (answers (step w (line_of x)).0 (map line_of xs)) a m)

-- the answers are of no limit
unlimited_first : (x : Exchange) (xs : List Exchange) (w : World) → AreUnlimited (answers w (map line_of (x ∷ xs))) → AreUnlimited (step w (line_of x)).1
unlimited_first x xs w all = (of_first x xs w (λ a. IsRefused 21 a.outcome → ⊥) all.0, of_first x xs w (λ a. IsRefused 22 a.outcome → ⊥) all.1)

unlimited_rest : (x : Exchange) (xs : List Exchange) (w : World) → AreUnlimited (answers w (map line_of (x ∷ xs))) → AreUnlimited (answers (step w (line_of x)).0 (map line_of xs))
unlimited_rest x xs w all = (of_rest x xs w (λ a. IsRefused 21 a.outcome → ⊥) all.0, of_rest x xs w (λ a. IsRefused 22 a.outcome → ⊥) all.1)

-- ---- worlds in which the four may pull from each other

-- sound; the four are up, with nothing planned; all are of one schema, and what was collected is covered
pub record IsSteady (V : Numbers) (w : World) : Type 0 where
  pub sound : IsSoundWorld w
  pub manned : AreManned four_names w.replicas
  pub schemas : AreKept HasFirstSchema w
  pub between : AreBetween V four_names w

module _ (V : Numbers) where
  -- there a cycle is refused by limits alone
  unrefused : (x : Exchange) (w : World) → IsOfFour x → IsSteady V w → AreUnlimited (step w (line_of x)).1 → NoneIsRefused (step w (line_of x)).1
  unrefused x w is steady = cycle_unrefused V four_names w steady.sound steady.manned (λ r m. (steady.schemas.0 r m).0) steady.between x.dest x.source x.max (named x is).0 (named x is).1

  steady_on : (x : Exchange) (w : World) → IsSteady V w → IsWhole (step w (line_of x)).1 → IsSteady V (step w (line_of x)).0
  steady_on x w steady whole = let c : IsCycled w (step w (line_of x)).0 x.dest x.source = cycled w steady.sound x whole in record {
    sound = c.sound;
    manned = cycling_manned four_names x.dest x.source x.max reply_limit w steady.manned;
    schemas = cycling_kept HasFirstSchema _ schema_rules x.dest x.source x.max reply_limit w steady.schemas;
    between = between_on V four_names w (step w (line_of x)).0 steady.sound x.dest x.source c steady.between;
  }

  -- where no cycle was cut off
  pub whole_where_uncut : (xs : List Exchange) (w : World) → IsSteady V w → Each IsOfFour xs → AreUnlimited (answers w (map line_of xs)) → Each (λ a. a.outcome ≢ outcomes.More) (answers w (map line_of xs)) → AreWhole w xs
  whole_where_uncut [] w steady of unlimited uncut = tt
  whole_where_uncut (x ∷ xs) w steady of unlimited uncut =
      let none = unrefused x w (of x (inl refl)) steady (unlimited_first x xs w unlimited) in
      let whole = fine_where x w (of x (inl refl)) steady.manned none (of_first x xs w (λ a. a.outcome ≢ outcomes.More) uncut) in
      (whole, whole_where_uncut xs (step w (line_of x)).0 (steady_on x w steady whole) (λ y m. of y (inr m)) (unlimited_rest x xs w unlimited) (of_rest x xs w (λ a. a.outcome ≢ outcomes.More) uncut))

  -- where few units were issued
  pub whole_where_few : (units : ℕ) → units < reply_limit → (xs : List Exchange) (w : World) → IsSteady V w → AreOfFew units w.book.issued → Each IsOfFour xs → AreUnlimited (answers w (map line_of xs)) → AreWhole w xs
  whole_where_few units fewer [] w steady few of unlimited = tt
  whole_where_few units fewer (x ∷ xs) w steady few of unlimited =
      let is = of x (inl refl) in
      let none = unrefused x w is steady (unlimited_first x xs w unlimited) in
      let uncut = cycle_uncut four_names x.dest x.source x.max (named x is).0 (named x is).1 w steady.sound steady.manned is.1 units few fewer none in
      let whole = fine_where x w is steady.manned none uncut in
      let c : IsCycled w (step w (line_of x)).0 x.dest x.source = cycled w steady.sound x whole in
      (whole, whole_where_few units fewer xs (step w (line_of x)).0 (steady_on x w steady whole) (subst (AreOfFew units) (sym c.issued) few) (λ y m. of y (inr m)) (unlimited_rest x xs w unlimited))
