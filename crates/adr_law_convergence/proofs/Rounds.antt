-- Rounds over connected controllers: equal directories behind n - 1, equal vectors behind twice as many.
use Rattle.std.proofs.Common.{◌≡◌, inl, inr, ⊎_elim, ℕ, zero, suc, ◌+◌, ◌*◌, ◌≤◌, List, [], ◌∷◌, ◌++◌, refl, sym, ap, ◌∙◌, subst, length, arith}
use Rattle.adr_model.specs.Member.{Member, Each}
use Rattle.adr_model.specs.World.{Name, World}
use Rattle.adr_model.specs.Sound.{IsSoundWorld}
use Rattle.adr_model.proofs.Members.{member_left, member_right, member_of_either}
use Rattle.adr_model.specs.Rings.{Connection}
use Rattle.adr_law_convergence.specs.Rounds.{Exchange, connection, AreWhole, behind_exchanges, AllHear, ShowTheSame, HaveOneVector, IsRound, in_turn, RoundsConverge, NearRoundsConverge}
use Rattle.adr_law_convergence.proofs.Hearing.{rounds_reach}
use Rattle.adr_law_convergence.proofs.Directories.{hearers_show_the_same}
use Rattle.adr_law_convergence.proofs.Vectors.{hearers_have_one_vector}

-- the exchanges of rounds over connections are over them
only_over : (over : List Connection) (rs : List (List Exchange)) → Each (IsRound over) rs → Each (λ x. Member (connection x) over) (in_turn rs)
only_over over [] are x m = absurd m
only_over over (r ∷ rs) are x m = ⊎_elim (λ k. (are r (inl refl)).only x k) (λ k. only_over over rs (λ y n. are y (inr n)) x k) (member_of_either r (in_turn rs) x m)

-- rounds, the first ones and the others
record Parted (rs : List (List Exchange)) (n : ℕ) : Type 0 where
  first : List (List Exchange)
  others : List (List Exchange)
  is : rs ≡ first ++ others
  count : length first ≡ n

parted : (rs : List (List Exchange)) (n : ℕ) → n ≤ length rs → Parted rs n
parted rs zero le = record { first = []; others = rs; is = refl; count = refl }
parted [] (suc n) le = absurd (omega (arith, le))
parted (r ∷ rs) (suc n) le = let t = parted rs n (omega (arith, le)) in record { first = r ∷ t.first; others = t.others; is = ap (λ ys. r ∷ ys) t.is; count = ap suc t.count }

assoc : (xs ys zs : List Exchange) → xs ++ (ys ++ zs) ≡ (xs ++ ys) ++ zs
assoc [] ys zs = refl
assoc (x ∷ xs) ys zs = ap (λ t. x ∷ t) (assoc xs ys zs)

turns_of_both : (rs ts : List (List Exchange)) → in_turn (rs ++ ts) ≡ in_turn rs ++ in_turn ts
turns_of_both [] ts = refl
turns_of_both (r ∷ rs) ts = ap (λ xs. r ++ xs) (turns_of_both rs ts) ∙ assoc r (in_turn rs) (in_turn ts)

length_of_both : (rs ts : List (List Exchange)) → length (rs ++ ts) ≡ length rs + length ts
length_of_both [] ts = omega arith
length_of_both (r ∷ rs) ts = omega (arith, length_of_both rs ts)

module _ (w : World) (names : List Name) (over : List Connection) (rounds : List (List Exchange)) (sound : IsSoundWorld w) (among : Each (λ c. Member c.0 names × Member c.1 names) over)
    (are : Each (IsRound over) rounds) (whole : AreWhole w (in_turn rounds)) where
  directories : AllHear names (in_turn rounds) → ShowTheSame names (behind_exchanges w (in_turn rounds))
  directories hear = hearers_show_the_same w names (in_turn rounds) sound whole (λ x m named. (among (connection x) (only_over over rounds are x m)).1) hear

  -- so many rounds, by which nobody has anything left to write, and others by which each hears from each
  vectors : (n : ℕ) → n ≤ length rounds → length names ≤ n + 1
      → ((others : List (List Exchange)) → Each (IsRound over) others → length others + n ≡ length rounds → AllHear names (in_turn others))
      → HaveOneVector names (behind_exchanges w (in_turn rounds))
  vectors n le enough hear = subst (λ xs. HaveOneVector names (behind_exchanges w xs)) (sym both)
      (hearers_have_one_vector w names over p.first (in_turn p.others) sound among first_are (only_over over p.others others_are)
      (subst (AreWhole w) both whole) (omega (arith, enough, p.count)) (hear p.others others_are count))
    where
      p : Parted rounds n
      p = parted rounds n le

      both : in_turn rounds ≡ in_turn p.first ++ in_turn p.others
      both = ap in_turn p.is ∙ turns_of_both p.first p.others

      first_are : Each (IsRound over) p.first
      first_are x m = are x (subst (λ rs. Member x rs) (sym p.is) (member_left p.first p.others x m))

      others_are : Each (IsRound over) p.others
      others_are x m = are x (subst (λ rs. Member x rs) (sym p.is) (member_right p.first p.others x m))

      count : length p.others + n ≡ length rounds
      count = omega (arith, p.count, ap length p.is, length_of_both p.first p.others)

nobody : (xs : List Name) → length xs ≡ 0 → (x : Name) → Member x xs → ⊥
nobody [] e x k = k
nobody (y ∷ ys) e x k = omega (arith, e)

pub rounds_converge : RoundsConverge
rounds_converge w names over rounds sound connected are whole =
    (λ many. directories w names over rounds sound connected.among are whole ((rounds_reach over names rounds are).1 connected many), λ many. by (length names) refl many)
  where
    by : (n : ℕ) → length names ≡ n → 2 * length names ≤ length rounds + 2 → HaveOneVector names (behind_exchanges w (in_turn rounds))
    by zero is many = λ r m q n named also. absurd (nobody names is r.name named)
    by (suc n) is many = vectors w names over rounds sound connected.among are whole n (omega (arith, many, is)) (omega (arith, is))
        (λ others others_are count. (rounds_reach over names others others_are).1 connected (omega (arith, many, is, count)))

pub near_rounds_converge : NearRoundsConverge
near_rounds_converge w names over rounds far sound among within are whole =
    (λ many. directories w names over rounds sound among are whole ((rounds_reach over names rounds are).0 far within many), λ many. by (length names) refl many)
  where
    by : (n : ℕ) → length names ≡ n → length names + far ≤ length rounds + 1 → HaveOneVector names (behind_exchanges w (in_turn rounds))
    by zero is many = λ r m q n named also. absurd (nobody names is r.name named)
    by (suc n) is many = vectors w names over rounds sound among are whole n (omega (arith, many, is)) (omega (arith, is))
        (λ others others_are count. (rounds_reach over names others others_are).0 far within (omega (arith, many, is, count)))
