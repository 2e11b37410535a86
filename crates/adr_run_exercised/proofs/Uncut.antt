-- A cycle of which no answer is a refusal, between controllers that are up, isn't cut off where fewer units were issued than it may take replies.
use Rattle.std.proofs.Common.{◌≡◌, ◌≢◌, inl, inr, ⊎_elim, ℕ, zero, suc, ◌+◌, ◌<◌, ◌≤◌, List, [], ◌∷◌, ◌++◌, Bool, true, false, cond, Option, Some, None, refl, sym, ap, ◌∙◌, subst, codes, filter, length, arith}
use Rattle.adr_call.specs.declared.answer.Answer.{Answer}
use Rattle.adr_call.specs.declared.outcome.Outcome.{Outcome}
use Rattle.adr_call.specs.declared.outcome.Outcome.TheVariants as outcomes
use Rattle.adr_model.specs.Member.{Member, Each}
use Rattle.adr_model.specs.Replica.{Replica}
use Rattle.adr_model.specs.Serve.{Request, Reply}
use Rattle.adr_model.specs.World.{Name, World, Gone, answer, asks, serves_request, delivers}
use Rattle.adr_model.specs.Cycles.{Pulled, was_taken, pull_delivered, pull_served, pull_asked, pull, and_then, pulls, reply_limit, pull_version, cycle}
use Rattle.adr_model.specs.Rings.{is_fine}
use Rattle.adr_model.specs.Sound.{IsSoundWorld}
use Rattle.adr_model.specs.Convergence.{MayCycle, units_beyond, replies_taken, AreUnlimited, EndsOrSaysMore}
use Rattle.adr_model.proofs.Members.{member_left, member_of_either}
use Rattle.adr_law_convergence.proofs.Completing.{cycle_ends}
use Rattle.adr_law_convergence.proofs.Cycling.{Goes}
use Rattle.adr_law_convergence.proofs.Found.{replica_found}
use Rattle.adr_law_convergence.specs.Rounds.{IsWhole}
use Rattle.adr_law_convergence.proofs.Fine.{goes_where_fine}
use Rattle.adr_run_exercise.specs.Summary.{refusals_in}
use Rattle.adr_run_exercised.proofs.Answered.{IsTold, AllTold, pull_told}
use Rattle.adr_run_exercised.proofs.Few.{AreOfFew, few_beyond}
use Rattle.adr_run_exercised.proofs.Manned.{AreManned, pulling_manned}

abbrev pub NoneIsRefused : List Answer → Type 0
NoneIsRefused told = Each (λ a. refusals_in a.outcome ≡ 0) told

-- an answer is that there is more
abbrev SaysCut : List Answer → Type 0
SaysCut told = (a : Answer) × Member a told × (a.outcome ≡ outcomes.More)

told_is_not_more : (o : Outcome) → IsTold o → o ≡ outcomes.More → ⊥
told_is_not_more o (inl fine) is = let e : is_fine o ≡ false = ap is_fine is in absurd (cc)
told_is_not_more o (inr refused) is = omega (arith, refused, ap refusals_in is)

-- ---- counting replies

taken_both : (xs ys : List Answer) → replies_taken (xs ++ ys) ≡ replies_taken xs + replies_taken ys
taken_both [] ys = omega arith
taken_both (x ∷ xs) ys = by (was_taken x.outcome) (taken_both xs ys)
  where
    test : Answer → Bool
    test a = was_taken a.outcome

    by : (b : Bool) → length (filter test (xs ++ ys)) ≡ length (filter test xs) + length (filter test ys)
        → length (cond b (x ∷ filter test (xs ++ ys)) (filter test (xs ++ ys))) ≡ length (cond b (x ∷ filter test xs) (filter test xs)) + length (filter test ys)
    by true rest = omega (arith, rest)
    by false rest = rest

one_taken : (xs : List Answer) (a : Answer) → Member a xs → was_taken a.outcome ≡ true → 1 ≤ replies_taken xs
one_taken [] a m is = absurd m
one_taken (x ∷ xs) a m is = by (was_taken x.outcome) refl m (λ n. one_taken xs a n is)
  where
    test : Answer → Bool
    test b = was_taken b.outcome

    by : (b : Bool) → was_taken x.outcome ≡ b → Member a (x ∷ xs) → (Member a xs → 1 ≤ length (filter test xs)) → 1 ≤ length (cond b (x ∷ filter test xs) (filter test xs))
    by true e n rest = omega arith
    by false e (inl same) rest = let t : was_taken a.outcome ≡ false = ap (λ (b : Answer). was_taken b.outcome) same ∙ e in absurd (cc)
    by false e (inr n) rest = rest n

-- a pull that goes on took its reply
delivered_taken : (dest : Name) (r : Reply) (g : Gone) → (pull_delivered dest r g).2 ≡ true → was_taken g.1 ≡ true
delivered_taken dest r (v, outcomes.Took items wrote usn) e = refl
delivered_taken dest r (v, o) e = absurd (cc)

abbrev HasTaken : List Answer → Type 0
HasTaken told = (a : Answer) × Member a told × (was_taken a.outcome ≡ true)

served_taken : (dest : Name) (w : World) (o : Option Reply) → (pull_served dest w o).2 ≡ true → HasTaken (pull_served dest w o).1
served_taken dest w None e = absurd (cc)
served_taken dest w (Some r) e = (answer (codes "deliver") dest (delivers w dest (Some r)).1, inl refl, delivered_taken dest r (delivers w dest (Some r)) e)

asked_taken : (dest source : Name) (w : World) (o : Option Request) → (pull_asked dest source w o).2 ≡ true → HasTaken (pull_asked dest source w o).1
asked_taken dest source w None e = absurd (cc)
asked_taken dest source w (Some q) e = let t = serves_request w source (Some q) in
    let s = served_taken dest t.0 t.2 e in (s.0, inr s.1, s.2)

pull_taken : (w : World) (dest source : Name) (most : ℕ) → (pull w dest source most).2 ≡ true → 1 ≤ replies_taken (pull w dest source most).1
pull_taken w dest source most e = let t = asks w dest source most pull_version in
    let s = asked_taken dest source t.0 t.2 e in one_taken (pull w dest source most).1 s.0 (inr s.1) s.2

-- the answers of a pull are among those of what begins with it
among_first : (p : Pulled) (go : World → World × List Answer) (a : Answer) → Member a p.1 → Member a (and_then p go).1
among_first p go a m = by p.2
  where
    by : (b : Bool) → Member a (and_then (p.0, p.1, b) go).1
    by true = member_left p.1 (go p.0).1 a m
    by false = m

-- where one is told that there is more, each pull before took a reply
then_took : (n : ℕ) (p : Pulled) (go : World → World × List Answer) → AllTold p.1 → (p.2 ≡ true → 1 ≤ replies_taken p.1) → (SaysCut (go p.0).1 → n ≤ replies_taken (go p.0).1)
    → SaysCut (and_then p go).1 → suc n ≤ replies_taken (and_then p go).1
then_took n p go told takes rest = by p.2 refl
  where
    by : (b : Bool) → p.2 ≡ b → SaysCut (and_then (p.0, p.1, b) go).1 → suc n ≤ replies_taken (and_then (p.0, p.1, b) go).1
    by true is (a, m, more) = ⊎_elim
        (λ l. absurd (told_is_not_more a.outcome (told a l) more))
        (λ r. omega (arith, takes is, rest (a, r, more), taken_both p.1 (go p.0).1))
        (member_of_either p.1 (go p.0).1 a m)
    by false is (a, m, more) = absurd (told_is_not_more a.outcome (told a m) more)

module _ (names : List Name) (dest source : Name) (most : ℕ) (d : Member dest names) (s : Member source names) where
  cut_took : (fuel : ℕ) (w : World) → AreManned names w.replicas → SaysCut (pulls fuel w dest source most).1 → fuel ≤ replies_taken (pulls fuel w dest source most).1
  cut_took zero w are cut = omega arith
  cut_took (suc n) w are cut = then_took n (pull w dest source most) (λ v. pulls n v dest source most) (pull_told names dest source most d s w are) (pull_taken w dest source most)
      (λ c. cut_took n (pull w dest source most).0 (pulling_manned names dest source most w are) c) cut

  first_fine : (fuel : ℕ) (w : World) → AreManned names w.replicas → 1 ≤ fuel → NoneIsRefused (pulls fuel w dest source most).1 → IsWhole (pull w dest source most).1
  first_fine zero w are some none a m = absurd (omega (arith, some))
  first_fine (suc n) w are some none a m = by (pull_told names dest source most d s w are a m)
    where
      by : IsTold a.outcome → is_fine a.outcome ≡ true
      by (inl fine) = fine
      by (inr refused) = absurd (omega (arith, refused, none a (among_first (pull w dest source most) (λ v. pulls n v dest source most) a m)))

  -- between these controllers
  module _ (w : World) (sound : IsSoundWorld w) (are : AreManned names w.replicas) (some : 1 ≤ most) (units : ℕ) (few : AreOfFew units w.book.issued) (fewer : units < reply_limit) where
    not_cut : (p q : Replica) → Goes w w dest source p q → NoneIsRefused (cycle w dest source most).1 → reply_limit ≤ replies_taken (cycle w dest source most).1 → ⊥
    not_cut p q goes none took = by (cycle_ends w p q most sound may some unlimited)
      where
        there : Member p w.replicas × (p.name ≡ dest)
        there = replica_found w dest p goes.d_found

        serves : Member q w.replicas × (q.name ≡ source)
        serves = replica_found w source q goes.s_found

        may : MayCycle w p q
        may = record {
          dest_there = there.0;
          source_there = serves.0;
          dest_up = goes.d_up;
          source_up = goes.s_up;
          dest_unplanned = (are.ready p there.0).1;
          source_unplanned = (are.ready q serves.0).1;
          schema = goes.schema;
          purged = goes.purged;
        }

        named : (P : List Answer → Type 0) → P (cycle w dest source most).1 → P (cycle w p.name q.name most).1
        named P h = subst (λ x. P (cycle w x q.name most).1) (sym there.1) (subst (λ y. P (cycle w dest y most).1) (sym serves.1) h)

        unrefused : NoneIsRefused (cycle w p.name q.name most).1
        unrefused = named NoneIsRefused none

        unlimited : AreUnlimited (cycle w p.name q.name most).1
        unlimited = ((λ a m is. omega (arith, unrefused a m, ap refusals_in is.2)), (λ a m is. omega (arith, unrefused a m, ap refusals_in is.2)))

        beyond : units_beyond p.safe q.safe ≤ units
        beyond = few_beyond units w.book.issued p.safe q.safe few (sound.replicas q serves.0).safe.store.known

        all : reply_limit ≤ replies_taken (cycle w p.name q.name most).1
        all = named (λ told. reply_limit ≤ replies_taken told) took

        by : EndsOrSaysMore w p q (cycle w p.name q.name most).1 (cycle w p.name q.name most).0 → ⊥
        by (inl says) = omega (arith, says.units, beyond, fewer)
        by (inr ended) = omega (arith, ended.1.replies.1, all, beyond, fewer)

    pub cycle_uncut : NoneIsRefused (cycle w dest source most).1 → Each (λ a. a.outcome ≢ outcomes.More) (cycle w dest source most).1
    cycle_uncut none a m more = not_cut g.0 g.1 g.2 none (cut_took reply_limit w are (a, m, more))
      where
        g : (p : Replica) × (q : Replica) × Goes w w dest source p q
        g = goes_where_fine w sound dest source most (first_fine reply_limit w are (omega arith) none)
