-- What each call of a pull keeps, pulls and cycles keep, and what holds of each answer to one holds of all of theirs.
use Rattle.std.proofs.Common.{◌≡◌, inl, inr, ⊎_elim, ℕ, zero, suc, List, [], ◌∷◌, Bool, true, false, Option, Some, None, refl, sym, subst, codes}
use Rattle.adr_call.specs.declared.answer.Answer.{Answer}
use Rattle.adr_call.specs.declared.outcome.Outcome.{Outcome}
use Rattle.adr_call.specs.declared.outcome.Outcome.TheVariants as outcomes
use Rattle.adr_call.specs.declared.event.Event.{Event}
use Rattle.adr_call.specs.declared.event.Event.TheVariants as events
use Rattle.adr_call.specs.declared.event.Exchange.{Exchange}
use Rattle.adr_call.specs.declared.event.Exchange.TheVariants as exchanges
use Rattle.adr_model.specs.Member.{Each}
use Rattle.adr_model.specs.Serve.{Request, Reply}
use Rattle.adr_model.specs.World.{Name, World, Sent, answer, asks, serves_request, delivers}
use Rattle.adr_model.specs.Cycles.{Pulled, pull_served, pull_asked, pull, and_then, pulls, reply_limit, pull_version}
use Rattle.adr_model.specs.Rings.{ring, times, rings}
use Rattle.adr_model.specs.Step.{goes, step}
use Rattle.adr_model.specs.Convergence.{IsOnTheWay}
use Rattle.adr_model.proofs.Members.{member_of_either}
use Rattle.adr_model.proofs.Ringing.{rings_so, amid_so}

-- what holds of a call that makes a message: of the world behind it, of its answer, and of the message in that world
abbrev pub Sends : {A : Type 0} → (World → Type 0) → (World → A → Type 0) → (Outcome → Type 0) → Sent A → Type 0
Sends I M P t = I t.0 × (P t.1 × ((x : _) → t.2 ≡ Some x → M t.0 x))

-- what the calls of a pull keep of worlds, by what holds of the requests and replies in them, and what holds of each answer
pub record IsKeptByCalls (I : World → Type 0) (Q : World → Request → Type 0) (R : World → Reply → Type 0) (P : Outcome → Type 0) : Type 0 where
  pub asks : (w : World) (name partner : Name) (max : ℕ) → I w → Sends I Q P (asks w name partner max pull_version)
  pub serves : (w : World) (name : Name) (q : Request) → I w → Q w q → Sends I R P (serves_request w name (Some q))
  pub delivers : (w : World) (name : Name) (r : Reply) → I w → R w r → I (delivers w name (Some r)).0 × P (delivers w name (Some r)).1
  pub more : P outcomes.More

module _ (I : World → Type 0) (Q : World → Request → Type 0) (R : World → Reply → Type 0) (P : Outcome → Type 0) (kept : IsKeptByCalls I Q R P) (dest source : Name) (max : ℕ) where
  abbrev All : List Answer → Type 0
  All told = Each (λ (a : Answer). P a.outcome) told

  none : All []
  none a m = absurd m

  one_more : (verb : List ℕ) (name : Name) (o : Outcome) (rest : List Answer) → P o → All rest → All (answer verb name o ∷ rest)
  one_more verb name o rest is all a (inl e) = subst (λ (b : Answer). P b.outcome) (sym e) is
  one_more verb name o rest is all a (inr m) = all a m

  served : (w : World) (o : Option Reply) → I w → ((r : Reply) → o ≡ Some r → R w r) → I (pull_served dest w o).0 × All (pull_served dest w o).1
  served w None is all = (is, none)
  served w (Some r) is all = let t = kept.delivers w dest r is (all r refl) in (t.0, one_more (codes "deliver") dest (delivers w dest (Some r)).1 [] t.1 none)

  asked : (w : World) (o : Option Request) → I w → ((q : Request) → o ≡ Some q → Q w q) → I (pull_asked dest source w o).0 × All (pull_asked dest source w o).1
  asked w None is all = (is, none)
  asked w (Some q) is all =
      let t = kept.serves w source q is (all q refl) in
      let s = served (serves_request w source (Some q)).0 (serves_request w source (Some q)).2 t.0 t.1.1 in
      (s.0, one_more (codes "serve") source (serves_request w source (Some q)).1 (pull_served dest (serves_request w source (Some q)).0 (serves_request w source (Some q)).2).1 t.1.0 s.1)

  pub pull_so : (w : World) → I w → I (pull w dest source max).0 × All (pull w dest source max).1
  pull_so w is =
      let t = kept.asks w dest source max is in
      let s = asked (asks w dest source max pull_version).0 (asks w dest source max pull_version).2 t.0 t.1.1 in
      (s.0, one_more (codes "ask") dest (asks w dest source max pull_version).1 (pull_asked dest source (asks w dest source max pull_version).0 (asks w dest source max pull_version).2).1 t.1.0 s.1)

  then_so : (p : Pulled) (go : World → World × List Answer) → I p.0 × All p.1 → ((v : World) → I v → I (go v).0 × All (go v).1) → I (and_then p go).0 × All (and_then p go).1
  then_so p go is next = by p.2
    where
      by : (b : Bool) → I (and_then (p.0, p.1, b) go).0 × All (and_then (p.0, p.1, b) go).1
      by true = let t = next p.0 is.0 in (t.0, λ a m. ⊎_elim (λ l. is.1 a l) (λ r. t.1 a r) (member_of_either p.1 (go p.0).1 a m))
      by false = is

  pub pulls_so : (n : ℕ) (w : World) → I w → I (pulls n w dest source max).0 × All (pulls n w dest source max).1
  pulls_so zero w is = (is, one_more (codes "cycle") dest outcomes.More [] kept.more none)
  pulls_so (suc n) w is = then_so (pull w dest source max) (λ v. pulls n v dest source max) (pull_so w is) (λ v h. pulls_so n v h)

-- of worlds alone
pub worlds_alone : (I : World → Type 0) → ((w : World) (name partner : Name) (max : ℕ) → I w → I (asks w name partner max pull_version).0) → ((w : World) (name : Name) (o : Option Request) → I w → I (serves_request w name o).0)
    → ((w : World) (name : Name) (o : Option Reply) → I w → I (delivers w name o).0) → IsKeptByCalls I (λ w q. Unit {0}) (λ w r. Unit {0}) (λ o. Unit {0})
worlds_alone I asking serving delivering = record {
  asks = λ w name partner max is. (asking w name partner max is, (tt, λ x e. tt));
  serves = λ w name q is m. (serving w name (Some q) is, (tt, λ x e. tt));
  delivers = λ w name r is m. (delivering w name (Some r) is, tt);
  more = tt;
}

-- of the answers to a ring too
pub ring_so : (I : World → Type 0) (Q : World → Request → Type 0) (R : World → Reply → Type 0) (P : Outcome → Type 0) → IsKeptByCalls I Q R P → ((rounds : ℕ) (directories vectors : Bool) → P (outcomes.Compared rounds directories vectors))
    → (name : Name) (others : List Name) (rounds max : ℕ) (w : World) → I w → I (rings w name others rounds max).0 × Each (λ (a : Answer). P a.outcome) (rings w name others rounds max).1
ring_so I Q R P kept comparing name others rounds max w is =
    rings_so I (λ (a : Answer). P a.outcome) (λ v dest source most h. pulls_so I Q R P kept dest source most reply_limit v h) name others rounds max (λ v d e. comparing rounds d e) w is

-- and of whatever controllers pull
pub goes_so : (I : World → Type 0) (Q : World → Request → Type 0) (R : World → Reply → Type 0) (P : Outcome → Type 0) → IsKeptByCalls I Q R P → ((rounds : ℕ) (directories vectors : Bool) → P (outcomes.Compared rounds directories vectors))
    → (name : Name) (what : Exchange) (w : World) → I w → I (goes w name what).0 × Each (λ (a : Answer). P a.outcome) (goes w name what).1
goes_so I Q R P kept comparing name (exchanges.Pull source max) w is = pull_so I Q R P kept name source max w is
goes_so I Q R P kept comparing name (exchanges.Cycle source max) w is = pulls_so I Q R P kept name source max reply_limit w is
goes_so I Q R P kept comparing name (exchanges.Ring others rounds max) w is = ring_so I Q R P kept comparing name others rounds max w is

-- what pulls keep, and holds behind a line, holds of each world on the way
pub way_case : (I P : World → Type 0) (w : World) (e : Event) → I w → ((x : World) (name source : Name) (max n : ℕ) → I x → I (pulls n x name source max).0) → ((x : World) → I x → P x) → P (step w e).0
    → (v : World) → IsOnTheWay w e v → P v
way_case I P w (events.Goes name (exchanges.Cycle source max)) is keeps weak steps v way = subst P (sym way.1) (weak (pulls way.0 w name source max).0 (keeps w name source max way.0 is))
way_case I P w (events.Goes name (exchanges.Ring others rounds max)) is keeps weak steps v way = weak v (amid_so I keeps (times rounds (ring name others)) max w is v way)
way_case I P w e is keeps weak steps v way = subst P (sym way) steps
