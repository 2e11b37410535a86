-- What a frame comes to, by what it says.
use Rattle.std.proofs.Common.{◌≡◌, inl, inr, ◌∙◌, sym, ap, subst, refl, ℕ, List, Option, Some, None, IfSome, IsSome, Result, Ok, Err, arith}
use Rattle.std.specs.Prelude.{IfOk}
use Rattle.adr_model.specs.Serve.{Request, serve}
use Rattle.adr_model.specs.Store.{State}
use Rattle.adr_law_journal.specs.Areas.{Found}
use Rattle.adr_law_journal.specs.Kept.{FindsEither}
use Rattle.adr_law_journal.proofs.Told.{at_told}
use Rattle.adr_journal.specs.declared.keeper.Keeper.{Ghosts}
use Rattle.adr_controller.specs.Running.{Running, IsInOrder}
use Rattle.adr_session.specs.declared.ending.ServeFault.{ServeFault}
use Rattle.adr_session.specs.declared.ending.ServeFault.TheVariants as faults
use Rattle.adr_outside.specs.Given.{Takes}
use Rattle.adr_session.specs.Lines.{call_said}
use Rattle.adr_session.specs.Talk.{Answered, Asks, Gives, Said, Reaction, Sends, acts, reacts, replies}
use Rattle.adr_law_controller.specs.Keeping.{Stands}
use Rattle.adr_session.specs.Told.{FindsOneOf, ReactsSo}
use Rattle.adr_session.specs.Made.{MadeSo, Makes, Reacts}
use Rattle.adr_law_controller.proofs.Crashes.{Crashes, Left, LeavesLaw, OnlyNowLaw, stands_there, still_crashes, still_left}
use Rattle.adr_session.proofs.Reacting.{finds_one, if_ok_any, stands_near}

-- ---- nothing was asked of the controller

module _ {K V : Type 0} (items : V → List ℕ) (k : Ghosts K) (leaves : LeavesLaw k) (only_now : OnlyNowLaw k)
    (c : Running K) (order : IsInOrder k c) (up : IsSome c.state) where
  -- it answered so, and stands where it stood
  same : (said : Option Said) (before after : Option (List ℕ)) (r : Result (Option V) ServeFault)
      → ((f : Found State) (moments : List ℕ) → Stands k f c → before ≡ Some moments → ReactsSo items k f moments (reacts f moments said) r c after)
      → ¬ (r ≡ Err faults.Disk) → Reacts items k said c c r before after
  same said before after r answer not_disk = record {
    up = if_ok_any (IsSome c.state) r up;
    answer = answer;
    any_moment = λ f moments stands is. still_crashes k leaves only_now (FindsOneOf f (reacts f moments said)) f c stands order (finds_one f (reacts f moments said));
    left = λ f moments stands is. still_left k leaves (FindsOneOf f (reacts f moments said)) f c c.keeper stands order (λ x left. left) (finds_one f (reacts f moments said));
    told = λ told. told;
    disk = λ is. absurd (not_disk is);
    disk_never_falls = omega arith;
  }

  -- it is no message of a client
  pub says_nothing : (said : Option Said) → said ≡ None → (moments : Option (List ℕ)) (r : Result (Option V) ServeFault) → r ≡ Ok None → Reacts items k said c c r moments moments
  says_nothing said none moments r is =
      subst (λ (r : Result (Option V) ServeFault). Reacts items k said c c r moments moments) (sym is)
      (subst (λ (said : Option Said). Reacts items k said c c (Ok None) moments moments) (sym none)
      (same None moments moments (Ok None) (λ f here stands is. (refl, stands, is)) (λ e. cc e)))

  -- memory was wanting before anything was done
  pub wants_memory : (said : Option Said) (before after : Option (List ℕ)) → after ≡ before → (r : Result (Option V) ServeFault) → r ≡ Err faults.NoMemory → Reacts items k said c c r before after
  wants_memory said before after still r is =
      subst (λ (r : Result (Option V) ServeFault). Reacts items k said c c r before after) (sym is)
      (same said before after (Err faults.NoMemory) (λ f moments stands is. (stands_near k f (reacts f moments said) c stands, inl (still ∙ is))) (λ e. cc e))

  -- the clock failed before anything was done
  pub wants_time : (said : Option Said) (before after : Option (List ℕ)) → after ≡ before → (r : Result (Option V) ServeFault) → r ≡ Err faults.Clock → Reacts items k said c c r before after
  wants_time said before after still r is =
      subst (λ (r : Result (Option V) ServeFault). Reacts items k said c c r before after) (sym is)
      (same said before after (Err faults.Clock) (λ f moments stands is. (stands, still ∙ is)) (λ e. cc e))

  -- what is told without a change
  makes_same : (answers : Found State → Answered) (r : Result V ServeFault) → ((f : Found State) → Stands k f c → MadeSo items k f (answers f) r c) → ¬ (r ≡ Err faults.Disk) → Makes items k answers c c r
  makes_same answers r made not_disk = record {
    up = if_ok_any (IsSome c.state) r up;
    made = made;
    any_moment = λ f stands. still_crashes k leaves only_now (FindsEither f.state (answers f).0.state) f c stands order (λ x finds. inl finds);
    left = λ f stands. still_left k leaves (FindsEither f.state (answers f).0.state) f c c.keeper stands order (λ x left. left) (λ x finds. inl finds);
    told = λ told. told;
    disk = λ is. absurd (not_disk is);
    disk_never_falls = omega arith;
  }

  pub tells_still : (answers : Found State → Answered) (v : V) (r : Result V ServeFault) → r ≡ Ok v → ((f : Found State) → Stands k f c → answers f ≡ (f, items v)) → Makes items k answers c c r
  tells_still answers v r is so =
      subst (λ (r : Result V ServeFault). Makes items k answers c c r) (sym is)
      (makes_same answers (Ok v) (λ f stands. subst (λ (a : Answered). (items v ≡ a.1) × Stands k a.0 c) (sym (so f stands)) (refl, stands)) (λ e. cc e))

  pub wants_still : (answers : Found State → Answered) (r : Result V ServeFault) → r ≡ Err faults.NoMemory → Makes items k answers c c r
  wants_still answers r is =
      subst (λ (r : Result V ServeFault). Makes items k answers c c r) (sym is) (makes_same answers (Err faults.NoMemory) (λ f stands. inl stands) (λ e. cc e))

-- ---- the controller was asked

-- the answer as it is framed
abbrev of_answer : {V : Type 0} → Result V ServeFault → Result (Option V) ServeFault
of_answer (Ok v) = Ok (Some v)
of_answer (Err e) = Err e

-- an answer at a moment is what is sent
abbrev pub IsSent : (Found State → Answered) → Option Said → Option (List ℕ) → Option (List ℕ) → Type 0
IsSent answers said before after = (f : Found State) (moments : List ℕ) → before ≡ Some moments → (rest : List ℕ) × (reacts f moments said ≡ Sends (answers f) rest) × (after ≡ Some rest)

module _ {K V : Type 0} (items : V → List ℕ) (k : Ghosts K) (answers : Found State → Answered) (old new : Running K) (r : Result V ServeFault) (makes : Makes items k answers old new r)
    (said : Option Said) (before after : Option (List ℕ)) (sent : IsSent answers said before after) where
  sends_so : (f : Found State) (moments rest : List ℕ) → after ≡ Some rest → (r : Result V ServeFault) → MadeSo items k f (answers f) r new → ReactsSo items k f moments (Sends (answers f) rest) (of_answer r) new after
  sends_so f moments rest is (Ok v) made = (made.0, made.1, is)
  sends_so f moments rest is (Err faults.Disk) made = (made, is)
  sends_so f moments rest is (Err faults.Clock) made = absurd made
  sends_so f moments rest is (Err faults.NoMemory) made = (made, inr is)

  still_up : (r : Result V ServeFault) → IfOk r (λ _. IsSome new.state) → IfOk (of_answer r) (λ _. IsSome new.state)
  still_up (Ok v) up = up
  still_up (Err e) up = tt

  same_fault : (r : Result V ServeFault) (e : ServeFault) → of_answer r ≡ Err e → r ≡ Err e
  same_fault (Ok v) e is = absurd (cc is)
  same_fault (Err x) e is = cc is

  framed : Reacts items k said old new (of_answer r) before after
  framed = record {
    up = still_up r makes.up;
    answer = λ f moments stands is.
        let s = sent f moments is in
        subst (λ (x : Reaction). ReactsSo items k f moments x (of_answer r) new after) (sym s.1) (sends_so f moments s.0 s.2 r (makes.made f stands));
    any_moment = λ f moments stands is.
        let s = sent f moments is in
        subst (λ (x : Reaction). Crashes k old.keeper new.keeper (FindsOneOf f x)) (sym s.1) (makes.any_moment f stands);
    left = λ f moments stands is.
        let s = sent f moments is in
        subst (λ (x : Reaction). Left k old.keeper new.keeper (FindsOneOf f x)) (sym s.1) (makes.left f stands);
    told = makes.told;
    disk = λ is. makes.disk (same_fault r faults.Disk is);
    disk_never_falls = makes.disk_never_falls;
  }

  pub answers_ok : (v : V) (out : Result (Option V) ServeFault) → r ≡ Ok v → out ≡ Ok (Some v) → Reacts items k said old new out before after
  answers_ok v out is so = subst (λ (o : Result (Option V) ServeFault). Reacts items k said old new o before after) (ap of_answer is ∙ sym so) framed

  pub answers_err : (e : ServeFault) (out : Result (Option V) ServeFault) → r ≡ Err e → out ≡ Err e → Reacts items k said old new out before after
  answers_err e out is so = subst (λ (o : Result (Option V) ServeFault). Reacts items k said old new o before after) (ap of_answer is ∙ sym so) framed

  -- and no clock failed
  pub no_clock : r ≡ Err faults.Clock → IsSome old.state → IsInOrder k old → ⊥
  no_clock is up order =
      let there = stands_there k old order up in
      subst (λ (x : Result V ServeFault). MadeSo items k there.0 (answers there.0) x new) is (makes.made there.0 there.1)

-- where it stands, with what is told
abbrev pub with_bytes : Found State → List ℕ → Answered
with_bytes f bytes = (f, bytes)

-- one error
pub same_err : {A E : Type 0} (r : Result A E) (x y : E) → r ≡ Err x → r ≡ Err y → x ≡ y
same_err r x y first second = cc (first, second)

-- a line takes the first of the moments that the clock is going to give
pub line_sent : (body : List ℕ) (now : ℕ) (before after : Option (List ℕ)) → IfSome before (λ moments. Takes now moments after) → IsSent (λ f. acts f now (call_said body)) (Some (Gives body)) before after
line_sent body now before after taken f moments is =
    let t = at_told before (λ moments. Takes now moments after) moments is taken in
    (t.0, ap (λ (moments : List ℕ). reacts f moments (Some (Gives body))) t.1, t.2)

-- so does a request
pub request_sent : (q : Request) (now : ℕ) (before after : Option (List ℕ)) → IfSome before (λ moments. Takes now moments after) → IsSent (λ f. replies f (serve f.state q now)) (Some (Asks q)) before after
request_sent q now before after taken f moments is =
    let t = at_told before (λ moments. Takes now moments after) moments is taken in
    (t.0, ap (λ (moments : List ℕ). reacts f moments (Some (Asks q))) t.1, t.2)
