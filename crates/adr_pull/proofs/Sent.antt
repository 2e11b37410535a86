-- A client's lines, by how each came out.
use Rattle.std.proofs.Common.{◌≡◌, ◌⊎◌, inl, inr, ⊎_elim, cond, not, filter, ℕ, ◌≤◌, Bool, true, false, List, [], ◌∷◌, ◌++◌, ◌&&◌, take, length, append_assoc, Option, Some, None, Result, Ok, Err, refl, sym, ap, ◌∙◌, subst, arith, take_all}
use Rattle.std.specs.Prelude.{codes}
use Rattle.std.proofs.lemmas.List.{append-nil}
use Rattle.adr_schedule.specs.Commands.{is_passed}
use Rattle.adr_schedule.specs.Lines.{lines_of}
use Rattle.adr_io.specs.Told.{Adds, AddsFront}
use Rattle.adr_outside.specs.Traffic.{Traffic}
use Rattle.adr_frames.specs.Frames.{frame}
use Rattle.adr_pull.specs.declared.fault.SendFault.{SendFault}
use Rattle.adr_pull.specs.declared.fault.SendFault.TheVariants as faults
use Rattle.adr_pull.specs.Exchange.{HasSentFront, heard_in, moved}
use Rattle.adr_pull.specs.Sending.{Course, IsAt, IsSaying, IsTelling, Fails, Place, Sends, TakesLine, Within, answer_in, converse, exchange, goes_on, hears, says, spoken, tells}
use Rattle.adr_pull.specs.Told.{HasDone}

-- ---- one line

tells_sent : (p : Place) (rest : List ℕ) (a : Option (List ℕ × Bool)) → (tells p rest a).0.sent ≡ p.sent
tells_sent p rest None = refl
tells_sent p rest (Some a) = refl

hears_sent : (line : List ℕ) (p : Place) (heard : Option (List ℕ × List ℕ)) → (hears line p heard).0.sent ≡ p.sent
hears_sent line p None = refl
hears_sent line p (Some h) = tells_sent p h.1 (answer_in line h.0)

module _ (t : Traffic) (line : List ℕ) (p : Place) where
  abbrev message : List ℕ
  message = frame (4 ∷ line)

  abbrev pub Next : Course
  Next = exchange line p

  -- where the connection stands at the place
  abbrev pub Here : Traffic
  Here = record t { left = p.left; sent = p.sent }

  sent_next : Next.0.sent ≡ p.sent ++ message
  sent_next = hears_sent line (says p line) (heard_in p.left)

  -- a front of the line was sent
  saying : (net : Option Traffic) (lines : Option (List ℕ)) → HasSentFront Here message net → lines ≡ Some p.written
      → IsSaying (HasDone t net lines) p Next.0
  saying net lines sent told = (
    p.sent ++ take sent.1 message,
    (message, sent.1, sent_next, refl),
    record { left = sent.0; net = sent.2; lines = told },
  )

  -- and all of it
  said_all : (net : Option Traffic) (lines : Option (List ℕ)) (rest : List ℕ) → net ≡ Some (moved Here rest message)
      → lines ≡ Some p.written → IsSaying (HasDone t net lines) p Next.0
  said_all net lines rest is told =
      saying net lines (
        rest,
        length message,
        is ∙ ap (λ (xs : List ℕ). Some (moved Here rest xs)) (sym (take_all
            (length message) message (omega arith))),
      ) told

  -- the line failed, or no whole frame came
  pub said_err : (fault : SendFault) (net : Option Traffic) (lines : Option (List ℕ)) → Fails Here
      (4 ∷ line) fault net → lines ≡ Some p.written
      → TakesLine t p Next (Err fault) net lines
  said_err faults.BadPeer net lines so told =
      let is : Next ≡ (says p line, true) = ap (hears line (says p line)) so.0 in
      subst (λ (x : Course). TakesLine t p x (Err faults.BadPeer) net lines) (sym is)
      (refl, record { left = so.1.0; net = so.1.1; lines = told })
  said_err faults.Link net lines so told = saying net lines so told
  said_err faults.NoMemory net lines so told = inl (saying net lines so told)
  said_err faults.Write net lines so told = absurd so

  -- a frame was heard
  module _ (bytes rest : List ℕ) (heard : heard_in p.left ≡ Some (bytes, rest)) (net : Option Traffic)
      (came_in : net ≡ Some (moved Here rest message)) where
    next_is : (a : Option (List ℕ × Bool)) → answer_in line bytes ≡ a → Next ≡ tells (says p line) rest a
    next_is a is = ap (hears line (says p line)) heard ∙ ap (tells (says p line) rest) is

    -- that isn't due
    pub strange : (lines : Option (List ℕ)) → answer_in line bytes ≡ None → lines ≡ Some p.written
        → TakesLine t p Next (Err faults.BadPeer) net lines
    strange lines is told =
        subst (λ (x : Course). TakesLine t p x (Err faults.BadPeer) net lines) (sym (next_is None is))
        (refl, record { left = rest; net = came_in; lines = told })

    -- that is
    module _ (answer : List ℕ) (accepted : Bool) (is : answer_in line bytes ≡ Some (answer, accepted))
        (before lines : Option (List ℕ)) (told : before ≡ Some p.written) where
      abbrev written : List ℕ
      written = answer ++ codes "\n"

      telling : AddsFront before lines written → IsTelling (HasDone t net lines) p Next.0
      telling front =
          let some = subst (λ (o : Option (List ℕ)). AddsFront o lines written) told front in
          subst (λ (x : Course). IsTelling (HasDone t net lines) p x.0) (sym (next_is (Some (answer, accepted)) is)) (
            p.written ++ take some.0 written,
            (written, some.0, append_assoc p.written answer (codes "\n"), refl),
            record { left = rest; net = came_in; lines = some.1 },
          )

      pub told_err : (fault : SendFault) → (fault ≡ faults.Write) ⊎ (fault ≡ faults.NoMemory)
          → AddsFront before lines written → TakesLine t p Next (Err fault) net lines
      told_err fault (inl so) front = subst (λ (x : SendFault). TakesLine t p Next (Err x) net lines) (sym so) (telling front)
      told_err fault (inr so) front = subst (λ (x : SendFault). TakesLine t p Next (Err x) net lines) (sym so) (inr
          (telling front))

      pub told_so : Adds before lines written → TakesLine t p Next (Ok accepted) net lines
      told_so adds =
          subst (λ (x : Course). TakesLine t p x (Ok accepted) net lines) (sym (next_is (Some (answer, accepted)) is)) (
            refl,
            refl,
            record {
              net = came_in;
              lines = subst (λ (o : Option (List ℕ)). Adds o lines written) told adds ∙ ap (λ (xs : List ℕ). Some xs)
                  (sym (append_assoc p.written answer (codes "\n")));
            },
          )

-- ---- lines, one after the other

went_on : (c : Course) (go : Place → Course) → c.1 ≡ false → goes_on c go ≡ go c.0
went_on (q, false) go is = refl
went_on (q, true) go is = absurd (cc is)

went_not : (c : Course) (go : Place → Course) → c.1 ≡ true → goes_on c go ≡ c
went_not (q, false) go is = absurd (cc is)
went_not (q, true) go is = refl

same_course : (c d : Course) → c ≡ d → c.1 ≡ d.1
same_course c d is = ap (λ (x : Course). x.1) is

-- behind some lines the others follow
behind : (done more : List (List ℕ)) (p : Place) → (converse done p).1 ≡ false → converse
    (done ++ more) p ≡ converse more (converse done p).0
behind [] more p none = refl
behind (line ∷ done) more p none = by (exchange line p) (λ q. behind done more q) none
  where
    by : (c : Course) → ((q : Place) → (converse done q).1 ≡ false → converse (done ++ more) q ≡ converse more
        (converse done q).0)
        → (goes_on c (λ q. converse done q)).1 ≡ false
        → goes_on c (λ q. converse (done ++ more) q) ≡ converse more (goes_on c (λ q. converse done q)).0
    by (q, false) so none = so q none
    by (q, true) so none = absurd (cc none)

module _ (t : Traffic) (p : Place) (lines : List (List ℕ)) where
  -- some of the lines were sent and answered, and these are left
  pub record GoesOn (left : List (List ℕ)) (all : Bool) (net : Option Traffic) (told : Option (List ℕ)) : Type 0 where
    pub done : List (List ℕ)
    pub parts : lines ≡ done ++ left
    pub none : (converse done p).1 ≡ false
    pub accepted : all ≡ (converse done p).0.accepted
    pub at : IsAt t (converse done p).0 net told

  pub begins : (net : Option Traffic) (told : Option (List ℕ)) → p.accepted ≡ true → IsAt t p net told
      → GoesOn lines true net told
  begins net told is at = record { done = []; parts = refl; none = refl; accepted = sym is; at = at }

  over : (all : Bool) (net : Option Traffic) (told : Option (List ℕ)) → GoesOn [] all net told → Sends (λ q. IsAt t q net told) (HasDone t net told) p lines
      (Ok all)
  over all net told on =
      let whole : on.done ≡ lines = sym (append-nil on.done) ∙ sym on.parts in
      subst (λ (ls : List (List ℕ)). Sends (λ q. IsAt t q net told) (HasDone t net told) p ls (Ok all)) whole (on.none, on.accepted, on.at)

  -- one line more
  module _ (line : List ℕ) (left : List (List ℕ)) (all : Bool) (before : Option Traffic) (was : Option (List ℕ))
      (on : GoesOn (line ∷ left) all before was) where
    abbrev pub Stood : Place
    Stood = (converse on.done p).0

    abbrev pub Comes : Course
    Comes = exchange line Stood

    one_more : converse (on.done ++ line ∷ []) p ≡ goes_on Comes (λ q. let c : Course = (q, false) in c)
    one_more = behind on.done (line ∷ []) p on.none

    pub further : (accepted : Bool) (net : Option Traffic) (told : Option (List ℕ)) → TakesLine t Stood Comes
        (Ok accepted) net told → GoesOn left (all && accepted) net told
    further accepted net told takes =
        let is : converse (on.done ++ line ∷ []) p ≡ (Comes.0, false) = one_more ∙ went_on Comes
        (λ q. let c : Course = (q, false) in c) takes.0 in
        record {
          done = on.done ++ line ∷ [];
          parts = on.parts ∙ sym (append_assoc on.done (line ∷ []) left);
          none = same_course _ _ is;
          accepted = ap (λ (b : Bool). b && accepted) on.accepted ∙ sym takes.1 ∙ sym (ap (λ (x : Course). x.0.accepted) is);
          at = subst (λ (x : Course). IsAt t x.0 net told) (sym is) takes.2;
        }

    within : (P : Place → Place → Type 0) → P Stood Comes.0 → Within lines p P
    within P holds = (on.done, line, left, on.parts, on.none, holds)

    pub ends : (fault : SendFault) (net : Option Traffic) (told : Option (List ℕ)) → TakesLine t Stood Comes
        (Err fault) net told → Sends (λ q. IsAt t q net told) (HasDone t net told) p lines (Err fault)
    ends faults.BadPeer net told takes =
        let is : converse (on.done ++ line ∷ left) p ≡ Comes = behind on.done (line ∷ left) p on.none ∙ went_not Comes
        (λ q. converse left q) takes.0 in
        subst (λ (ls : List (List ℕ)). Sends (λ q. IsAt t q net told) (HasDone t net told) p ls (Err faults.BadPeer)) (sym on.parts)
        (subst (λ (x : Course). (x.1 ≡ true) × HasDone t net told x.0.sent x.0.written) (sym is) (takes.0, takes.1))
    ends faults.Link net told takes = within (λ a b. IsSaying (HasDone t net told) a b) takes
    ends faults.Write net told takes = within (λ a b. IsTelling (HasDone t net told) a b) takes
    ends faults.NoMemory net told takes = within (λ a b. IsSaying (HasDone t net told) a b ⊎ IsTelling (HasDone t net told) a b) takes

-- ---- the lines of a text

spoken_so : (line : List ℕ) (lines : List (List ℕ)) → is_passed line ≡ false → filter (λ l. not (is_passed l))
    (line ∷ lines) ≡ line ∷ filter (λ l. not (is_passed l)) lines
spoken_so line lines is = ap (λ (b : Bool). cond (not b) (line ∷ filter (λ l. not (is_passed l)) lines) (filter
    (λ l. not (is_passed l)) lines)) is

spoken_not : (line : List ℕ) (lines : List (List ℕ)) → is_passed line ≡ true → filter (λ l. not (is_passed l))
    (line ∷ lines) ≡ filter (λ l. not (is_passed l)) lines
spoken_not line lines is = ap (λ (b : Bool). cond (not b) (line ∷ filter (λ l. not (is_passed l)) lines) (filter
    (λ l. not (is_passed l)) lines)) is

and_true : (b : Bool) → (b && true) ≡ b
and_true true = refl
and_true false = refl

same_ok : (a b : Bool) (r : Result Bool SendFault) → r ≡ Ok a → r ≡ Ok b → a ≡ b
same_ok a b r one two = cc (one, two)

module _ (t : Traffic) (p : Place) (lines : List (List ℕ)) (rest line after : List ℕ)
    (first : lines_of rest ≡ line ∷ lines_of after) (all : Bool)
    (before net : Option Traffic) (was told : Option (List ℕ)) (on : GoesOn t p lines (spoken rest) all before was)
    (result : Result Bool SendFault)
    (passed : is_passed line ≡ true → (result ≡ Ok true) × (net ≡ before) × (told ≡ was))
    (takes : is_passed line ≡ false → (u : Traffic) (q : Place) → IsAt u q before was → TakesLine u q
    (exchange line q) result net told) where
  split : (b : Bool) → is_passed line ≡ b → (is_passed line ≡ true) ⊎ (is_passed line ≡ false)
  split true is = inl is
  split false is = inr is

  here : is_passed line ≡ false → GoesOn t p lines (line ∷ spoken after) all before was
  here is = subst (λ (ls : List (List ℕ)). GoesOn t p lines ls all before was) (ap (λ (ls : List (List ℕ)). filter
      (λ l. not (is_passed l)) ls) first ∙ spoken_so line (lines_of after) is) on

  pub turn_err : (fault : SendFault) → result ≡ Err fault → Sends (λ q. IsAt t q net told) (HasDone t net told) p lines (Err fault)
  turn_err fault is =
      ⊎_elim
      (λ so. absurd (cc ((passed so).0, is)))
      (λ so. ends t p lines line (spoken after) all before was (here so) fault net told
      (subst (λ (r : Result Bool SendFault). TakesLine t (Stood t p lines line (spoken after) all before was
      (here so)) (Comes t p lines line (spoken after) all before was (here so)) r net told) is
      (takes so t (Stood t p lines line (spoken after) all before was (here so)) (here so).at)))
      (split (is_passed line) refl)

  pub turn_so : (accepted : Bool) → result ≡ Ok accepted → GoesOn t p lines (spoken after) (all && accepted) net told
  turn_so accepted is =
      ⊎_elim
      (λ so.
      let none = passed so in
      let yes : true ≡ accepted = same_ok true accepted result none.0 is in
      let skip = ap (λ (ls : List (List ℕ)). filter (λ l. not (is_passed l)) ls) first ∙ spoken_not line (lines_of after) so in
      subst (λ (b : Bool). GoesOn t p lines (spoken after) b net told) (sym (and_true all) ∙ ap (λ (b : Bool). all && b) yes)
      (subst (λ (o : Option Traffic). GoesOn t p lines (spoken after) all o told) (sym none.1)
      (subst (λ (o : Option (List ℕ)). GoesOn t p lines (spoken after) all before o) (sym none.2)
      (subst (λ (ls : List (List ℕ)). GoesOn t p lines ls all before was) skip on))))
      (λ so. further t p lines line (spoken after) all before was (here so) accepted net told
      (subst (λ (r : Result Bool SendFault). TakesLine t (Stood t p lines line (spoken after) all before was
      (here so)) (Comes t p lines line (spoken after) all before was (here so)) r net told) is
      (takes so t (Stood t p lines line (spoken after) all before was (here so)) (here so).at)))
      (split (is_passed line) refl)

-- none is left
pub over_all : (t : Traffic) (p : Place) (lines : List (List ℕ)) (rest : List ℕ) (all : Bool) (net : Option Traffic)
    (told : Option (List ℕ)) → length rest ≤ 0
    → GoesOn t p lines (spoken rest) all net told → Sends (λ q. IsAt t q net told) (HasDone t net told) p lines (Ok all)
over_all t p lines [] all net told is on = over t p lines all net told on
over_all t p lines (b ∷ bs) all net told is on = absurd (omega (arith, is))
