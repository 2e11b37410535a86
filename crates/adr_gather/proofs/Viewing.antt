-- What is read once what is held is written, by other words.
use Rattle.std.proofs.Common.{◌≡◌, inl, ℕ, ◌+◌, ◌≤◌, ◌<◌, List, [], ◌∷◌, length, true, false, Option, Some, None, Ok, IfSome, refl, sym, ◌∙◌, ap, subst, arith, ◌==◌}
use Rattle.std.specs.Prelude.{◌↔◌, IsSome}
use Rattle.std.specs.Option.{ForSome, option_map}
use Rattle.adr_disk.specs.Disk.{Among, Only}
use Rattle.adr_model.specs.Store.{State}
use Rattle.adr_model.specs.Lengths.{Log}
use Rattle.adr_law_journal.specs.Areas.{found}
use Rattle.adr_law_journal.specs.Kept.{Layout, Rests, IsSettled, Stages, starts}
use Rattle.adr_journal.specs.Written.{IsEitherLog}
use Rattle.adr_law_journal.proofs.Settled.{stands, rests_long}
use Rattle.adr_law_journal.proofs.Told.{if_told, at_told, if_mapped, is_some_of, some_of}
use Rattle.adr_gather.specs.Held.{once_written, with_held}
use Rattle.adr_gather.specs.Taken.{Takes}
use Rattle.adr_gather.specs.Gathered.{Gathered, Holds, content_of, images_of, gathered}
use Rattle.adr_gather.proofs.Putting.{some_held}

-- nothing is held
pub none_held : (o : Option (List ℕ)) (gate : ℕ) → once_written o gate [] ≡ o
none_held None gate = refl
none_held (Some there) gate = refl

pub is_same : (o p : Option (List ℕ)) → p ≡ o → IsSome p ↔ IsSome o
is_same o p same = subst (λ (q : Option (List ℕ)). IsSome q ↔ IsSome o) (sym same) (λ is. is, λ is. is)

module _ {D : Type 0} (content : D → Option (List ℕ)) (may_leave : D → List ℕ → Type 0) where
  -- it is told where the disk tells its bytes
  pub told_with : (g h : Gathered D) → (IsSome (content h.disk) ↔ IsSome (content g.disk)) → IsSome (content_of content h) ↔ IsSome (content_of content g)
  told_with g h both =
      (λ is. some_mapped (with_held g.gate g.held) (content g.disk) (both.0 (mapped_some (with_held h.gate h.held) (content h.disk) is)), λ is. some_mapped (with_held h.gate h.held) (content h.disk) (both.1 (mapped_some (with_held g.gate g.held) (content g.disk) is)))
    where
      mapped_some : (f : List ℕ → List ℕ) (o : Option (List ℕ)) → IsSome (option_map f o) → IsSome o
      mapped_some f None is = is
      mapped_some f (Some x) is = refl

      some_mapped : (f : List ℕ → List ℕ) (o : Option (List ℕ)) → IsSome o → IsSome (option_map f o)
      some_mapped f None is = is
      some_mapped f (Some x) is = refl

  -- behind calls that write nothing of it, there are no more outcomes
  pub images_fewer : (old new : D) (gate : ℕ) (held : List ℕ) → (IsSome (content new) ↔ IsSome (content old)) → Among (may_leave old) (may_leave new)
      → Among (images_of content may_leave (gathered old gate held)) (images_of content may_leave (gathered new gate held))
  images_fewer old new gate held both fewer bytes image = λ told. let x = image (both.1 told) in (x.0, fewer x.0 x.1, x.2)

  -- each outcome is the same once all is written
  pub images_only : (old new : D) (gate : ℕ) (held : List ℕ) → (IsSome (content new) ↔ IsSome (content old))
      → IfSome (content old) (λ there. Among (λ bytes. with_held gate held bytes ≡ with_held gate held there) (may_leave new))
      → IfSome (content_of content (gathered old gate held)) (λ there. Only there (images_of content may_leave (gathered new gate held)))
  images_only old new gate held both each =
      if_mapped (with_held gate held) (content old) (λ there. Only there (images_of content may_leave (gathered new gate held))) (λ there told bytes image.
      let x = image (both.1 (is_some_of (content old) there told)) in
      sym x.2 ∙ at_told (content old) (λ there. Among (λ bytes. with_held gate held bytes ≡ with_held gate held there) (may_leave new)) there told each x.0 x.1)

  -- what was left alone is the only one
  pub each_only : (old new : D) (gate : ℕ) (held : List ℕ) → IfSome (content old) (λ there. Only there (may_leave new))
      → IfSome (content old) (λ there. Among (λ bytes. with_held gate held bytes ≡ with_held gate held there) (may_leave new))
  each_only old new gate held only = if_told (content old) _ (λ there told bytes left. ap (with_held gate held) (at_told (content old) (λ there. Only there (may_leave new)) there told only bytes left))

  -- nothing is held of a synced disk
  pub none_only : (g : Gathered D) (new : D) (gate : ℕ) → content new ≡ content_of content g → IfSome (content new) (λ there. Only there (may_leave new))
      → IfSome (content_of content g) (λ there. Only there (images_of content may_leave (gathered new gate [])))
  none_only g new gate same only =
      if_told (content_of content g) _ (λ there told bytes image.
      let x = image (is_some_of (content new) there (same ∙ told)) in
      sym x.2 ∙ at_told (content new) (λ there. Only there (may_leave new)) there (same ∙ told) only x.0 x.1)

  -- with one outcome there is none but those before
  pub only_fewer : (g h : Gathered D) → (IsSome (content h.disk) ↔ IsSome (content g.disk)) → IfSome (content_of content g) (images_of content may_leave g) → IfSome (content_of content g) (λ there. Only there (images_of content may_leave h))
      → Among (images_of content may_leave g) (images_of content may_leave h)
  only_fewer g h both honest only bytes image = λ told.
      let was = some_of (content g.disk) told in
      let there : content_of content g ≡ Some (with_held g.gate g.held was.0) = ap (option_map (with_held g.gate g.held)) was.1 in
      let is : bytes ≡ with_held g.gate g.held was.0 = at_told (content_of content g) (λ there. Only there (images_of content may_leave h)) (with_held g.gate g.held was.0) there only bytes image in
      subst (λ (b : List ℕ). (left : List ℕ) × may_leave g.disk left × (with_held g.gate g.held left ≡ b)) (sym is)
      (at_told (content_of content g) (images_of content may_leave g) (with_held g.gate g.held was.0) there honest told)

  module _ {H : Type 0} (l : Layout H State) (g : Gathered D) (s : State) (log : Log) where
    -- a log that is settled, with nothing held
    pub settled_holds : g.held ≡ [] → g.gate + 1 ≡ log.log_end → IsSettled l content may_leave g.disk s log → Holds l content may_leave g s log
    settled_holds none ends settled = record {
      whole = record {
        at_rest = λ y told. settled.at_rest y (sym (none_held (content g.disk) g.gate) ∙ sym (ap (λ (h : List ℕ). once_written (content g.disk) g.gate h) none) ∙ told);
        synced = λ y told bytes image.
            let there : content g.disk ≡ Some y = sym (none_held (content g.disk) g.gate) ∙ sym (ap (λ (h : List ℕ). once_written (content g.disk) g.gate h) none) ∙ told in
            let x = image (is_some_of (content g.disk) y there) in
            sym x.2 ∙ ap (λ (h : List ℕ). with_held g.gate h x.0) none ∙ settled.synced y there x.0 x.1;
      };
      ends = omega (arith, ap length none, ends);
      base = record { state = s; log = log };
      settled = settled;
      base_ends = ends;
    }

    -- and the other way round
    pub holds_settled : g.held ≡ [] → Holds l content may_leave g s log → IsSettled l content may_leave g.disk s log
    holds_settled none holds = record {
      at_rest = λ y told. holds.whole.at_rest y (ap (λ (h : List ℕ). once_written (content g.disk) g.gate h) none ∙ none_held (content g.disk) g.gate ∙ told);
      synced = holds.settled.synced;
    }

    pub holds_near : Holds l content may_leave g s log → ForSome (content g.disk) (λ there. g.gate < length there)
    holds_near holds there told = let far = rests_long l holds.base.state holds.base.log there (holds.settled.at_rest there told) in omega (arith, far.1, holds.base_ends)

    -- what is held takes the log to where it stands once it is written
    pub holds_takes : 1 ≤ length g.held → (h : Holds l content may_leave g s log) → Takes l content may_leave g.disk g.gate g.held h.base.state s h.base.log log
    holds_takes some h = record {
      settled = h.settled;
      ends = h.base_ends;
      becomes = λ there told.
          subst (λ (y : List ℕ). Rests l s log y) (some_held g.gate g.held there some (holds_near h there told))
          (h.whole.at_rest (with_held g.gate g.held there) (ap (option_map (with_held g.gate g.held)) told));
    }

    -- a new area of what stands there once all is written is one of what is settled
    pub stages_on : (new : D) (place : ℕ) (written : List ℕ) (slot : ℕ) (other : Log) → IsSettled l content may_leave new s log
        → Stages l (content_of content) (images_of content may_leave) g place written slot s log other → Stages l content may_leave new place written slot s log other
    stages_on new place written slot other settled st = record {
      settled = settled;
      version = st.version;
      image = st.image;
      is = st.is;
      tells = st.tells;
      free = st.free;
      slot_is = st.slot_is;
      becomes = st.becomes;
      fits = st.fits;
    }

    -- what is found of each outcome that there is once all is written
    pub only_finds : (new : Gathered D) → Holds l content may_leave g s log → IfSome (content_of content g) (λ there. Only there (images_of content may_leave new))
        → IfSome (content g.disk) (λ _. Among (λ bytes. starts l bytes ≡ Ok (found s log)) (images_of content may_leave new))
    only_finds new holds only =
        if_told (content g.disk) _ (λ there told bytes image.
        let all : content_of content g ≡ Some (with_held g.gate g.held there) = ap (option_map (with_held g.gate g.held)) told in
        stands l s log bytes
        (subst (λ (y : List ℕ). Rests l s log y) (sym (at_told (content_of content g) (λ there. Only there (images_of content may_leave new)) (with_held g.gate g.held there) all only bytes image)) (holds.whole.at_rest (with_held g.gate g.held there) all)))

    pub whole_only : Holds l content may_leave g s log → IfSome (content_of content g) (λ there. Only there (images_of content may_leave g))
    whole_only holds = if_told (content_of content g) (λ there. Only there (images_of content may_leave g)) (λ there told. holds.whole.synced there told)

    -- the log on the disk is found until the records are written
    pub base_finds : (h : Holds l content may_leave g s log) → (there : List ℕ) → content g.disk ≡ Some there → Among (λ bytes. IsEitherLog h.base.state h.base.log s log (starts l bytes)) (may_leave g.disk)
    base_finds h there told bytes left =
        inl (stands l h.base.state h.base.log bytes (subst (λ (y : List ℕ). Rests l h.base.state h.base.log y) (sym (h.settled.synced there told bytes left)) (h.settled.at_rest there told)))

  -- where nothing is held, the outcomes are those of the disk
  pub none_left : (new : D) (gate : ℕ) (held : List ℕ) (o : Option (List ℕ)) (P : List ℕ → Type 0) → held ≡ [] → (IsSome (content new) ↔ IsSome o) → IfSome o (λ _. Among P (may_leave new)) → IfSome o (λ _. Among P (images_of content may_leave (gathered new gate held)))
  none_left new gate held o P none both h =
      if_told o _ (λ there told bytes image.
      let x = image (both.1 (is_some_of o there told)) in
      subst P (sym (ap (λ (l : List ℕ). with_held gate l x.0) none) ∙ x.2) (at_told o _ there told h x.0 x.1))

pub nothing_there : (l : List ℕ) → length l ≡ 0 → l ≡ []
nothing_there [] none = refl
nothing_there (b ∷ l) none = absurd (omega (arith, none))

pub something_there : (l : List ℕ) (n : ℕ) → n ≡ length l → (n == 0) ≡ false → 1 ≤ length l
something_there [] n is some = let yes : (n == 0) ≡ true = ap (λ (m : ℕ). m == 0) is in absurd (cc)
something_there (b ∷ l) n is some = omega arith
