-- What is met going up, with one object more and without it.
use Rattle.std.proofs.Common.{◌≡◌, ◌⊎◌, inl, inr, ℕ, zero, suc, false, Option, Some, None, sym, ap, ◌∙◌, subst}
use Rattle.adr_model.specs.Update.{Identifier}
use Rattle.adr_model.specs.Place.{Node, named_before}
use Rattle.adr_law_tree.specs.Walk.{Look, Up, Met, Breaks}

pub one : {A : Type 0} {x y : A} {o : Option A} → o ≡ Some x → o ≡ Some y → x ≡ y
one e f = cc

module _ (at : Look) where
  -- beyond what is met
  pub met_beyond : (k : ℕ) (g : Identifier) (p m : Node) → Up at k g p → Met at p.parent m → Met at g m
  met_beyond zero g p m up more = (suc more.0, (p, up, more.1))
  met_beyond (suc k) g p m up more = let t = met_beyond k up.0.parent p m up.2 more in (suc t.0, (up.0, up.1, t.1))

  pub met_from : (g : Identifier) (p m : Node) → Met at g p → Met at p.parent m → Met at g m
  met_from g p m up more = met_beyond up.0 g p m up.1 more

  -- the way from one object to itself leads from each object on it to that one
  pub step : (n : Node) → Met at n.parent n → (g : Identifier) (p : Node) → at g ≡ Some p → Met at g n → Met at p.parent n
  step n round g p is (zero, e) = subst (λ (x : Node). Met at x.parent n) (one e is) round
  step n round g p is (suc k, (q, e, up)) = subst (λ (x : Node). Met at x.parent n) (one e is) (k, up)

  pub back : (n : Node) → Met at n.parent n → (k : ℕ) (g : Identifier) (m : Node) → Met at g n → Up at k g m → Met at m.parent n
  back n round zero g m here up = step n round g m up here
  back n round (suc k) g m here (p, is, up) = back n round k p.parent m (step n round g p is here) up

  -- each object of a loop has the loop above it
  pub around : (n m : Node) → Met at n.parent n → Met at n.parent m → Met at m.parent n
  around n m round up = back n round up.0 n.parent m round up.1

-- the object that is found has the GUID
abbrev pub Keeps : Look → Type 0
Keeps at = (g : Identifier) (p : Node) → at g ≡ Some p → p.object.guid ≡ g

-- what is met is found by its GUID
pub is_found : (at : Look) → Keeps at → (k : ℕ) (g : Identifier) (m : Node) → Up at k g m → at m.object.guid ≡ Some m
is_found at keeps zero g m up = ap at (keeps g m up) ∙ up
is_found at keeps (suc k) g m up = is_found at keeps k up.0.parent m up.2

-- a look-up, and one that finds one object more
pub record IsMore (at more : Look) (x : Node) : Type 0 where
  pub keeps : Keeps at
  pub keeps_more : Keeps more
  pub new : at x.object.guid ≡ None
  pub here : more x.object.guid ≡ Some x
  pub else : (g : Identifier) → (g ≡ x.object.guid) ⊎ (more g ≡ at g)

module _ (at more : Look) (x : Node) (is : IsMore at more x) where
  pub still : (g : Identifier) (p : Node) → at g ≡ Some p → more g ≡ Some p
  still g p e = by (is.else g)
    where
      by : (g ≡ x.object.guid) ⊎ (more g ≡ at g) → more g ≡ Some p
      by (inl here) = let none : at g ≡ None = ap at here ∙ is.new in cc
      by (inr same) = same ∙ e

  pub up_still : (k : ℕ) (g : Identifier) (m : Node) → Up at k g m → Up more k g m
  up_still zero g m up = still g m up
  up_still (suc k) g m (p, e, up) = (p, still g p e, up_still k p.parent m up)

  pub met_still : (g : Identifier) (m : Node) → Met at g m → Met more g m
  met_still g m up = (up.0, up_still up.0 g m up.1)

  -- what is met was met before, unless the way leads through the new object
  pub up_before : (k : ℕ) (g : Identifier) (m : Node) → Up more k g m → Met at g m ⊎ Met more g x
  up_before zero g m up = by (is.else g)
    where
      by : (g ≡ x.object.guid) ⊎ (more g ≡ at g) → Met at g m ⊎ Met more g x
      by (inl here) = inr (zero, ap more here ∙ is.here)
      by (inr same) = inl (zero, sym same ∙ up)
  up_before (suc k) g m (p, e, up) = by (is.else g) (up_before k p.parent m up)
    where
      by : (g ≡ x.object.guid) ⊎ (more g ≡ at g) → Met at p.parent m ⊎ Met more p.parent x → Met at g m ⊎ Met more g x
      by (inl here) rest = inr (zero, ap more here ∙ is.here)
      by (inr same) (inl old) = inl (suc old.0, (p, sym same ∙ e, old.1))
      by (inr same) (inr new) = inr (suc new.0, (p, e, new.1))

  -- the way from a loop that was there doesn't lead to the new object
  first : (n : Node) (h : Identifier) → Met at h n → (p : Node) × (at h ≡ Some p)
  first n h (zero, e) = (n, e)
  first n h (suc j, (p, e, rest)) = (p, e)

  as_before : (n : Node) (g : Identifier) (p : Node) → Met at g n → more g ≡ Some p → at g ≡ Some p
  as_before n g p m e = let f = first n g m in f.1 ∙ ap Some (one (still g f.0 f.1) e)

  apart : (n : Node) → Met at n.parent n → (k : ℕ) (g : Identifier) → Met at g n → Up more k g x → ⊥
  apart n round zero g m u =
      let g_is : x.object.guid ≡ g = is.keeps_more g x u in
      let none : at g ≡ None = ap at (sym g_is) ∙ is.new in
      let some : at g ≡ Some x = as_before n g x m u in cc
  apart n round (suc j) g m (p, e, u) = apart n round j p.parent (step at n round g p (as_before n g p m e) m) u

  pub loop_apart : (n : Node) → Met at n.parent n → Met more n.parent x → ⊥
  loop_apart n round up = apart n round up.0 n.parent round up.1

  -- who broke a loop still does
  pub breaks_still : (n : Node) → Breaks at n → Breaks more n
  breaks_still n (round, youngest) = (met_still n.parent n round, (λ m up. by m (up_before up.0 n.parent m up.1)))
    where
      by : (m : Node) → Met at n.parent m ⊎ Met more n.parent x → named_before n m ≡ false
      by m (inl old) = youngest m old
      by m (inr new) = absurd (loop_apart n round new)

  -- who breaks a loop broke it before, or is in a loop with the new object
  pub breaks_before : (n : Node) → Breaks more n → Breaks at n ⊎ Met more n.parent x
  breaks_before n (round, youngest) = by (up_before round.0 n.parent n round.1)
    where
      by : Met at n.parent n ⊎ Met more n.parent x → Breaks at n ⊎ Met more n.parent x
      by (inl old) = inl (old, (λ m up. youngest m (met_still n.parent m up)))
      by (inr new) = inr new

-- the object whose name is youngest in the loop of the new object, where that is in one
abbrev pub ClosedBy : Look → Node → Option Node → Type 0
ClosedBy more x None = Met more x.parent x → ⊥
ClosedBy more x (Some b) = Met more x.parent x × Met more x.parent b × ((m : Node) → Met more x.parent m → named_before b m ≡ false)

abbrev pub IsIt : Option Node → Node → Type 0
IsIt None n = ⊥
IsIt (Some b) n = n ≡ b

-- names that neither is younger than are those of one object
abbrev pub ToldApart : Look → Type 0
ToldApart more = (m n : Node) → more m.object.guid ≡ Some m → more n.object.guid ≡ Some n → named_before m n ≡ false → named_before n m ≡ false → m ≡ n

module _ (at more : Look) (x : Node) (is : IsMore at more x) where
  -- the one that breaks the loop of the new object breaks a loop
  pub closer_breaks : (b : Node) → ClosedBy more x (Some b) → Breaks more b
  closer_breaks b (round, up, youngest) =
      (met_from more b.parent x b (around more x b round up) up, (λ m above. youngest m (met_from more x.parent b m up above)))

  -- it broke none before
  pub closer_is_new : (b : Node) → ClosedBy more x (Some b) → Breaks at b → ⊥
  closer_is_new b (round, up, youngest) old = loop_apart at more x is b old.0 (around more x b round up)

  -- whoever breaks a loop with the new object is the one
  pub closer : (apart : ToldApart more) (o : Option Node) → ClosedBy more x o → (n : Node) → Breaks more n → Met more n.parent x → IsIt o n
  closer apart None none n (round, youngest) up = absurd (none (met_from more x.parent n x (around more n x round up) up))
  closer apart (Some b) (loop, above, least) n (round, youngest) up =
      let to_n : Met more x.parent n = around more n x round up in
      apart n b (is_found more is.keeps_more to_n.0 x.parent n to_n.1) (is_found more is.keeps_more above.0 x.parent b above.1)
      (youngest b (met_from more n.parent x b up above)) (least n to_n)

  -- THE LAW: with one object more, the one that breaks its loop breaks a loop besides those that did
  pub with_more : (apart : ToldApart more) (o : Option Node) → ClosedBy more x o → (n : Node) → Breaks more n → IsIt o n ⊎ Breaks at n
  with_more apart o closed n breaks = by (breaks_before at more x is n breaks)
    where
      by : Breaks at n ⊎ Met more n.parent x → IsIt o n ⊎ Breaks at n
      by (inl old) = inr old
      by (inr new) = inl (closer apart o closed n breaks new)

  pub from_more : (o : Option Node) → ClosedBy more x o → (n : Node) → IsIt o n ⊎ Breaks at n → Breaks more n
  from_more o closed n (inr old) = breaks_still at more x is n old
  from_more None closed n (inl it) = absurd it
  from_more (Some b) closed n (inl it) = subst (λ (m : Node). Breaks more m) (sym it) (closer_breaks b closed)

  -- a walk from the new object may stop where a loop was broken before: the new object is in no loop
  pub stops : (b : Node) → Met at x.parent b → Breaks at b → Met more x.parent x → ⊥
  stops b up breaks round = loop_apart at more x is b breaks.0 (around more x b round (met_still at more x is x.parent b up))
