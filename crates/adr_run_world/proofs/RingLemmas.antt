-- Cycles pull by pull, and rings cycle by cycle.
use Rattle.std.proofs.Common.{◌≡◌, inl, inr, ℕ, zero, suc, ◌+◌, ◌-◌, ◌<◌, ◌≤◌, List, [], ◌∷◌, ◌++◌, length, drop, drop-cons, get_or, Bool, true, false, Option, Some, None, refl, sym, ap, ◌∙◌, subst, codes, arith}
use Rattle.std.specs.Prelude.{slice_get}
use Rattle.adr_call.specs.declared.answer.Answer.{Answer}
use Rattle.adr_call.specs.declared.outcome.Outcome.TheVariants as outcomes
use Rattle.adr_call.specs.declared.event.Event.TheVariants as events
use Rattle.adr_call.specs.declared.event.Exchange.TheVariants as exchanges
use Rattle.adr_model.specs.World.{World, Name, answer}
use Rattle.adr_model.specs.Cycles.{Pulled, and_then, pull, pulls, cycle}
use Rattle.adr_model.specs.Rings.{unfinished, or_else, Connection, cycles, last_of, in_line, ring, times, show_alike, vectors_alike, compared, rings}
use Rattle.adr_model.specs.Convergence.{IsAmidCycles}
use Rattle.adr_model.specs.Sound.{IsWorldOfRun}
use Rattle.adr_model.proofs.Ringing.{behind_is_amid}
use Rattle.adr_model.proofs.Looping.{Comes, cycle_goes_on, cycle_ends_there, cycles_both}
use Rattle.adr_law_convergence.proofs.Lines.{stays_sound}
use Rattle.adr_run_world.specs.Rung.{whole_cycle, IsAmidPulls}

-- ---- a cycle

module _ (w : World) (dest source : Name) (max : ℕ) where
  -- behind so many pulls, what is left comes to what all would
  abbrev pub IsPulled : ℕ → World → Type 0
  IsPulled k v = (n : ℕ) → Comes (pulls (n + k) w dest source max) ≡ Comes (pulls n v dest source max)

  module _ (k : ℕ) (v : World) (is : IsPulled k v) where
    one_more : (n : ℕ) → Comes (pulls (n + (k + 1)) w dest source max) ≡ Comes (pulls (suc n) v dest source max)
    one_more n = let same : n + (k + 1) ≡ suc n + k = omega arith in ap (λ m. Comes (pulls m w dest source max)) same ∙ is (suc n)

    -- a pull that goes on is one more
    pub pulled_on : (p : Pulled) → pull v dest source max ≡ p → p.2 ≡ true → IsPulled (k + 1) p.0
    pulled_on p at on n = one_more n ∙ cycle_goes_on n v dest source max (ap (λ (q : Pulled). q.2) at ∙ on) ∙ ap (λ (q : Pulled). Comes (pulls n q.0 dest source max)) at

    -- any other is the last
    pub pulled_last : (p : Pulled) → pull v dest source max ≡ p → p.2 ≡ false → (limit : ℕ) → k < limit → Comes (pulls limit w dest source max) ≡ (p.0, unfinished p.1)
    pulled_last p at off limit below =
        let n : ℕ = limit - (k + 1) in
        let same : limit ≡ (limit - (k + 1)) + (k + 1) = omega (arith, below) in
        ap (λ m. Comes (pulls m w dest source max)) same ∙ one_more n ∙ cycle_ends_there n v dest source max (ap (λ (q : Pulled). q.2) at ∙ off)
        ∙ ap (λ (q : Pulled). (q.0, unfinished q.1)) at

    -- and there may be too many
    pub pulled_out : (limit : ℕ) → limit ≡ k → Comes (pulls limit w dest source max) ≡ (v, Some (answer (codes "cycle") dest outcomes.More))
    pulled_out limit same = let least : limit ≡ 0 + k = omega (arith, same) in ap (λ m. Comes (pulls m w dest source max)) least ∙ is 0

    pub amid_pulled : IsAmidPulls w dest source max v
    amid_pulled = (0 + k, sym (ap (λ (t : World × Option Answer). t.0) (is 0)))

    first_pull : (p : Pulled) → (and_then p (λ x. pulls 0 x dest source max)).0 ≡ p.0
    first_pull (u, more, true) = refl
    first_pull (u, more, false) = refl

    amid_next : IsAmidPulls w dest source max (pull v dest source max).0
    amid_next = (1 + k, sym (first_pull (pull v dest source max)) ∙ sym (ap (λ (t : World × Option Answer). t.0) (is 1)))

    -- a pull that wanted memory leaves it on its way
    pub amid_short : (u : World) → u ≡ v → IsAmidPulls w dest source max u
    amid_short u same = subst (IsAmidPulls w dest source max) (sym same) amid_pulled

  pub amid_last : (p : Pulled) (k : ℕ) (v : World) → IsPulled k v → pull v dest source max ≡ p → IsAmidPulls w dest source max p.0
  amid_last p k v is at = subst (IsAmidPulls w dest source max) (ap (λ (q : Pulled). q.0) at) (amid_next k v is)

  -- wherever a cycle stands, the world is that of a run
  pub amid_of_run : IsWorldOfRun w → (v : World) → IsAmidPulls w dest source max v → IsWorldOfRun v
  amid_of_run run v way = stays_sound w (events.Goes dest (exchanges.Cycle source max)) run tt v way

-- ---- cycles one after the other

module _ (cs : List Connection) (max : ℕ) (w : World) where
  -- what is left comes to what all would, and is on their way
  pub record IsDue (ds : List Connection) (v : World) : Type 0 where
    pub comes : cycles cs max w ≡ cycles ds max v
    pub amid : (u : World) → IsAmidCycles ds max v u → IsAmidCycles cs max w u

  pub all_due : IsDue cs w
  all_due = record { comes = refl; amid = λ u way. way }

  pub none_due : (v : World) → IsDue [] v → cycles cs max w ≡ (v, None)
  none_due v due = due.comes

  module _ (c : Connection) (ds : List Connection) (v u : World) (due : IsDue (c ∷ ds) v) where
    cycle_so : (o : Option Answer) → whole_cycle v c.0 c.1 max ≡ (u, o) → cycles (c ∷ ds) max v ≡ or_else o u (λ x. cycles ds max x)
    cycle_so o is = ap (λ (t : World × Option Answer). or_else t.1 t.0 (λ x. cycles ds max x)) is

    -- a whole cycle
    pub due_next : whole_cycle v c.0 c.1 max ≡ (u, None) → IsDue ds u
    due_next is = record {
      comes = due.comes ∙ cycle_so None is;
      amid = λ x way. due.amid x (inr (subst (λ (y : World). IsAmidCycles ds max y x) (sym (ap (λ (t : World × Option Answer). t.0) is)) way));
    }

    -- and one that isn't
    pub due_ends : (a : Answer) → whole_cycle v c.0 c.1 max ≡ (u, Some a) → cycles cs max w ≡ (u, Some a)
    due_ends a is = due.comes ∙ cycle_so (Some a) is

    pub due_short : IsAmidPulls v c.0 c.1 max u → IsAmidCycles cs max w u
    due_short way = due.amid u (inl way)

  module _ (ds es : List Connection) (v u : World) (due : IsDue (ds ++ es) v) where
    cycles_so : (o : Option Answer) → cycles ds max v ≡ (u, o) → cycles (ds ++ es) max v ≡ or_else o u (λ x. cycles es max x)
    cycles_so o is = cycles_both ds es max v ∙ ap (λ (t : World × Option Answer). or_else t.1 t.0 (λ x. cycles es max x)) is

    -- a whole round
    pub due_round : cycles ds max v ≡ (u, None) → IsDue es u
    due_round is = record { comes = due.comes ∙ cycles_so None is; amid = λ x way. due.amid x (behind ds v is x way) }
      where
        behind : (fs : List Connection) (y : World) → cycles fs max y ≡ (u, None) → (x : World) → IsAmidCycles es max u x → IsAmidCycles (fs ++ es) max y x
        behind [] y is x way = subst (λ (z : World). IsAmidCycles es max z x) (sym (ap (λ (t : World × Option Answer). t.0) is)) way
        behind (f ∷ fs) y is x way = by (unfinished (cycle y f.0 f.1 max).1) is (λ e. behind fs (cycle y f.0 f.1 max).0 e x way)
          where
            by : (o : Option Answer) → or_else o (cycle y f.0 f.1 max).0 (λ z. cycles fs max z) ≡ (u, None)
                → (cycles fs max (cycle y f.0 f.1 max).0 ≡ (u, None) → IsAmidCycles (fs ++ es) max (cycle y f.0 f.1 max).0 x) → IsAmidCycles ((f ∷ fs) ++ es) max y x
            by (Some a) e rest = let none : Some a ≡ None = ap (λ (t : World × Option Answer). t.1) e in absurd (cc)
            by None e rest = inr (rest e)

    -- and one that isn't
    pub due_round_ends : (a : Answer) → cycles ds max v ≡ (u, Some a) → cycles cs max w ≡ (u, Some a)
    due_round_ends a is = due.comes ∙ cycles_so (Some a) is

    pub due_round_short : IsAmidCycles ds max v u → IsAmidCycles cs max w u
    due_round_short way = due.amid u (front ds v way)
      where
        here : (fs : List Connection) (y : World) → IsAmidCycles fs max y y
        here [] y = refl
        here (f ∷ fs) y = inl (0, refl)

        front : (fs : List Connection) (y : World) → IsAmidCycles fs max y u → IsAmidCycles (fs ++ es) max y u
        front [] y is = subst (λ (z : World). IsAmidCycles es max y z) (sym is) (here es y)
        front (f ∷ fs) y (inl way) = inl way
        front (f ∷ fs) y (inr way) = inr (front fs (cycle y f.0 f.1 max).0 way)

-- the last of some controllers, and the one at a place
last_there : (first : Name) (others : List Name) (n : ℕ) (x : Name) → length others ≡ suc n → slice_get others n ≡ Some x → x ≡ last_of first others
last_there first [] n x same at = absurd (omega (arith, same))
last_there first (y ∷ []) zero x same at = let is : y ≡ x = cc in sym is
last_there first (y ∷ z ∷ zs) zero x same at = absurd (omega (arith, same))
last_there first (y ∷ ys) (suc n) x same at = last_there y ys n x (omega (arith, same)) at

pub last_read : (first : Name) (others : List Name) (x : Name) → slice_get others (length others - 1) ≡ Some x → x ≡ last_of first others
last_read first [] x at = absurd (cc)
last_read first (y ∷ ys) x at = last_there first (y ∷ ys) (length (y ∷ ys) - 1) x (omega arith) at

pub name_at : (others : List Name) (k : ℕ) (name : Name) → k < length others → name ≡ get_or others k name → drop k others ≡ name ∷ drop (k + 1) others
name_at others k name within is =
    let one : suc k ≡ k + 1 = omega arith in
    drop-cons others k name within ∙ ap (λ (x : Name). x ∷ drop (suc k) others) (sym is) ∙ ap (λ (n : ℕ). name ∷ drop n others) one

-- a round, from its first cycle on
module _ (w : World) (first : Name) (others : List Name) (max : ℕ) (last : Name) (is : last ≡ last_of first others) (u : World) where
  pub first_short : IsAmidPulls w first last max u → IsAmidCycles (ring first others) max w u
  first_short way = due_short (ring first others) max w (first, last_of first others) (in_line first others) w u (all_due (ring first others) max w) (subst (λ n. IsAmidPulls w first n max u) is way)

  pub first_ends : (a : Answer) → whole_cycle w first last max ≡ (u, Some a) → cycles (ring first others) max w ≡ (u, Some a)
  first_ends a at = due_ends (ring first others) max w (first, last_of first others) (in_line first others) w u (all_due (ring first others) max w) a (ap (λ n. whole_cycle w first n max) (sym is) ∙ at)

  pub first_done : whole_cycle w first last max ≡ (u, None) → IsDue (ring first others) max w (in_line first others) u
  first_done at = due_next (ring first others) max w (first, last_of first others) (in_line first others) w u (all_due (ring first others) max w) (ap (λ n. whole_cycle w first n max) (sym is) ∙ at)

-- and name by name
module _ (cs : List Connection) (max : ℕ) (w v : World) (before : Name) (others : List Name) (k : ℕ) where
  module _ (name : Name) (here : drop k others ≡ name ∷ drop (k + 1) others) (due : IsDue cs max w (in_line before (drop k others)) v) (u : World) where
    next_name : IsDue cs max w ((name, before) ∷ in_line name (drop (k + 1) others)) v
    next_name = subst (λ ns. IsDue cs max w (in_line before ns) v) here due

    pub name_short : IsAmidPulls v name before max u → IsAmidCycles cs max w u
    name_short way = due_short cs max w (name, before) (in_line name (drop (k + 1) others)) v u next_name way

    pub name_ends : (a : Answer) → whole_cycle v name before max ≡ (u, Some a) → cycles cs max w ≡ (u, Some a)
    name_ends a at = due_ends cs max w (name, before) (in_line name (drop (k + 1) others)) v u next_name a at

    pub name_done : whole_cycle v name before max ≡ (u, None) → IsDue cs max w (in_line name (drop (k + 1) others)) u
    name_done at = due_next cs max w (name, before) (in_line name (drop (k + 1) others)) v u next_name at

  pub no_name : length others ≤ k → IsDue cs max w (in_line before (drop k others)) v → cycles cs max w ≡ (v, None)
  no_name all due = none_due cs max w v (subst (λ ns. IsDue cs max w (in_line before ns) v) (nothing k others all) due)
    where
      nothing : (n : ℕ) (ns : List Name) → length ns ≤ n → drop n ns ≡ []
      nothing zero [] far = refl
      nothing (suc n) [] far = refl
      nothing zero (x ∷ xs) far = absurd (omega (arith, far))
      nothing (suc n) (x ∷ xs) far = nothing n xs (omega (arith, far))

-- of the rounds that are left the next comes first
module _ (cs rs : List Connection) (max : ℕ) (w v : World) (k n : ℕ) (below : k < n) where
  pub next_round : IsDue cs max w (times (n - k) rs) v → IsDue cs max w (rs ++ times (n - (k + 1)) rs) v
  next_round due = let same : n - k ≡ suc (n - (k + 1)) = omega (arith, below) in subst (λ m. IsDue cs max w (times m rs) v) same due

  pub round_short : (u : World) → IsDue cs max w (times (n - k) rs) v → IsAmidCycles rs max v u → IsAmidCycles cs max w u
  round_short u due way = due_round_short cs max w rs (times (n - (k + 1)) rs) v u (next_round due) way

  pub round_ends : (u : World) (a : Answer) → IsDue cs max w (times (n - k) rs) v → cycles rs max v ≡ (u, Some a) → cycles cs max w ≡ (u, Some a)
  round_ends u a due is = due_round_ends cs max w rs (times (n - (k + 1)) rs) v u (next_round due) a is

  pub round_done : (u : World) → IsDue cs max w (times (n - k) rs) v → cycles rs max v ≡ (u, None) → IsDue cs max w (times (n - (k + 1)) rs) u
  round_done u due is = due_round cs max w rs (times (n - (k + 1)) rs) v u (next_round due) is

-- and behind all of them nothing is left
pub no_round : (cs rs : List Connection) (max : ℕ) (w v : World) (k n : ℕ) → n ≤ k → IsDue cs max w (times (n - k) rs) v → cycles cs max w ≡ (v, None)
no_round cs rs max w v k n all due = let same : n - k ≡ 0 = omega (arith, all) in none_due cs max w v (subst (λ m. IsDue cs max w (times m rs) v) same due)

-- ---- the answer

module _ (w v : World) (first : Name) (others : List Name) (rounds max : ℕ) where
  pub rung_so : (o : Option Answer) → cycles (times rounds (ring first others)) max w ≡ (v, o) → rings w first others rounds max ≡ compared first others rounds v o
  rung_so o is = ap (λ (t : World × Option Answer). compared first others rounds t.0 t.1) is

  pub rung_alike : (made : Answer) (directories vectors : Bool) → cycles (times rounds (ring first others)) max w ≡ (v, None)
      → directories ≡ show_alike v (first ∷ others) → vectors ≡ vectors_alike v (first ∷ others) → made ≡ answer (codes "ring") first (outcomes.Compared rounds directories vectors)
      → rings w first others rounds max ≡ (v, made ∷ [])
  rung_alike made directories vectors is d_is v_is made_is =
      rung_so None is ∙ ap (λ d. (v, answer (codes "ring") first (outcomes.Compared rounds d (vectors_alike v (first ∷ others))) ∷ [])) (sym d_is)
      ∙ ap (λ d. (v, answer (codes "ring") first (outcomes.Compared rounds directories d) ∷ [])) (sym v_is) ∙ ap (λ a. (v, a ∷ [])) (sym made_is)

  -- wherever its cycles end, it is on its way
  pub amid_rung : (o : Option Answer) → cycles (times rounds (ring first others)) max w ≡ (v, o) → IsAmidCycles (times rounds (ring first others)) max w v
  amid_rung o is = subst (IsAmidCycles (times rounds (ring first others)) max w) (ap (λ (t : World × List Answer). t.0) (rung_so o is) ∙ there o) (behind_is_amid first others rounds max w)
    where
      there : (p : Option Answer) → (compared first others rounds v p).0 ≡ v
      there (Some a) = refl
      there None = refl
