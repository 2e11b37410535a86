-- The walk from a new object.
use Rattle.std.proofs.Common.{◌≡◌, ◌⊎◌, inl, inr, ⊎_elim, ℕ, zero, suc, ◌<◌, ◌≤◌, Bool, true, false, Option, Some, None, refl, sym, ap, ◌∙◌, subst, arith}
use Rattle.std.specs.Option.{option_map_or}
use Rattle.std.specs.Prelude.{if◌then◌else◌}
use Rattle.adr_model.specs.Update.{Identifier, same_identifier}
use Rattle.adr_model.specs.Place.{Node, named_before, breaks_loop}
use Rattle.adr_law_tree.specs.Walk.{Look, Up, Met, free}
use Rattle.adr_law_tree.specs.Breaker.{loop_breaker}
use Rattle.adr_law_tree.specs.Closing.{closing, ClosingLaw, NeverLaw}
use Rattle.adr_law_tree.proofs.Walks.{one, IsMore, is_found, ClosedBy, ToldApart, loop_apart}
use Rattle.adr_law_tree.proofs.Fuel.{same_guid, itself}
use Rattle.adr_law_tree.proofs.Unfixed.{found_free, within_free, fixed_of}
use Rattle.adr_law_tree.proofs.Youngest.{never_before, not_itself, not_both}
use Rattle.adr_law_tree.proofs.Loops.{as_more, closed, closed_by, told_apart, breaks, own_of, never_round}

module _ (at : Look) where
  -- what is met beyond the first object is met from there, in fewer steps
  pub split : (k : ℕ) (g : Identifier) (x m : Node) → Up at k g x → (j : ℕ) → Up at j g m → (j ≤ k) ⊎ ((i : ℕ) × (i < j) × Up at i x.parent m)
  split zero g x m here zero up = inl (omega arith)
  split zero g x m here (suc j) (p, e, up) = inr (j, (let l : j < suc j = omega arith in l), subst (λ (y : Node). Up at j y.parent m) (one e here) up)
  split (suc k) g x m way zero up = inl (omega arith)
  split (suc k) g x m (q, f, way) (suc j) (p, e, up) = by (split k q.parent x m way j (subst (λ (y : Node). Up at j y.parent m) (one e f) up))
    where
      by : (j ≤ k) ⊎ ((i : ℕ) × (i < j) × Up at i x.parent m) → (suc j ≤ suc k) ⊎ ((i : ℕ) × (i < suc j) × Up at i x.parent m)
      by (inl le) = inl (omega (arith, le))
      by (inr (i, lt, u)) = inr (i, (let l : i < suc j = omega (arith, lt) in l), u)

  -- what is met in a loop is met within one round
  pub one_round : (k : ℕ) (x m : Node) → Up at k x.parent x → (bound j : ℕ) → j < bound → Up at j x.parent m → (i : ℕ) × (i ≤ k) × Up at i x.parent m
  one_round k x m way zero j less up = absurd (omega (arith, less))
  one_round k x m way (suc bound) j less up = by (split k x.parent x m way j up) (λ i l u. one_round k x m way bound i l u)
    where
      by : (j ≤ k) ⊎ ((i : ℕ) × (i < j) × Up at i x.parent m) → ((i : ℕ) → i < bound → Up at i x.parent m → (l : ℕ) × (l ≤ k) × Up at l x.parent m) → (i : ℕ) × (i ≤ k) × Up at i x.parent m
      by (inl le) again = (j, le, up)
      by (inr (i, lt, u)) again = again i (omega (arith, lt, less)) u

module _ (at more : Look) (x : Node) (is : IsMore at more x) (stop : Node → Bool) where
  -- what the walk answers: the way leads to the new object, and none on it is younger than the answer
  pub record Closes (g : Identifier) (best b : Node) : Type 0 where
    pub steps : ℕ
    pub way : Up more steps g x
    pub is_one : (b ≡ best) ⊎ Met more g b
    pub first : named_before b best ≡ false
    pub rest : (i : ℕ) (m : Node) → i ≤ steps → Up more i g m → named_before b m ≡ false

  found_more : (g : Identifier) (p : Node) → same_identifier g x.object.guid ≡ false → at g ≡ Some p → more g ≡ Some p
  found_more g p other found = by (is.else g)
    where
      by : (g ≡ x.object.guid) ⊎ (more g ≡ at g) → more g ≡ Some p
      by (inl same) = let t : same_identifier g x.object.guid ≡ true = subst (λ h. same_identifier h x.object.guid ≡ true) (sym same) (itself x.object.guid) in cc
      by (inr same) = same ∙ found

  -- one object more on the way
  further : (g : Identifier) (best p c b : Node) → more g ≡ Some p → named_before c best ≡ false → named_before c p ≡ false → (c ≡ p) ⊎ (c ≡ best) → Closes p.parent c b → Closes g best b
  further g best p c b e over_best over_p one_of rest = record {
    steps = suc rest.steps;
    way = (p, e, rest.way);
    is_one = ⊎_elim (λ f. ⊎_elim (λ q. inr (zero, e ∙ ap Some (sym q ∙ sym f))) (λ q. inl (f ∙ q)) one_of) (λ up. inr (suc up.0, (p, e, up.1))) rest.is_one;
    first = never_before b c best rest.first over_best;
    rest = each;
  }
    where
      each : (i : ℕ) (m : Node) → i ≤ suc rest.steps → Up more i g m → named_before b m ≡ false
      each zero m le up = subst (λ (n : Node). named_before b n ≡ false) (one e up) (never_before b c p rest.first over_p)
      each (suc i) m le (q, f, up) = rest.rest i m (omega (arith, le)) (subst (λ (n : Node). Up more i n.parent m) (one f e) up)

  closes : (left : ℕ) (g : Identifier) (best b : Node) → named_before best x ≡ false → closing at stop x.object.guid left g best ≡ Some b → Closes g best b
  closes zero g best b young e = cc
  closes (suc left) g best b young e = by (same_identifier g x.object.guid) refl (at g) refl e (λ p c. closes left p.parent c b)
    where
      by : (t : Bool) → same_identifier g x.object.guid ≡ t → (o : Option Node) → at g ≡ o
          → (if t then Some best else option_map_or (λ p. if stop p then None else closing at stop x.object.guid left p.parent (if named_before best p then p else best)) o None) ≡ Some b
          → ((p c : Node) → named_before c x ≡ false → closing at stop x.object.guid left p.parent c ≡ Some b → Closes p.parent c b) → Closes g best b
      by true same o found e again =
          let it : best ≡ b = one {o = Some best} refl e in
          let here : more g ≡ Some x = ap more (same_guid g x.object.guid same) ∙ is.here in
          record {
            steps = zero;
            way = here;
            is_one = inl (sym it);
            first = subst (λ (n : Node). named_before n best ≡ false) it (not_itself best);
            rest = λ i m le up. only i m le up it here;
          }
        where
          only : (i : ℕ) (m : Node) → i ≤ zero → Up more i g m → best ≡ b → more g ≡ Some x → named_before b m ≡ false
          only zero m le up it here = subst (λ (n : Node). named_before b n ≡ false) (one here up) (subst (λ (n : Node). named_before n x ≡ false) it young)
          only (suc i) m le up it here = absurd (omega (arith, le))
      by false other None found e again = cc
      by false other (Some p) found e again = on (stop p) (named_before best p) refl e
        where
          on : (s c : Bool) → named_before best p ≡ c → (if s then None else closing at stop x.object.guid left p.parent (if c then p else best)) ≡ Some b → Closes g best b
          on true c before e = cc
          on false true before e =
              further g best p p b (found_more g p other found) (not_both best p before) (not_itself p) (inl refl)
              (again p p (never_before p best x (not_both best p before) young) e)
          on false false before e =
              further g best p best b (found_more g p other found) (not_itself best) before (inr refl) (again p best young e)

  -- the walk finds the way where there is one, and it is let go on
  reaches : ((p : Node) → at p.object.guid ≡ Some p → stop p ≡ true → Met more p.parent x → ⊥) → (left k : ℕ) (g : Identifier) (best : Node) → k < left → Up more k g x → closing at stop x.object.guid left g best ≡ None → ⊥
  reaches apart zero k g best less up e = omega (arith, less)
  reaches apart (suc left) k g best less up e = by (same_identifier g x.object.guid) refl (at g) refl e (λ p j c. reaches apart left j p.parent c)
    where
      by : (t : Bool) → same_identifier g x.object.guid ≡ t → (o : Option Node) → at g ≡ o
          → (if t then Some best else option_map_or (λ p. if stop p then None else closing at stop x.object.guid left p.parent (if named_before best p then p else best)) o None) ≡ None
          → ((p : Node) (j : ℕ) (c : Node) → j < left → Up more j p.parent x → closing at stop x.object.guid left p.parent c ≡ None → ⊥) → ⊥
      by true same o found e again = cc
      by false other None found e again = none k up
        where
          same : more g ≡ None
          same = ⊎_elim (λ f. let t : same_identifier g x.object.guid ≡ true = subst (λ h. same_identifier h x.object.guid ≡ true) (sym f) (itself x.object.guid) in cc) (λ f. f ∙ found) (is.else g)

          none : (j : ℕ) → Up more j g x → ⊥
          none zero u = let s : more g ≡ None = same in cc
          none (suc j) u = let f : more g ≡ Some u.0 = u.1 in let s : more g ≡ None = same in cc
      by false other (Some p) found e again = on k less up (stop p) refl e
        where
          on : (j : ℕ) → j < suc left → Up more j g x → (s : Bool) → stop p ≡ s → (if s then None else closing at stop x.object.guid left p.parent (if named_before best p then p else best)) ≡ None → ⊥
          on zero l u s stops f =
              let t : same_identifier g x.object.guid ≡ true = subst (λ h. same_identifier h x.object.guid ≡ true) (is.keeps_more g x u) (itself x.object.guid) in cc
          on (suc j) l (q, h, u) true stops f =
              apart p (ap at (is.keeps g p found) ∙ found) stops (j, subst (λ (n : Node). Up more j n.parent x) (one h (found_more g p other found)) u)
          on (suc j) l (q, h, u) false stops f =
              again p j (if named_before best p then p else best) (omega (arith, l)) (subst (λ (n : Node). Up more j n.parent x) (one h (found_more g p other found)) u) f

  -- the answer is the youngest of the whole loop
  answer : (left : ℕ) (b : Node) → closing at stop x.object.guid left x.parent x ≡ Some b → ClosedBy more x (Some b)
  answer left b e =
      let c = closes left x.parent x b (not_itself x) e in
      let round : Met more x.parent x = (c.steps, c.way) in (
        round,
        ⊎_elim (λ f. subst (λ (n : Node). Met more x.parent n) (sym f) round) (λ up. up) c.is_one,
        (λ m up. let t = one_round more c.steps x m c.way (suc up.0) up.0 (omega arith) up.1 in c.rest t.0 m t.1 t.2),
      )

  -- one object breaks the loop
  same_closer : ToldApart more → (b c : Node) → ClosedBy more x (Some b) → ClosedBy more x (Some c) → b ≡ c
  same_closer apart b c p q =
      apart b c (is_found more is.keeps_more p.1.0 x.parent b p.1.1) (is_found more is.keeps_more q.1.0 x.parent c q.1.1) (p.2 c q.1) (q.2 b p.1)

pub closing_law : ClosingLaw
closing_law all x more is x_free left enough = by (closing (free all) (breaks_loop all) x.object.guid left x.parent x) refl (loop_breaker more x) (closed all x more is)
  where
    m : IsMore (free all) (free more) x
    m = as_more all x more is x_free

    own : (p : Node) → free all p.object.guid ≡ Some p → breaks_loop all p ≡ true → Met (free more) p.parent x → ⊥
    own p here e up = loop_apart (free all) (free more) x m p (breaks all p (own_of all p (found_free all p.object.guid p here)) e).0 up

    by : (o : Option Node) → closing (free all) (breaks_loop all) x.object.guid left x.parent x ≡ o → (r : Option Node) → ClosedBy (free more) x r → o ≡ r
    by None e None c = refl
    by (Some b) e (Some d) c = ap Some (same_closer (free all) (free more) x m (breaks_loop all) (told_apart more) b d (answer (free all) (free more) x m (breaks_loop all) left b e) c)
    by (Some b) e None c = absurd (c (answer (free all) (free more) x m (breaks_loop all) left b e).0)
    by None e (Some d) c =
        let t = within_free left more enough x.parent x c.0 in
        absurd (reaches (free all) (free more) x m (breaks_loop all) own left t.0 x.parent x t.1 t.2 e)

pub never_law : NeverLaw
never_law all x fixed = by (loop_breaker all x) (closed_by all x (λ m e. let none : free all x.object.guid ≡ None = fixed_of all x.object.guid fixed in cc))
  where
    by : (o : Option Node) → ClosedBy (free all) x o → o ≡ None
    by None c = refl
    by (Some b) c = absurd (never_round all x fixed c.0)
