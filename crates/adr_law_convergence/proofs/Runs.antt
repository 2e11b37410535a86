-- Whole cycles one after the other, as what spreads by them; and that nothing is written where all that is held was taken.
use Rattle.std.proofs.Common.{◌≡◌, ◌⊎◌, inl, inr, ⊎_elim, ◌+◌, ◌≤◌, List, [], ◌∷◌, ◌++◌, Bool, true, false, refl, sym, ap, ◌∙◌, subst, length}
use Rattle.std.specs.Str.{bytes_eq}
use Rattle.adr_model.specs.Member.{Member, Each}
use Rattle.adr_model.specs.Update.{Update}
use Rattle.adr_model.specs.Reflects.{knowledge_of, Reflects}
use Rattle.adr_model.specs.Store.{Held, updates_of}
use Rattle.adr_model.specs.Replica.{Replica}
use Rattle.adr_model.specs.World.{Name, World}
use Rattle.adr_model.specs.Step.{step}
use Rattle.adr_model.specs.Sound.{IsSoundWorld}
use Rattle.adr_model.specs.Convergence.{held_by}
use Rattle.adr_law_knowledge.proofs.Comparing.{supersedes_self}
use Rattle.adr_law_convergence.proofs.Found.{same_name, same_name_tests}
use Rattle.adr_model.specs.Rings.{Connection}
use Rattle.adr_law_convergence.specs.Rounds.{Exchange, connection, line_of, AreWhole, behind_exchanges, IsRound, in_turn, HoldTheSame, RoundsSettle}
use Rattle.adr_law_convergence.proofs.Spreading.{Passes, Passed, settles}
use Rattle.adr_law_convergence.proofs.Wholes.{IsCycled, cycled}

-- a controller of this name holds the update, or reflects it
abbrev pub Holds : Update → World → Name → Type 0
Holds u w x = (r : Replica) × Member r w.replicas × (r.name ≡ x) × Member u (held_by r)

abbrev pub Takes : Update → World → Name → Type 0
Takes u w x = (r : Replica) × Member r w.replicas × (r.name ≡ x) × Reflects w.book.issued (knowledge_of r.safe.store) u

pub held_is_taken : (u : Update) (w : World) (x : Name) → Holds u w x → Takes u w x
held_is_taken u w x (r, m, e, h) = (r, m, e, inl (u, h, supersedes_self u))

-- of one name there is one
pub one_of : (w : World) → IsSoundWorld w → (r q : Replica) → Member r w.replicas → Member q w.replicas → r.name ≡ q.name → r ≡ q
one_of w sound r q m n e = sound.identifiers.names r m q n e

module _ (w v : World) (sound : IsSoundWorld w) (dest source : Name) (c : IsCycled w v dest source) where
  -- who pulled, before, and who was pulled from
  pub is_dest : (r : Replica) → Member r w.replicas → r.name ≡ dest → r ≡ c.d
  is_dest r m e = one_of w sound r c.d m c.d_there.0 (e ∙ sym c.d_there.1)

  pub is_source : (r : Replica) → Member r w.replicas → r.name ≡ source → r ≡ c.s
  is_source r m e = one_of w sound r c.s m c.s_there.0 (e ∙ sym c.s_there.1)

  -- who stands behind it: the one that pulled, or another one as it was
  pub stands : (r : Replica) → Member r v.replicas → ((r ≡ c.n) × (r.name ≡ dest)) ⊎ ((r.name ≡ dest → ⊥) × Member r w.replicas)
  stands r m = ⊎_elim (λ e. inl (e, ap (λ (q : Replica). q.name) e ∙ c.beside.name)) (λ t. inr t) (c.beside.only r m)

  pub passes : (u : Update) → Passes (Holds u) (Takes u) w v dest source
  passes u = record { holds = held_is_taken u v; keeps = keeps; took = took; gained = gained }
    where
      moved : (n : Replica) → Reflects w.book.issued (knowledge_of n.safe.store) u → Reflects v.book.issued (knowledge_of n.safe.store) u
      moved n h = subst (λ is. Reflects is (knowledge_of n.safe.store) u) (sym c.issued) h

      keeps : (x : Name) → Takes u w x → Takes u v x
      keeps x (r, m, e, h) = by (bytes_eq r.name dest) refl
        where
          by : (b : Bool) → bytes_eq r.name dest ≡ b → Takes u v x
          by true is = let same = is_dest r m (same_name r.name dest is) in
              (c.n, c.beside.there, c.beside.name ∙ (sym (same_name r.name dest is) ∙ e), moved c.n (c.carried.all.keeps u (subst (λ (q : Replica). Reflects w.book.issued (knowledge_of q.safe.store) u) same h)))
          by false is = (r, c.beside.others r m (λ f. let t : bytes_eq r.name dest ≡ true = same_name_tests r.name dest f in absurd (cc)), e, moved r h)

      took : Holds u w source → Takes u v dest
      took (r, m, e, h) = (c.n, c.beside.there, c.beside.name, moved c.n (c.carried.all.took u (subst (λ (q : Replica). Member u (held_by q)) (is_source r m e) h)))

      gained : (x : Name) → Holds u v x → Holds u w x ⊎ ((x ≡ dest) × Holds u w source × (Takes u w dest → ⊥))
      gained x (r, m, e, h) = by (stands r m)
        where
          new : (r ≡ c.n) × (r.name ≡ dest) → Holds u w x ⊎ ((x ≡ dest) × Holds u w source × (Takes u w dest → ⊥))
          new (same, f) = ⊎_elim (λ old. inl (c.d, c.d_there.0, c.d_there.1 ∙ (sym f ∙ e), old))
              (λ came. inr (sym e ∙ f, (c.s, c.s_there.0, c.s_there.1, came.0), λ t. came.1 (subst (λ (q : Replica). Reflects w.book.issued (knowledge_of q.safe.store) u) (is_dest t.0 t.1 t.2) t.3)))
              (c.carried.all.gained u (subst (λ (q : Replica). Member u (held_by q)) same h))

          by : ((r ≡ c.n) × (r.name ≡ dest)) ⊎ ((r.name ≡ dest → ⊥) × Member r w.replicas) → Holds u w x ⊎ ((x ≡ dest) × Holds u w source × (Takes u w dest → ⊥))
          by (inl t) = new t
          by (inr (other, n)) = inl (r, n, e, h)

-- ---- exchanges one after the other

pub sound_behind : (xs : List Exchange) (w : World) → IsSoundWorld w → AreWhole w xs → IsSoundWorld (behind_exchanges w xs)
sound_behind [] w sound whole = sound
sound_behind (x ∷ xs) w sound whole = sound_behind xs (step w (line_of x)).0 (cycled w sound x whole.0).sound whole.1

pub issued_behind : (xs : List Exchange) (w : World) → IsSoundWorld w → AreWhole w xs → (behind_exchanges w xs).book.issued ≡ w.book.issued
issued_behind [] w sound whole = refl
issued_behind (x ∷ xs) w sound whole = let c = cycled w sound x whole.0 in issued_behind xs (step w (line_of x)).0 c.sound whole.1 ∙ c.issued

pub spreads : (u : Update) (xs : List Exchange) (w : World) → IsSoundWorld w → AreWhole w xs → Passed (Holds u) (Takes u) w xs (behind_exchanges w xs)
spreads u [] w sound whole = refl
spreads u (x ∷ xs) w sound whole = let c = cycled w sound x whole.0 in
    ((step w (line_of x)).0, passes w (step w (line_of x)).0 sound x.dest x.source c u, spreads u xs (step w (line_of x)).0 c.sound whole.1)

pub behind_both : (xs ys : List Exchange) (w : World) → behind_exchanges w (xs ++ ys) ≡ behind_exchanges (behind_exchanges w xs) ys
behind_both [] ys w = refl
behind_both (x ∷ xs) ys w = behind_both xs ys (step w (line_of x)).0

pub whole_both : (xs ys : List Exchange) (w : World) → AreWhole w (xs ++ ys) → AreWhole w xs × AreWhole (behind_exchanges w xs) ys
whole_both [] ys w whole = (tt, whole)
whole_both (x ∷ xs) ys w whole = let t = whole_both xs ys (step w (line_of x)).0 whole.1 in ((whole.0, t.0), t.1)

-- ---- nothing is written

-- whatever is held by one that is pulled from, the one that pulls has taken
abbrev pub AreSettled : List Connection → World → Type 0
AreSettled over w = (u : Update) → Each (λ c. Holds u w c.1 → Takes u w c.0) over

-- what each controller holds is as it was
abbrev pub Rests : World → World → Type 0
Rests w v = Each (λ r. Each (λ q. q.name ≡ r.name → (q.safe.store.rows ≡ r.safe.store.rows) × (q.safe.store.usn ≡ r.safe.store.usn)) v.replicas) w.replicas

module _ (over : List Connection) where
  module _ (w v : World) (sound : IsSoundWorld w) (dest source : Name) (c : IsCycled w v dest source) (there : Member (dest, source) over) (settled : AreSettled over w) where
    still : (c.n.safe.store.usn ≡ c.d.safe.store.usn) × (c.n.safe.store.rows ≡ c.d.safe.store.rows)
    still = c.carried.all.idle taken
      where
        taken : Each (λ u. Reflects w.book.issued (knowledge_of c.d.safe.store) u) (updates_of c.s.safe.store.rows)
        taken u m = let t = settled u (dest, source) there (c.s, c.s_there.0, c.s_there.1, m) in
            subst (λ (q : Replica). Reflects w.book.issued (knowledge_of q.safe.store) u) (is_dest w v sound dest source c t.0 t.1 t.2) t.3

    pub rests : Rests w v
    rests r m q n e = by (stands w v sound dest source c q n)
      where
        by : ((q ≡ c.n) × (q.name ≡ dest)) ⊎ ((q.name ≡ dest → ⊥) × Member q w.replicas) → (q.safe.store.rows ≡ r.safe.store.rows) × (q.safe.store.usn ≡ r.safe.store.usn)
        by (inl (same, f)) = let d = is_dest w v sound dest source c r m (sym e ∙ f) in (
          ap (λ (x : Replica). x.safe.store.rows) same ∙ (still.1 ∙ ap (λ (x : Replica). x.safe.store.rows) (sym d)),
          ap (λ (x : Replica). x.safe.store.usn) same ∙ (still.0 ∙ ap (λ (x : Replica). x.safe.store.usn) (sym d)),
        )
        by (inr (other, k)) = let d = one_of w sound q r k m e in (ap (λ (x : Replica). x.safe.store.rows) d, ap (λ (x : Replica). x.safe.store.usn) d)

    pub settled_on : AreSettled over v
    settled_on u d m (r, k, e, h) = (passes w v sound dest source c u).keeps d.0 (settled u d m (held (stands w v sound dest source c r k)))
      where
        held : ((r ≡ c.n) × (r.name ≡ dest)) ⊎ ((r.name ≡ dest → ⊥) × Member r w.replicas) → Holds u w d.1
        held (inl (same, f)) = (c.d, c.d_there.0, c.d_there.1 ∙ (sym f ∙ e), subst (λ (rs : List Held). Member u (updates_of rs)) (ap (λ (x : Replica). x.safe.store.rows) same ∙ still.1) h)
        held (inr (other, n)) = (r, n, e, h)

  -- who there is behind an exchange
  pub named : (w v : World) (dest source : Name) (c : IsCycled w v dest source) (r : Replica) → Member r w.replicas → (q : Replica) × Member q v.replicas × (q.name ≡ r.name)
  named w v dest source c r m = by (bytes_eq r.name dest) refl
    where
      by : (b : Bool) → bytes_eq r.name dest ≡ b → (q : Replica) × Member q v.replicas × (q.name ≡ r.name)
      by true is = (c.n, c.beside.there, c.beside.name ∙ sym (same_name r.name dest is))
      by false is = (r, c.beside.others r m (λ f. let t : bytes_eq r.name dest ≡ true = same_name_tests r.name dest f in absurd (cc)), refl)

  pub rests_on : (xs : List Exchange) (w : World) → IsSoundWorld w → AreWhole w xs → Each (λ x. Member (connection x) over) xs → AreSettled over w → Rests w (behind_exchanges w xs)
  rests_on [] w sound whole only settled r m q n e = let d = one_of w sound q r n m e in (ap (λ (x : Replica). x.safe.store.rows) d, ap (λ (x : Replica). x.safe.store.usn) d)
  rests_on (x ∷ xs) w sound whole only settled r m q n e =
      let v : World = (step w (line_of x)).0 in
      let c : IsCycled w v x.dest x.source = cycled w sound x whole.0 in
      let p = named w v x.dest x.source c r m in
      let first = rests w v sound x.dest x.source c (only x (inl refl)) settled r m p.0 p.1 p.2 in
      let rest = rests_on xs v c.sound whole.1 (λ y k. only y (inr k)) (settled_on w v sound x.dest x.source c (only x (inl refl)) settled) p.0 p.1 q n (e ∙ sym p.2) in
      (rest.0 ∙ first.0, rest.1 ∙ first.1)

-- behind n - 1 rounds
pub settled_behind : (w : World) (names : List Name) (over : List Connection) (rounds : List (List Exchange)) → IsSoundWorld w → Each (λ c. Member c.0 names × Member c.1 names) over
    → Each (IsRound over) rounds → AreWhole w (in_turn rounds) → length names ≤ length rounds + 1 → AreSettled over (behind_exchanges w (in_turn rounds))
settled_behind w names over rounds sound among are whole many u =
    settles (Holds u) (Takes u) names over among rounds w (behind_exchanges w (in_turn rounds)) (held_is_taken u w) are (spreads u (in_turn rounds) w sound whole) many

pub rounds_settle : RoundsSettle
rounds_settle w names over rounds more sound among are only whole many =
    subst (λ v. HoldTheSame (behind_exchanges w (in_turn rounds)) v) (sym (behind_both (in_turn rounds) more w))
    (rests_on over more (behind_exchanges w (in_turn rounds)) (sound_behind (in_turn rounds) w sound t.0) t.1 only (settled_behind w names over rounds sound among are t.0 many))
  where
    t : AreWhole w (in_turn rounds) × AreWhole (behind_exchanges w (in_turn rounds)) more
    t = whole_both (in_turn rounds) more w whole
