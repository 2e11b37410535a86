-- Where nobody writes, vectors join: who hears from each has what any had, and nobody has more.
use Rattle.std.proofs.Common.{◌≡◌, ◌≢◌, ◌⊎◌, inl, inr, ⊎_elim, ℕ, ◌≤◌, List, [], ◌∷◌, Bool, true, false, ◌&&◌, refl, sym, ap, ◌∙◌, subst, max, arith}
use Rattle.std.specs.Str.{bytes_eq}
use Rattle.std.proofs.lemmas.Bool.{and_parts, or_cases}
use Rattle.adr_values.specs.Vector.{IsVector, at}
use Rattle.adr_values.proofs.Cursors.{same_cursors}
use Rattle.adr_model.specs.Member.{Member, Each}
use Rattle.adr_model.specs.Update.{Identifier}
use Rattle.adr_model.specs.Reflects.{Numbers, AtMost}
use Rattle.adr_model.specs.Store.{State}
use Rattle.adr_model.specs.Replica.{Replica}
use Rattle.adr_model.specs.World.{Name, World}
use Rattle.adr_model.specs.Step.{step}
use Rattle.adr_model.specs.Sound.{last_of, IsSoundState, IsSoundWorld}
use Rattle.adr_law_convergence.proofs.Found.{same_name, same_name_tests}
use Rattle.adr_model.specs.Rings.{Connection}
use Rattle.adr_law_convergence.specs.Rounds.{Exchange, connection, line_of, AreWhole, behind_exchanges, passed_on, spread, AllHear, HaveOneVector, in_turn, HearersHaveOneVector}
use Rattle.adr_law_convergence.proofs.Wholes.{IsCycled, cycled}
use Rattle.adr_law_convergence.proofs.Runs.{one_of, stands, sound_behind, behind_both, whole_both, AreSettled, rests, settled_on, settled_behind}

-- the USN at an identifier, by whether it is the own one
own_or_other : (n : State) (i : Identifier) → (i ≡ n.inv) ⊎ (i ≢ n.inv)
own_or_other n i = by (bytes_eq i n.inv) refl
  where
    by : (b : Bool) → bytes_eq i n.inv ≡ b → (i ≡ n.inv) ⊎ (i ≢ n.inv)
    by true is = inl (same_name i n.inv is)
    by false is = inr (λ e. let t : bytes_eq i n.inv ≡ true = same_name_tests i n.inv e in absurd (cc))

module _ (w v : World) (sound : IsSoundWorld w) (dest source : Name) (c : IsCycled w v dest source) where
  d_safe : IsSoundState w.book c.d.safe
  d_safe = (sound.replicas c.d c.d_there.0).safe

  s_safe : IsSoundState w.book c.s.safe
  s_safe = (sound.replicas c.s c.s_there.0).safe

  -- what anyone has seen of the identifier of the one that pulls it has itself
  seen_of_own : (i : Identifier) → i ≡ c.n.safe.inv → (x : State) → IsSoundState w.book x → at x.store.vector i ≤ at c.n.safe.store.vector i
  seen_of_own i is x safe = omega (
    arith,
    ap (at c.n.safe.store.vector) is,
    c.carried.all.own,
    c.carried.rises,
    d_safe.last,
    ap (last_of w.book) (is ∙ c.carried.inv),
    safe.store.bounded i,
  )

  -- the vector never falls, and is at least the source's
  own_kept : AtMost (at c.d.safe.store.vector) (at c.n.safe.store.vector)
  own_kept i = ⊎_elim (λ is. seen_of_own i is c.d.safe d_safe) (λ other. omega (arith, c.carried.all.vector i other)) (own_or_other c.n.safe i)

  source_joined : AtMost (at c.s.safe.store.vector) (at c.n.safe.store.vector)
  source_joined i = ⊎_elim (λ is. seen_of_own i is c.s.safe s_safe) (λ other. omega (arith, c.carried.all.vector i other)) (own_or_other c.n.safe i)

  -- who has it has at least these numbers
  abbrev pub AtLeast : Numbers → World → (Name → Bool) → Type 0
  AtLeast V x has = Each (λ r. has r.name ≡ true → AtMost V (at r.safe.store.vector)) x.replicas

  at_least_on : (V : Numbers) (has : Name → Bool) (max : ℕ) → AtLeast V w has → AtLeast V v (passed_on has (record { dest = dest; source = source; max = max }))
  at_least_on V has max all r m h = by (stands w v sound dest source c r m) (or_cases (has r.name) (bytes_eq r.name dest && has source) h)
    where
      up : (x : State) → AtMost V (at x.store.vector) → AtMost (at x.store.vector) (at c.n.safe.store.vector) → AtMost V (at c.n.safe.store.vector)
      up x one two i = omega (arith, one i, two i)

      back : r ≡ c.n → AtMost V (at c.n.safe.store.vector) → AtMost V (at r.safe.store.vector)
      back same le = subst (λ (q : Replica). AtMost V (at q.safe.store.vector)) (sym same) le

      by : ((r ≡ c.n) × (r.name ≡ dest)) ⊎ ((r.name ≡ dest → ⊥) × Member r w.replicas) → (has r.name ≡ true) ⊎ ((bytes_eq r.name dest && has source) ≡ true) → AtMost V (at r.safe.store.vector)
      by (inl (same, f)) (inl had) = back same (up c.d.safe (all c.d c.d_there.0 (ap has (c.d_there.1 ∙ sym f) ∙ had)) own_kept)
      by (inl (same, f)) (inr new) = back same (up c.s.safe (all c.s c.s_there.0 (ap has c.s_there.1 ∙ (and_parts (bytes_eq r.name dest) (has source) new).1)) source_joined)
      by (inr (other, k)) (inl had) = all r k had
      by (inr (other, k)) (inr new) = absurd (other (same_name r.name dest (and_parts (bytes_eq r.name dest) (has source) new).0))

at_least_behind : (V : Numbers) (xs : List Exchange) (w : World) (has : Name → Bool) → IsSoundWorld w → AreWhole w xs → Each (λ r. has r.name ≡ true → AtMost V (at r.safe.store.vector)) w.replicas
    → Each (λ r. spread has xs r.name ≡ true → AtMost V (at r.safe.store.vector)) (behind_exchanges w xs).replicas
at_least_behind V [] w has sound whole all = all
at_least_behind V (x ∷ xs) w has sound whole all = let c = cycled w sound x whole.0 in
    at_least_behind V xs (step w (line_of x)).0 (passed_on has x) c.sound whole.1 (at_least_on w (step w (line_of x)).0 sound x.dest x.source c V has x.max all)

-- ---- and nobody has more

-- at each identifier one of these has as much in a world
abbrev IsBelow : List Name → World → Replica → Type 0
IsBelow names w r = (i : Identifier) → (q : Replica) × Member q w.replicas × Member q.name names × (at r.safe.store.vector i ≤ at q.safe.store.vector i)

abbrev AreBelow : List Name → World → World → Type 0
AreBelow names w v = Each (λ r. Member r.name names → IsBelow names w r) v.replicas

either : (a b : ℕ) → (a ≤ b) ⊎ (b ≤ a)
either a b = grind arith

module _ (names : List Name) (over : List Connection) (among : Each (λ c. Member c.0 names × Member c.1 names) over) (w0 : World) where
  below_on : (w v : World) (sound : IsSoundWorld w) (dest source : Name) (c : IsCycled w v dest source) → Member (dest, source) over → c.n.safe.store.usn ≡ c.d.safe.store.usn → AreBelow names w0 w → AreBelow names w0 v
  below_on w v sound dest source c there idle all r m is = by (stands w v sound dest source c r m)
    where
      of_d : IsBelow names w0 c.d
      of_d = all c.d c.d_there.0 (subst (λ n. Member n names) (sym c.d_there.1) (among (dest, source) there).0)

      of_s : IsBelow names w0 c.s
      of_s = all c.s c.s_there.0 (subst (λ n. Member n names) (sym c.s_there.1) (among (dest, source) there).1)

      d_own : at c.d.safe.store.vector c.d.safe.inv ≡ c.d.safe.store.usn
      d_own = (sound.replicas c.d c.d_there.0).safe.formed.own

      joined : (i : Identifier) → at c.n.safe.store.vector i ≤ max (at c.d.safe.store.vector i) (at c.s.safe.store.vector i)
      joined i = ⊎_elim (λ is. omega (arith, ap (at c.n.safe.store.vector) is, c.carried.all.own, idle, d_own, ap (at c.d.safe.store.vector) (is ∙ c.carried.inv))) (λ other. omega (arith, c.carried.all.vector i other)) (own_or_other c.n.safe i)

      of_n : IsBelow names w0 c.n
      of_n i = ⊎_elim (λ le. let q = of_s i in (q.0, q.1, q.2, omega (arith, joined i, le, q.3))) (λ le. let q = of_d i in (q.0, q.1, q.2, omega (arith, joined i, le, q.3))) (either (at c.d.safe.store.vector i) (at c.s.safe.store.vector i))

      by : ((r ≡ c.n) × (r.name ≡ dest)) ⊎ ((r.name ≡ dest → ⊥) × Member r w.replicas) → IsBelow names w0 r
      by (inl (same, f)) = subst (IsBelow names w0) (sym same) of_n
      by (inr (other, k)) = all r k is

  below_behind : (xs : List Exchange) (w : World) → IsSoundWorld w → AreWhole w xs → Each (λ x. Member (connection x) over) xs → AreSettled over w → AreBelow names w0 w → AreBelow names w0 (behind_exchanges w xs)
  below_behind [] w sound whole only settled all = all
  below_behind (x ∷ xs) w sound whole only settled all = let c = cycled w sound x whole.0 in let v = (step w (line_of x)).0 in
      below_behind xs v c.sound whole.1 (λ y m. only y (inr m)) (settled_on over w v sound x.dest x.source c (only x (inl refl)) settled)
      (below_on w v sound x.dest x.source c (only x (inl refl)) (rests over w v sound x.dest x.source c (only x (inl refl)) settled c.d c.d_there.0 c.n c.beside.there (c.beside.name ∙ sym c.d_there.1)).1 all)

-- ---- so all have one

one_vector : (names : List Name) (over : List Connection) (xs : List Exchange) (w : World) → IsSoundWorld w → Each (λ c. Member c.0 names × Member c.1 names) over → AreWhole w xs → Each (λ x. Member (connection x) over) xs
    → AreSettled over w → AllHear names xs → HaveOneVector names (behind_exchanges w xs)
one_vector names over xs w sound among whole only settled hear r m q n is it =
    same_cursors r.safe.store.vector q.safe.store.vector (vector r m).rising (vector q n).rising (vector r m).from_one (vector q n).from_one (λ i. let one = most r m q n is it i in let two = most q n r m it is i in omega (arith, one, two))
  where
    v : World
    v = behind_exchanges w xs

    vector : (x : Replica) → Member x v.replicas → IsVector x.safe.store.vector
    vector x k = ((sound_behind xs w sound whole).replicas x k).safe.store.formed.vector

    below : AreBelow names w v
    below = below_behind names over among w xs w sound whole only settled (λ x k named i. (x, k, named, omega arith))

    heard : (p : Replica) → Member p w.replicas → Member p.name names → (x : Replica) → Member x v.replicas → Member x.name names → AtMost (at p.safe.store.vector) (at x.safe.store.vector)
    heard p k named x l also = at_least_behind (at p.safe.store.vector) xs w (λ z. bytes_eq z p.name) sound whole start x l (hear x.name also p.name named)
      where
        start : Each (λ y. bytes_eq y.name p.name ≡ true → AtMost (at p.safe.store.vector) (at y.safe.store.vector)) w.replicas
        start y i e = subst (λ (z : Replica). AtMost (at p.safe.store.vector) (at z.safe.store.vector)) (one_of w sound p y k i (sym (same_name y.name p.name e))) (λ j. omega arith)

    most : (x : Replica) → Member x v.replicas → (y : Replica) → Member y v.replicas → Member x.name names → Member y.name names → (i : Identifier) → at x.safe.store.vector i ≤ at y.safe.store.vector i
    most x k y l named also i = let p = below x k named i in omega (arith, p.3, heard p.0 p.1 p.2 y l also i)

pub hearers_have_one_vector : HearersHaveOneVector
hearers_have_one_vector w names over rounds more sound among are only whole many hear =
    subst (HaveOneVector names) (sym (behind_both (in_turn rounds) more w))
    (one_vector names over more (behind_exchanges w (in_turn rounds)) (sound_behind (in_turn rounds) w sound t.0) among t.1 only (settled_behind w names over rounds sound among are t.0 many) hear)
  where
    t : AreWhole w (in_turn rounds) × AreWhole (behind_exchanges w (in_turn rounds)) more
    t = whole_both (in_turn rounds) more w whole
