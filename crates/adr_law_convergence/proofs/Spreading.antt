-- What spreads by exchanges, and of what is taken only where it is lacking, stands still behind n - 1 rounds of n.
use Rattle.std.proofs.Common.{◌≡◌, ◌⊎◌, inl, inr, ⊎_elim, ℕ, suc, ◌+◌, ◌≤◌, List, [], ◌∷◌, ◌++◌, refl, sym, ap, ◌∙◌, subst, length, arith}
use Rattle.adr_model.specs.Member.{Member, Each}
use Rattle.adr_model.specs.World.{Name}
use Rattle.adr_model.specs.Rings.{Connection}
use Rattle.adr_law_convergence.specs.Rounds.{Exchange, connection, IsRound, in_turn}
use Rattle.adr_law_convergence.proofs.Names.{Differ, all_names}

-- at moments T some hold something, and some reflect it
module _ {T : Type 0} (H R : T → Name → Type 0) where
  -- an exchange: what is held is reflected, and stays so; what the source holds the destination reflects; and what it gains it
  -- didn't reflect
  pub record Passes (t u : T) (dest source : Name) : Type 0 where
    pub holds : (x : Name) → H u x → R u x
    pub keeps : (x : Name) → R t x → R u x
    pub took : H t source → R u dest
    pub gained : (x : Name) → H u x → H t x ⊎ ((x ≡ dest) × H t source × (R t dest → ⊥))

  -- exchanges one after the other
  abbrev pub Passed : T → List Exchange → T → Type 0
  Passed t [] u = u ≡ t
  Passed t (x ∷ xs) u = (v : T) × Passes t v x.dest x.source × Passed v xs u

  pub divided : (t u : T) (xs ys : List Exchange) → Passed t (xs ++ ys) u → (v : T) × Passed t xs v × Passed v ys u
  divided t u [] ys p = (t, refl, p)
  divided t u (x ∷ xs) ys (v, step, rest) = let d = divided v u xs ys rest in (d.0, (v, step, d.1), d.2)

  module _ (names : List Name) (over : List Connection) (among : Each (λ c. Member c.0 names × Member c.1 names) over) where
    -- so many of these, no two of one name, reflect it
    pub record Known (t : T) (n : ℕ) : Type 0 where
      pub who : List Name
      pub count : length who ≡ n
      pub differ : Differ who
      pub members : Each (λ x. Member x names) who
      pub reflect : Each (λ x. R t x) who

    kept : (t u : T) (n : ℕ) → ((x : Name) → R t x → R u x) → Known t n → Known u n
    kept t u n keeps k = record { who = k.who; count = k.count; differ = k.differ; members = k.members; reflect = λ x m. keeps x (k.reflect x m) }

    -- whoever is pulled from and holds it: the one that pulls reflects it, or so many do
    abbrev Spread : T → ℕ → List Connection → Type 0
    Spread t n cs = Each (λ c. H t c.1 → R t c.0 ⊎ Known t n) cs

    -- within a round: of the connections that were used so far one more do
    record Within (t : T) (n : ℕ) (used : List Connection) : Type 0 where
      all : Spread t n over
      so_far : Spread t (suc n) used

    module _ (t u : T) (n : ℕ) (used : List Connection) (w : Within t n used) (dest source : Name) (there : Member (dest, source) over) (p : Passes t u dest source) where
      older : (m : ℕ) (name : Name) → R t name ⊎ Known t m → R u name ⊎ Known u m
      older m name = ⊎_elim (λ r. inl (p.keeps name r)) (λ k. inr (kept t u m p.keeps k))

      -- where it was gained so many had it before
      had : H t source → (R t dest → ⊥) → Known t n
      had held lacked = ⊎_elim (λ r. absurd (lacked r)) (λ k. k) (w.all (dest, source) there held)

      one_more : (x : Name) → x ≡ dest → H u x → (R t dest → ⊥) → Known t n → Known u (suc n)
      one_more x is held lacked k = record {
        who = dest ∷ k.who;
        count = ap suc k.count;
        differ = (λ m. lacked (k.reflect dest m), k.differ);
        members = named;
        reflect = reflecting;
      }
        where
          named : Each (λ y. Member y names) (dest ∷ k.who)
          named y (inl e) = subst (λ z. Member z names) (sym e) (among (dest, source) there).0
          named y (inr m) = k.members y m

          reflecting : Each (λ y. R u y) (dest ∷ k.who)
          reflecting y (inl e) = subst (R u) (is ∙ sym e) (p.holds x held)
          reflecting y (inr m) = p.keeps y (k.reflect y m)

      all_on : Spread u n over
      all_on c m held = by (p.gained c.1 held)
        where
          by : H t c.1 ⊎ ((c.1 ≡ dest) × H t source × (R t dest → ⊥)) → R u c.0 ⊎ Known u n
          by (inl old) = older n c.0 (w.all c m old)
          by (inr (is, from, lacked)) = inr (kept t u n p.keeps (had from lacked))

      used_on : Spread u (suc n) ((dest, source) ∷ used)
      used_on c (inl e) held = inl (subst (R u) (ap (λ (d : Connection). d.0) (sym e)) (p.took (by (p.gained c.1 held))))
        where
          by : H t c.1 ⊎ ((c.1 ≡ dest) × H t source × (R t dest → ⊥)) → H t source
          by (inl old) = subst (H t) (ap (λ (d : Connection). d.1) e) old
          by (inr (is, from, lacked)) = from
      used_on c (inr m) held = by (p.gained c.1 held)
        where
          by : H t c.1 ⊎ ((c.1 ≡ dest) × H t source × (R t dest → ⊥)) → R u c.0 ⊎ Known u (suc n)
          by (inl old) = older (suc n) c.0 (w.so_far c m old)
          by (inr (is, from, lacked)) = inr (one_more c.1 is held lacked (had from lacked))

      on : Within u n ((dest, source) ∷ used)
      on = record { all = all_on; so_far = used_on }

    abbrev used_by : List Exchange → List Connection → List Connection
    used_by [] used = used
    used_by (x ∷ xs) used = used_by xs (connection x ∷ used)

    still_used : (xs : List Exchange) (used : List Connection) (c : Connection) → Member c used → Member c (used_by xs used)
    still_used [] used c m = m
    still_used (x ∷ xs) used c m = still_used xs (connection x ∷ used) c (inr m)

    was_used : (xs : List Exchange) (used : List Connection) (x : Exchange) → Member x xs → Member (connection x) (used_by xs used)
    was_used [] used x m = absurd m
    was_used (y ∷ ys) used x (inl e) = still_used ys (connection y ∷ used) (connection x) (inl (ap connection e))
    was_used (y ∷ ys) used x (inr m) = was_used ys (connection y ∷ used) x m

    through : (xs : List Exchange) (t u : T) (n : ℕ) (used : List Connection) → Each (λ x. Member (connection x) over) xs → Passed t xs u → Within t n used → Within u n (used_by xs used)
    through [] t u n used only p w = subst (λ v. Within v n used) (sym p) w
    through (x ∷ xs) t u n used only (v, step, rest) w =
        through xs v u n (connection x ∷ used) (λ y m. only y (inr m)) rest (on t v n used w x.dest x.source (only x (inl refl)) step)

    -- behind a round one more do
    round : (xs : List Exchange) (t u : T) (n : ℕ) → IsRound over xs → Passed t xs u → Spread t n over → Spread u (suc n) over
    round xs t u n is p s c m = let w = through xs t u n [] is.only p (record { all = s; so_far = λ d k. absurd k }) in let x = is.each c m in
        w.so_far c (subst (λ d. Member d (used_by xs [])) x.2 (was_used xs [] x.0 x.1))

    rounds_on : (rs : List (List Exchange)) (t u : T) (n : ℕ) → Each (IsRound over) rs → Passed t (in_turn rs) u → Spread t n over → Spread u (length rs + n) over
    rounds_on [] t u n are p s = let e : n ≡ length {A = List Exchange} [] + n = omega arith in subst (λ k. Spread u k over) e (subst (λ v. Spread v n over) (sym p) s)
    rounds_on (r ∷ rs) t u n are p s = let d = divided t u r (in_turn rs) p in
        let e : length rs + suc n ≡ length (r ∷ rs) + n = omega arith in
        subst (λ k. Spread u k over) e (rounds_on rs d.0 u (suc n) (λ x m. are x (inr m)) d.2 (round r t d.0 n (are r (inl refl)) d.1 s))

    begins : (t : T) → ((x : Name) → H t x → R t x) → Spread t 1 over
    begins t holds c m held = inr (record { who = c.1 ∷ []; count = refl; differ = (λ n. n, tt); members = named; reflect = reflecting })
      where
        named : Each (λ x. Member x names) (c.1 ∷ [])
        named x (inl e) = subst (λ z. Member z names) (sym e) (among c m).1
        named x (inr n) = absurd n

        reflecting : Each (λ x. R t x) (c.1 ∷ [])
        reflecting x (inl e) = subst (R t) (sym e) (holds c.1 held)
        reflecting x (inr n) = absurd n

    -- behind n - 1 rounds whoever pulls from one that holds it reflects it
    pub settles : (rs : List (List Exchange)) (t u : T) → ((x : Name) → H t x → R t x) → Each (IsRound over) rs → Passed t (in_turn rs) u → length names ≤ length rs + 1
        → Each (λ c. H u c.1 → R u c.0) over
    settles rs t u holds are p many c m held = by (rounds_on rs t u 1 are p (begins t holds) c m held)
      where
        by : R u c.0 ⊎ Known u (length rs + 1) → R u c.0
        by (inl r) = r
        by (inr k) = k.reflect c.0 (all_names k.who names k.differ k.members (omega (arith, many, k.count)) c.0 (among c m).0)
