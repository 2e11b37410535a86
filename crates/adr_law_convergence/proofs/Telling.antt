-- What a ring that was answered ok tells.
use Rattle.std.proofs.Common.{◌≡◌, ◌≢◌, inl, inr, ⊎_elim, ℕ, zero, suc, ◌+◌, ◌*◌, ◌≤◌, List, [], ◌∷◌, ◌++◌, Bool, true, false, not, Option, Some, None, refl, sym, ap, ◌∙◌, subst, length, map, codes, arith, if◌then◌else◌}
use Rattle.std.specs.List.{find}
use Rattle.std.specs.Option.{option_and_then}
use Rattle.std.specs.Cmp.Lexicographic.{pointwise, pointwise_decides}
use Rattle.std.proofs.lemmas.Bool.{not-false}
use Rattle.adr_call.specs.declared.answer.Answer.{Answer}
use Rattle.adr_call.specs.declared.outcome.Outcome.{Outcome}
use Rattle.adr_call.specs.declared.outcome.Outcome.TheVariants as outcomes
use Rattle.adr_call.specs.declared.event.Event.TheVariants as events
use Rattle.adr_call.specs.declared.event.Exchange.TheVariants as exchanges
use Rattle.adr_model.specs.Member.{Member, Each}
use Rattle.adr_model.specs.Directory.{directory}
use Rattle.adr_model.specs.Visible.{visible}
use Rattle.adr_model.specs.Serve.{Request, Reply}
use Rattle.adr_model.specs.Store.{State}
use Rattle.adr_model.specs.Replica.{Up, Replica}
use Rattle.std.specs.Str.{bytes_eq}
use Rattle.adr_law_convergence.proofs.Found.{same_name, same_name_tests}
use Rattle.adr_model.specs.World.{Name, World, answer, replica_at, shown, asks, serves_request, delivers}
use Rattle.adr_model.specs.Cycles.{Pulled, pull_served, pull_asked, pull, and_then, pulls, cycle, reply_limit, pull_version}
use Rattle.adr_model.specs.Rings.{is_fine, unfinished, or_else, Connection, cycles, last_of, in_line, ring, times, same_entry, same_cursor, show_alike, vectors_alike, compared, where_standing, told_of}
use Rattle.adr_model.specs.Step.{step}
use Rattle.adr_model.specs.Sound.{IsSoundWorld}
use Rattle.adr_model.specs.Convergence.{held_by}
use Rattle.adr_model.proofs.Members.{member_mapped, mapped_member, member_left, member_of_either}
use Rattle.adr_model.proofs.Ringing.{cycles_so}
use Rattle.adr_law_convergence.proofs.Completing.{found_by_name}
use Rattle.adr_law_convergence.proofs.Controllers.{shows_what_is_visible}
use Rattle.adr_law_convergence.specs.Rounds.{Exchange, connection, line_of, IsWhole, AreWhole, behind_exchanges, IsRound, in_turn, ShowTheSame, HaveOneVector, RingsTellTrue}
use Rattle.adr_law_convergence.proofs.Alike.{entry-Decides, cursor-Decides, alike_where_equal}
use Rattle.adr_law_convergence.proofs.Hearing.{rings_are_connected}
use Rattle.adr_law_convergence.proofs.Wholes.{IsCycled, cycled}
use Rattle.adr_law_convergence.proofs.Runs.{sound_behind}
use Rattle.adr_law_convergence.proofs.Rounds.{rounds_converge}

-- ---- cycles that were all whole are exchanges

abbrev exchange : ℕ → Connection → Exchange
exchange max c = record { dest = c.0; source = c.1; max = max }

none_found : {A : Type 0} (test : A → Bool) (xs : List A) → find test xs ≡ None → Each (λ x. test x ≡ false) xs
none_found test [] none x m = absurd m
none_found {A} test (y ∷ ys) none x m = by (test y) refl none m (λ e n. none_found test ys e x n)
  where
    by : (b : Bool) → test y ≡ b → (if b then Some y else find test ys) ≡ None → Member x (y ∷ ys) → (find test ys ≡ None → Member x ys → test x ≡ false) → test x ≡ false
    by true is e k rest = absurd (cc)
    by false is e (inl same) rest = ap test same ∙ is
    by false is e (inr n) rest = rest e n

whole_where_unfinished_not : (answers : List Answer) → unfinished answers ≡ None → IsWhole answers
whole_where_unfinished_not answers none a m = not-false (is_fine a.outcome) (none_found (λ (x : Answer). not (is_fine x.outcome)) answers none a m)

-- what cycles come to that end with nothing unfinished
abbrev Exchanged : List Connection → ℕ → World → World × Option Answer → Type 0
Exchanged cs max w t = t.1 ≡ None → AreWhole w (map (exchange max) cs) × (t.0 ≡ behind_exchanges w (map (exchange max) cs))

all_exchanged : (cs : List Connection) (max : ℕ) (w : World) → Exchanged cs max w (cycles cs max w)
all_exchanged [] max w = λ none. (tt, refl)
all_exchanged (c ∷ cs) max w = by (unfinished (cycle w c.0 c.1 max).1) refl (all_exchanged cs max (cycle w c.0 c.1 max).0)
  where
    by : (o : Option Answer) → unfinished (cycle w c.0 c.1 max).1 ≡ o → Exchanged cs max (cycle w c.0 c.1 max).0 (cycles cs max (cycle w c.0 c.1 max).0)
        → Exchanged (c ∷ cs) max w (or_else o (cycle w c.0 c.1 max).0 (λ v. cycles cs max v))
    by (Some a) e rest none = absurd (cc)
    by None e rest none = let t = rest none in ((whole_where_unfinished_not (cycle w c.0 c.1 max).1 e, t.0), t.1)

-- ---- rounds of the ring

abbrev rounds_of : ℕ → List Exchange → List (List Exchange)
rounds_of zero xs = []
rounds_of (suc n) xs = xs ∷ rounds_of n xs

counted : (n : ℕ) (xs : List Exchange) → length (rounds_of n xs) ≡ n
counted zero xs = refl
counted (suc n) xs = ap suc (counted n xs)

mapped_both : (max : ℕ) (cs ds : List Connection) → map (exchange max) (cs ++ ds) ≡ map (exchange max) cs ++ map (exchange max) ds
mapped_both max [] ds = refl
mapped_both max (c ∷ cs) ds = ap (λ xs. exchange max c ∷ xs) (mapped_both max cs ds)

in_rounds : (n max : ℕ) (cs : List Connection) → map (exchange max) (times n cs) ≡ in_turn (rounds_of n (map (exchange max) cs))
in_rounds zero max cs = refl
in_rounds (suc n) max cs = mapped_both max cs (times n cs) ∙ ap (λ xs. map (exchange max) cs ++ xs) (in_rounds n max cs)

is_round : (max : ℕ) (cs : List Connection) → IsRound cs (map (exchange max) cs)
is_round max cs = record {
  each = λ c m. (exchange max c, member_mapped (exchange max) cs c m, refl);
  only = λ x m. let t = mapped_member (exchange max) cs x m in subst (λ (c : Connection). Member c cs) (sym (ap connection t.2)) t.1;
}

are_rounds : (n max : ℕ) (cs : List Connection) → Each (IsRound cs) (rounds_of n (map (exchange max) cs))
are_rounds zero max cs r m = absurd m
are_rounds (suc n) max cs r (inl e) = subst (IsRound cs) (sym e) (is_round max cs)
are_rounds (suc n) max cs r (inr m) = are_rounds n max cs r m

-- each of a ring pulls in its rounds
pulls_in_line : (before : Name) (xs : List Name) (x : Name) → Member x xs → (source : Name) × Member (x, source) (in_line before xs)
pulls_in_line before [] x m = absurd m
pulls_in_line before (y ∷ ys) x (inl e) = (before, inl (ap (λ (n : Name). let c : Connection = (n, before) in c) e))
pulls_in_line before (y ∷ ys) x (inr m) = let t = pulls_in_line y ys x m in (t.0, inr t.1)

pulls_in_ring : (first : Name) (others : List Name) (x : Name) → Member x (first ∷ others) → (source : Name) × Member (x, source) (ring first others)
pulls_in_ring first others x (inl e) = (last_of first others, inl (ap (λ (n : Name). let c : Connection = (n, last_of first others) in c) e))
pulls_in_ring first others x (inr m) = let t = pulls_in_line first others x m in (t.0, inr t.1)

-- of this name there is one, and it is up
abbrev pub IsUp : World → Name → Type 0
IsUp w x = (r : Replica) × Member r w.replicas × (r.name ≡ x) × (r.standing ≡ Up)

up_behind : (w v : World) (dest source : Name) (c : IsCycled w v dest source) (x : Name) → IsUp w x → IsUp v x
up_behind w v dest source c x (r, m, e, up) = by (bytes_eq r.name dest) refl
  where
    by : (b : Bool) → bytes_eq r.name dest ≡ b → IsUp v x
    by true is = (c.n, c.beside.there, c.beside.name ∙ (sym (same_name r.name dest is) ∙ e), c.up)
    by false is = (r, c.beside.others r m (λ f. let t : bytes_eq r.name dest ≡ true = same_name_tests r.name dest f in absurd (cc)), e, up)

-- who is up stays so, and who pulled is
still_up : (xs : List Exchange) (w : World) → IsSoundWorld w → AreWhole w xs → (x : Name) → IsUp w x → IsUp (behind_exchanges w xs) x
still_up [] w sound whole x up = up
still_up (y ∷ ys) w sound whole x up = let c = cycled w sound y whole.0 in still_up ys (step w (line_of y)).0 c.sound whole.1 x (up_behind w (step w (line_of y)).0 y.dest y.source c x up)

pub pulled_is_up : (xs : List Exchange) (w : World) → IsSoundWorld w → AreWhole w xs → (x : Exchange) → Member x xs → IsUp (behind_exchanges w xs) x.dest
pulled_is_up [] w sound whole x m = absurd m
pulled_is_up (y ∷ ys) w sound whole x (inl e) = let c = cycled w sound y whole.0 in
    subst (λ (z : Exchange). IsUp (behind_exchanges w (y ∷ ys)) z.dest) (sym e) (still_up ys (step w (line_of y)).0 c.sound whole.1 y.dest (c.n, c.beside.there, c.beside.name, c.up))
pulled_is_up (y ∷ ys) w sound whole x (inr m) = pulled_is_up ys (step w (line_of y)).0 (cycled w sound y whole.0).sound whole.1 x m

-- ---- what is compared

shown_is_held : (v : World) → IsSoundWorld v → (r : Replica) → Member r v.replicas → shown v r.safe ≡ directory (held_by r)
shown_is_held v sound r m =
    ap (λ b. directory (if b then visible v.book.issued r.safe.store.vector (held_by r) else held_by r)) sound.clean
    ∙ sym (shows_what_is_visible v sound r m)

module _ (v : World) (sound : IsSoundWorld v) (first : Name) (others : List Name) where
  -- each of them is up
  abbrev pub AreUp : Type 0
  AreUp = Each (λ x. IsUp v x) (first ∷ others)

  -- what is told of one of them
  told_so : {A : Type 0} (tell : State → A) (x : Name) (u : IsUp v x) → told_of v tell x ≡ Some (tell u.0.safe)
  told_so tell x (q, m, e, up) =
      ap (option_and_then (λ (r : Replica). where_standing r.standing (tell r.safe))) (subst (λ n. replica_at v n ≡ Some q) e (found_by_name v q sound m))
      ∙ ap (λ s. where_standing s (tell q.safe)) up

  pub directories_alike : AreUp → ShowTheSame (first ∷ others) v → show_alike v (first ∷ others) ≡ true
  directories_alike there same = alike_where_equal (pointwise same_entry) (pointwise_decides entry-Decides) (told_of v (shown v)) first others equal
    where
      f : IsUp v first
      f = there first (inl refl)

      equal : Each (λ x. told_of v (shown v) x ≡ told_of v (shown v) first) others
      equal x m = let q = there x (inr m) in
          told_so (shown v) x q
          ∙ (ap Some (shown_is_held v sound q.0 q.1 ∙ (same q.0 q.1 f.0 f.1 (inr (subst (λ n. Member n others) (sym q.2) m)) (inl f.2) ∙ sym (shown_is_held v sound f.0 f.1)))
          ∙ sym (told_so (shown v) first f))

  vectors_are_alike : AreUp → HaveOneVector (first ∷ others) v → vectors_alike v (first ∷ others) ≡ true
  vectors_are_alike there same = alike_where_equal (pointwise same_cursor) (pointwise_decides cursor-Decides) (told_of v (λ s. s.store.vector)) first others equal
    where
      f : IsUp v first
      f = there first (inl refl)

      equal : Each (λ x. told_of v (λ s. s.store.vector) x ≡ told_of v (λ s. s.store.vector) first) others
      equal x m = let q = there x (inr m) in
          told_so (λ s. s.store.vector) x q
          ∙ (ap Some (same q.0 q.1 f.0 f.1 (inr (subst (λ n. Member n others) (sym q.2) m)) (inl f.2))
          ∙ sym (told_so (λ s. s.store.vector) first f))

-- ---- an answer of a pull has another verb

abbrev IsOther : Answer → Type 0
IsOther a = a.verb ≢ codes "ring"

one_other : (verb : List ℕ) (name : Name) (o : Outcome) (rest : List Answer) → verb ≢ codes "ring" → Each IsOther rest → Each IsOther (answer verb name o ∷ rest)
one_other verb name o rest is all a (inl e) f = is (ap (λ (b : Answer). b.verb) (sym e) ∙ f)
one_other verb name o rest is all a (inr m) f = all a m f

served_others : (dest : Name) (w : World) (o : Option Reply) → Each IsOther (pull_served dest w o).1
served_others dest w None = λ a m. absurd m
served_others dest w (Some r) = one_other (codes "deliver") dest (delivers w dest (Some r)).1 [] (λ e. absurd (cc)) (λ a m. absurd m)

asked_others : (dest source : Name) (w : World) (o : Option Request) → Each IsOther (pull_asked dest source w o).1
asked_others dest source w None = λ a m. absurd m
asked_others dest source w (Some q) = let t = serves_request w source (Some q) in
    one_other (codes "serve") source t.1 (pull_served dest t.0 t.2).1 (λ e. absurd (cc)) (served_others dest t.0 t.2)

pull_others : (w : World) (dest source : Name) (max : ℕ) → Each IsOther (pull w dest source max).1
pull_others w dest source max = let t = asks w dest source max pull_version in
    one_other (codes "ask") dest t.1 (pull_asked dest source t.0 t.2).1 (λ e. absurd (cc)) (asked_others dest source t.0 t.2)

then_others : (p : Pulled) (go : World → World × List Answer) → Each IsOther p.1 → ((v : World) → Each IsOther (go v).1) → Each IsOther (and_then p go).1
then_others p go all rest = by p.2
  where
    by : (b : Bool) → Each IsOther (and_then (p.0, p.1, b) go).1
    by true a m = ⊎_elim (λ l. all a l) (λ r. rest p.0 a r) (member_of_either p.1 (go p.0).1 a m)
    by false a m = all a m

pulls_others : (n : ℕ) (w : World) (dest source : Name) (max : ℕ) → Each IsOther (pulls n w dest source max).1
pulls_others zero w dest source max = one_other (codes "cycle") dest outcomes.More [] (λ e. absurd (cc)) (λ a m. absurd m)
pulls_others (suc n) w dest source max = then_others (pull w dest source max) (λ v. pulls n v dest source max) (pull_others w dest source max) (λ v. pulls_others n v dest source max)

left_other : (cs : List Connection) (max : ℕ) (w : World) (a : Answer) → (cycles cs max w).1 ≡ Some a → IsOther a
left_other cs max w = (cycles_so (λ v. Unit {0}) IsOther (λ v dest source most is. (tt, pulls_others reply_limit v dest source most)) cs max w tt).1

-- ---- the ring

-- what was compared, by the answer
abbrev told_by : Outcome → Bool × Bool
told_by (outcomes.Compared rounds directories vectors) = (directories, vectors)
told_by _ = (false, false)

abbrev first_told : List Answer → Bool × Bool
first_told [] = (false, false)
first_told (a ∷ rest) = told_by a.outcome

module _ (w : World) (sound : IsSoundWorld w) (first : Name) (others : List Name) (rounds max : ℕ) where
  abbrev cs : List Connection
  cs = ring first others

  abbrev names : List Name
  names = first ∷ others

  abbrev turns : List (List Exchange)
  turns = rounds_of rounds (map (exchange max) cs)

  -- cycles that were all whole left a world in which they are alike
  module _ (v : World) (whole : AreWhole w (in_turn turns)) (is : v ≡ behind_exchanges w (in_turn turns)) where
    v_sound : IsSoundWorld v
    v_sound = subst IsSoundWorld (sym is) (sound_behind (in_turn turns) w sound whole)

    -- who pulled in a first round
    there : 1 ≤ rounds → Each (λ x. IsUp v x) names
    there some x m = let s = pulls_in_ring first others x m in
        let q = pulled_is_up (in_turn turns) w sound whole (exchange max (x, s.0)) (first_round rounds some (exchange max (x, s.0)) (member_mapped (exchange max) cs (x, s.0) s.1)) in
        subst (λ (u : World). IsUp u x) (sym is) q
      where
        first_round : (n : ℕ) → 1 ≤ n → (y : Exchange) → Member y (map (exchange max) cs) → Member y (in_turn (rounds_of n (map (exchange max) cs)))
        first_round zero le y k = absurd (omega (arith, le))
        first_round (suc n) le y k = member_left (map (exchange max) cs) (in_turn (rounds_of n (map (exchange max) cs))) y k

    told : (length names ≤ length turns + 1 → ShowTheSame names v) × (2 * length names ≤ length turns + 2 → HaveOneVector names v)
    told = subst (λ (u : World). (length names ≤ length turns + 1 → ShowTheSame names u) × (2 * length names ≤ length turns + 2 → HaveOneVector names u)) (sym is)
        (rounds_converge w names cs turns sound (rings_are_connected first others) (are_rounds rounds max cs) whole)

    show : length others ≤ rounds → show_alike v names ≡ true
    show le = by others refl
      where
        by : (xs : List Name) → others ≡ xs → show_alike v names ≡ true
        by [] e = subst (λ (ys : List Name). show_alike v (first ∷ ys) ≡ true) (sym e) refl
        by (x ∷ xs) e = directories_alike v v_sound first others (there (omega (arith, le, ap length e))) (told.0 (omega (arith, le, counted rounds (map (exchange max) cs))))

    have : 2 * length others ≤ rounds → vectors_alike v names ≡ true
    have le = by others refl
      where
        by : (xs : List Name) → others ≡ xs → vectors_alike v names ≡ true
        by [] e = subst (λ (ys : List Name). vectors_alike v (first ∷ ys) ≡ true) (sym e) refl
        by (x ∷ xs) e = vectors_are_alike v v_sound first others (there (omega (arith, le, ap length e))) (told.1 (omega (arith, le, counted rounds (map (exchange max) cs))))

  tells : (directories vectors : Bool) → (step w (events.Goes first (exchanges.Ring others rounds max))).1 ≡ answer (codes "ring") first (outcomes.Compared rounds directories vectors) ∷ []
      → (length others ≤ rounds → directories ≡ true) × (2 * length others ≤ rounds → vectors ≡ true)
  tells directories vectors = by (cycles (times rounds cs) max w).0 (cycles (times rounds cs) max w).1 (all_exchanged (times rounds cs) max w) (left_other (times rounds cs) max w)
    where
      by : (v : World) (o : Option Answer) → Exchanged (times rounds cs) max w (v, o) → ((a : Answer) → o ≡ Some a → IsOther a)
          → (compared first others rounds v o).1 ≡ answer (codes "ring") first (outcomes.Compared rounds directories vectors) ∷ []
          → (length others ≤ rounds → directories ≡ true) × (2 * length others ≤ rounds → vectors ≡ true)
      by v (Some a) exchanged other e = let same : a ≡ answer (codes "ring") first (outcomes.Compared rounds directories vectors) = cc in absurd (other a refl (ap (λ (b : Answer). b.verb) same))
      by v None exchanged other e = (λ le. sym d ∙ show v whole is le, λ le. sym f ∙ have v whole is le)
        where
          d : show_alike v names ≡ directories
          d = ap (λ (told : List Answer). (first_told told).0) e

          f : vectors_alike v names ≡ vectors
          f = ap (λ (told : List Answer). (first_told told).1) e

          t : AreWhole w (map (exchange max) (times rounds cs)) × (v ≡ behind_exchanges w (map (exchange max) (times rounds cs)))
          t = exchanged refl

          whole : AreWhole w (in_turn turns)
          whole = subst (AreWhole w) (in_rounds rounds max cs) t.0

          is : v ≡ behind_exchanges w (in_turn turns)
          is = t.1 ∙ ap (behind_exchanges w) (in_rounds rounds max cs)

pub rings_tell_true : RingsTellTrue
rings_tell_true w sound first others rounds max directories vectors = tells w sound first others rounds max directories vectors
