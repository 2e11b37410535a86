-- A reply covers its ground, wherever it is cut.
use Rattle.std.proofs.Common.{◌≡◌, ◌⊎◌, inl, inr, ⊎_elim, ℕ, ◌≤◌, ◌<◌, ◌-◌, List, [], ◌∷◌, ◌++◌, Bool, true, false, refl, sym, ◌∙◌, subst, ap, arith, fold, length, length-append, ◌==◌, ◌&&◌, ◌||◌, not, if◌then◌else◌}
use Rattle.std.proofs.lemmas.Bool.{eqb-true}
use Rattle.std.proofs.lemmas.Bool.Decides.{leb_tells}
use Rattle.std.specs.Prelude.{nat_lt}
use Rattle.std.specs.Cmp.Derive.{both_true}
use Rattle.std.proofs.lemmas.Bool.Decides.{nat_tests}
use Rattle.adr_values.specs.Vector.{Cursors, at}
use Rattle.adr_values.specs.declared.mark.Mark.{Mark}
use Rattle.adr_model.specs.Member.{Member, Each}
use Rattle.adr_model.specs.Update.{inv_of, usn_of, unit_of}
use Rattle.adr_model.specs.Reflects.{Covers}
use Rattle.adr_model.specs.Store.{Held, State}
use Rattle.adr_model.specs.Change.{Item}
use Rattle.adr_model.specs.LocalLog.{rows_at, IsBelow}
use Rattle.adr_model.specs.Replica.{Book, log_of}
use Rattle.adr_model.specs.Serve.{Request, Reply, last_local, is_above_mark, is_unseen, sendable, candidates, item_length, byte_limit, first_items, reply_of, begins_at, reply_to}
use Rattle.adr_model.specs.Formed.{AreAlone}
use Rattle.adr_model.specs.Sound.{IsSent, CoversItsGround}
use Rattle.adr_model.proofs.Members.{in_filter, of_filter, member_mapped, member_of_either}
use Rattle.adr_law_calls.proofs.Past.{Tells}
use Rattle.adr_law_calls.proofs.Locals.{within_last, last_within}
use Rattle.adr_law_calls.proofs.Candidates.{Rises, entry_of, candidates_rise, candidate_there, row_in_item}

abbrev pub LessTells : ℕ → ℕ → Type 0
LessTells a b = ((nat_lt a b ≡ true) × (a < b)) ⊎ ((nat_lt a b ≡ false) × (b ≤ a))

pub lt_tells : (a b : ℕ) → LessTells a b
lt_tells a b = by (nat_lt a b) refl
  where
    by : (t : Bool) → nat_lt a b ≡ t → ((t ≡ true) × (a < b)) ⊎ ((t ≡ false) × (b ≤ a))
    by true is = inl (refl, grind (arith, nat_tests))
    by false is = inr (refl, grind (arith, nat_tests))

-- a row is covered, or the mark leaves it out, or it may be sent
unseen_or_not : (rows : List Held) (from : Mark) (asked : Cursors) (x : Held) → Member x rows → Covers (at asked) x.update ⊎ (IsBelow rows from x ⊎ Member x (sendable rows from asked))
unseen_or_not rows from asked x m = by (lt_tells from.obj (last_local rows (unit_of x.update.key))) (lt_tells from.prop x.local) (leb_tells (usn_of x.update) (at asked (inv_of x.update)))
  where
    Goal : Type 0
    Goal = Covers (at asked) x.update ⊎ (IsBelow rows from x ⊎ Member x (sendable rows from asked))

    by : LessTells from.obj (last_local rows (unit_of x.update.key)) → LessTells from.prop x.local → Tells (usn_of x.update) (at asked (inv_of x.update)) → Goal
    by (inr low) p c = inr (inl (inr (λ y n same. omega (arith, low.1, within_last (unit_of x.update.key) rows y n same))))
    by (inl high) (inr low) c = inr (inl (inl low.1))
    by (inl high) (inl up) (inl covered) = inl covered.1
    by (inl high) (inl up) (inr new) = inr (inr (in_filter (λ (h : Held). is_above_mark from rows h && is_unseen from asked h) rows x m (both_true high.0 (both_true up.0 (ap not new.0)))))

-- ---- the items that are sent

pub first_front : (most bytes : ℕ) (cs : List (ℕ × Item)) → (rest : List (ℕ × Item)) × (first_items most bytes cs ++ rest ≡ cs)
first_front most bytes [] = ([], refl)
first_front most bytes (c ∷ cs) = by ((most == 0) || (bytes == 0)) (first_front (most - 1) (bytes - item_length c.1) cs)
  where
    next : List (ℕ × Item)
    next = first_items (most - 1) (bytes - item_length c.1) cs

    by : (b : Bool) → ((rest : List (ℕ × Item)) × (next ++ rest ≡ cs)) → (rest : List (ℕ × Item)) × ((if b then [] else c ∷ next) ++ rest ≡ c ∷ cs)
    by true r = (c ∷ cs, refl)
    by false r = (r.0, ap (λ (xs : List (ℕ × Item)). c ∷ xs) r.1)

nothing_left : (xs rest ys : List (ℕ × Item)) → xs ++ rest ≡ ys → (length xs == length ys) ≡ true → rest ≡ []
nothing_left xs rest ys e h = empty rest (omega (arith, length-append xs rest, eqb-true (length xs) (length ys) h, ap length e))
  where
    empty : (zs : List (ℕ × Item)) → length zs ≡ 0 → zs ≡ []
    empty [] l = refl
    empty (z ∷ zs) l = absurd (omega (arith, l))

-- in a rising list, what isn't behind a member of a front is in the front
in_front : (sent rest : List (ℕ × Item)) (z : ℕ × Item) → Rises (sent ++ rest) → Member z sent → (c : ℕ × Item) → Member c (sent ++ rest) → c.0 ≤ z.0 → Member c sent
in_front [] rest z up m c i le = absurd m
in_front (y ∷ ys) rest z up m c (inl e) le = inl e
in_front (y ∷ ys) rest z up (inl e) c (inr i) le = absurd (omega (arith, up.0 c i, subst (λ (v : ℕ × Item). c.0 ≤ v.0) e le))
in_front (y ∷ ys) rest z up (inr m) c (inr i) le = inr (in_front ys rest z up.1 m c i le)

-- the mark of a cut reply is where it began, or at an item that it sends
pub read_to_item : (n : ℕ) (sent : List (ℕ × Item)) → (fold (λ (k : ℕ) (c : ℕ × Item). c.0) n sent ≡ n) ⊎ ((z : ℕ × Item) × Member z sent × (fold (λ (k : ℕ) (c : ℕ × Item). c.0) n sent ≡ z.0))
read_to_item n [] = inl refl
read_to_item n (c ∷ cs) = ⊎_elim (λ e. inr (c, inl refl, e)) (λ t. inr (t.0, inr t.1, t.2)) (read_to_item c.0 cs)

-- ---- the ground

-- what an answer is of: the rows, the mark behind which it begins, all that may be sent, and what is sent
pub record Answering : Type 0 where
  pub rows : List Held
  pub from : Mark
  pub all : List (ℕ × Item)
  pub sent : List (ℕ × Item)

abbrev pub answering : State → Request → Answering
answering s q =
    let from = begins_at s q in
    let all = candidates s.store.rows from q.vector in
    record { rows = s.store.rows; from = from; all = all; sent = first_items q.max byte_limit all }

module _ (s : State) (q : Request) (now : ℕ) (alone : AreAlone s.store.rows) where
  open (answering s q) use {rows, from, all, sent}

  abbrev Answered : Held → Reply → Type 0
  Answered x r = Covers (at q.vector) x.update ⊎ (IsSent r x.update ⊎ IsBelow rows from x)

  alone_among : (x y : Held) → Member x (sendable rows from q.vector) → Member y (sendable rows from q.vector) → last_local rows (unit_of x.update.key) ≡ last_local rows (unit_of y.update.key) → unit_of x.update.key ≡ unit_of y.update.key
  alone_among x y m n e = alone x (of_filter _ rows x m).0 y (of_filter _ rows y n).0 e

  -- a row whose candidate is one of all the candidates
  of_candidate : (x : Held) → Member x (sendable rows from q.vector) → (last : Bool) → (length sent == length all) ≡ last → IsBelow rows (reply_of s q now from sent last).to x → Answered x (reply_of s q now from sent last)
  of_candidate x m last is below = by last is below
    where
      c : ℕ × Item
      c = entry_of rows (sendable rows from q.vector) (unit_of x.update.key)

      front : (rest : List (ℕ × Item)) × (sent ++ rest ≡ all)
      front = first_front q.max byte_limit all

      there : Member c (sent ++ front.0)
      there = subst (λ (cs : List (ℕ × Item)). Member c cs) (sym front.1) (candidate_there rows (sendable rows from q.vector) alone_among x m)

      up : Rises (sent ++ front.0)
      up = subst Rises (sym front.1) (candidates_rise rows (sendable rows from q.vector))

      has_sent : (b : Bool) → Member c sent → Answered x (reply_of s q now from sent b)
      has_sent b i = inr (inl (c.1, member_mapped (λ (d : ℕ × Item). d.1) sent c i, row_in_item rows (sendable rows from q.vector) x m))

      by : (b : Bool) → (length sent == length all) ≡ b → IsBelow rows (reply_of s q now from sent b).to x → Answered x (reply_of s q now from sent b)
      by true e below = has_sent true (⊎_elim (λ i. i) (λ i. absurd (subst (λ (cs : List (ℕ × Item)). Member c cs) (nothing_left sent front.0 all front.1 e) i)) (member_of_either sent front.0 c there))
      by false e (inl p) = inr (inr (inl p))
      by false e (inr unit) = ⊎_elim
          (λ began. inr (inr (inr (λ y i same. omega (arith, unit y i same, began)))))
          (λ z. has_sent false (in_front sent front.0 z.0 up z.1 c there (omega (arith, last_within (unit_of x.update.key) rows _ unit, z.2))))
          (read_to_item from.obj sent)

  pub ground : (x : Held) → Member x rows → IsBelow rows (reply_to s q now).to x → Answered x (reply_to s q now)
  ground x m below = ⊎_elim (λ c. inl c) (λ y. ⊎_elim (λ b. inr (inr b)) (λ i. of_candidate x i (length sent == length all) refl below) y) (unseen_or_not rows from q.vector x m)

-- the same, of the log whose rows the state has
pub ground_of_log : (book : Book) (s : State) (q : Request) (now : ℕ) → s.store.rows ≡ rows_at (log_of book s.inv) s.store.usn → AreAlone s.store.rows → CoversItsGround (reply_to s q now) (log_of book s.inv)
ground_of_log book s q now same alone = subst (λ (rs : List Held). Each (λ x. IsBelow rs r.to x → Covers (at r.asked) x.update ⊎ (IsSent r x.update ⊎ IsBelow rs r.from x)) rs) logged (ground s q now alone)
  where
    r : Reply
    r = reply_to s q now

    moment : (b : Bool) → (reply_of s q now (begins_at s q) (first_items q.max byte_limit (candidates s.store.rows (begins_at s q) q.vector)) b).to.seen ≡ s.store.usn
    moment true = refl
    moment false = refl

    logged : s.store.rows ≡ rows_at (log_of book s.inv) r.to.seen
    logged = same ∙ ap (rows_at (log_of book s.inv)) (sym (moment _))
