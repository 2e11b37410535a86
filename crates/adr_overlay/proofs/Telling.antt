-- What is told by rows over those of a base: its look-ups, its objects and its counts.
use Rattle.std.proofs.Common.{◌≡◌, ℕ, ◌+◌, ◌-◌, ◌≤◌, List, [], ◌∷◌, ◌++◌, Bool, true, false, cond, not, ◌&&◌, ◌||◌, refl, sym, ap, ◌∙◌, subst, filter, length, Option, Some, None, is_some, is_none, arith, eqb, eqb-true, nat_lt}
use Rattle.std.specs.Option.{option_or}
use Rattle.std.specs.Ordering.{is_eq, match_ordering, ordering_then, nat_cmp}
use Rattle.std.specs.declared.cmp.Ordering.{Ordering}
use Rattle.std.specs.declared.cmp.Ordering.TheVariants.{Less, Equal, Greater}
use Rattle.std.proofs.lemmas.Cmp.{eq_by_cmp_equiv}
use Rattle.std.proofs.lemmas.List.{length-append}
use Rattle.std.proofs.lemmas.List.Elements.{filter-append}
use Rattle.std.proofs.lemmas.Map.Lookups.{exact_unsigned}
use Rattle.adr_values.specs.declared.stamp.Oid.{Oid}
use Rattle.adr_values.specs.Order.{object_order}
use Rattle.adr_values.specs.contracts.stamp.OidOrd.TheImpl.Laws.{total-law as objects_total}
use Rattle.adr_model.specs.Update.{Key, RowOf, LinkOf, deleted_attr, key_order, same_key, same_object}
use Rattle.adr_model.specs.Live.{objects_of}
use Rattle.adr_model.specs.Store.{Held, row_held, holds_object, holds_dead, is_row_of, updates_of, with_row}
use Rattle.adr_model.specs.Write.{is_link_row, links_in}
use Rattle.adr_model.specs.Change.{goes_with, killed_by, put}
use Rattle.adr_model.specs.Formed.{AreRising}
use Rattle.adr_model.proofs.Keys.{exact_keys, objects_tell}
use Rattle.adr_update.specs.Sought.{is_link_from, is_link_to}
use Rattle.adr_table.proofs.Linked.{one_of_rows}
use Rattle.adr_law_knowledge.proofs.RisingHeld.{head_below, tail_rising, with_row_rises, fewer_rise, put_rises, none_rising}
use Rattle.adr_overlay.specs.Overlay.{is_stripped, is_left, laid, told, IsCounted, is_birth_row, links_lost, links_found, one}
use Rattle.adr_overlay.proofs.Rising.{none_below}
use Rattle.adr_overlay.proofs.Holding.{row_is_held}
use Rattle.adr_overlay.proofs.Looked.{held_with_row, held_without, left_at, held_put}
use Rattle.adr_overlay.proofs.Tally.{tally, is_tally, tally_same, tally_filter, tally_split, tally_append, tally_with_row, tally_apart}
use Rattle.adr_overlay.proofs.Births.{is_link_at, objects_after, links_after}

-- ---- look-ups

pub laid_rises : (over base : List Held) → AreRising base → AreRising (laid over base)
laid_rises [] base r = r
laid_rises (x ∷ xs) base r = with_row_rises (laid xs base) x (laid_rises xs base r)

pub told_rises : (over base : List Held) → AreRising base → AreRising (told over base)
told_rises over base r = laid_rises over (filter (λ h. not (is_stripped over h.update.key)) base) (fewer_rise (λ k. not (is_stripped over k)) base r)

held_laid : (over base : List Held) (k : Key) → row_held (laid over base) k ≡ option_or (row_held over k) (row_held base k)
held_laid [] base k = refl
held_laid (x ∷ xs) base k = held_with_row (laid xs base) x k ∙ ap (λ o. cond (same_key x.update.key k) (Some x) o) (held_laid xs base k) ∙ by (same_key x.update.key k)
  where
    by : (b : Bool) → cond b (Some x) (option_or (row_held xs k) (row_held base k)) ≡ option_or (cond b (Some x) (row_held xs k)) (row_held base k)
    by true = refl
    by false = refl

pub held_told : (over base : List Held) (k : Key) → row_held (told over base) k ≡ option_or (row_held over k) (cond (is_stripped over k) None (row_held base k))
held_told over base k = held_laid over (filter (λ h. not (is_stripped over h.update.key)) base) k ∙ ap (option_or (row_held over k)) (held_without (is_stripped over) base k)

-- a row over the base is told
pub held_over : (over base : List Held) (k : Key) (h : Held) → row_held over k ≡ Some h → row_held (told over base) k ≡ Some h
held_over over base k h e = held_told over base k ∙ ap (λ o. option_or o (cond (is_stripped over k) None (row_held base k))) e

-- what the rows over the base don't have is that of the base, where it isn't stripped
pub held_below : (over base : List Held) (k : Key) → row_held over k ≡ None → row_held (told over base) k ≡ cond (is_stripped over k) None (row_held base k)
held_below over base k e = held_told over base k ∙ ap (λ o. option_or o (cond (is_stripped over k) None (row_held base k))) e

-- the deaths that are told are those over the base and those of the base
dead_told : (over base : List Held) (o : Oid) → holds_dead (told over base) o ≡ holds_dead over o || holds_dead base o
dead_told over base o = ap is_some (held_told over base (RowOf o deleted_attr)) ∙ by (row_held over (RowOf o deleted_attr))
  where
    by : (r : Option Held) → is_some (option_or r (cond (is_some r && nat_lt deleted_attr deleted_attr) None (row_held base (RowOf o deleted_attr)))) ≡ is_some r || holds_dead base o
    by None = refl
    by (Some h) = refl

pub dead_over : (over base rows : List Held) → told over base ≡ rows → (o : Oid) → holds_dead over o ≡ true → holds_dead rows o ≡ true
dead_over over base rows is o dead = ap (λ hs. holds_dead hs o) (sym is) ∙ dead_told over base o ∙ ap (λ b. b || holds_dead base o) dead

pub dead_below : (over base rows : List Held) → told over base ≡ rows → (o : Oid) → holds_dead over o ≡ false → holds_dead rows o ≡ holds_dead base o
dead_below over base rows is o not_dead = ap (λ hs. holds_dead hs o) (sym is) ∙ dead_told over base o ∙ ap (λ b. b || holds_dead base o) not_dead

pub none_below_stripped : (b : Bool) (base : List Held) (k : Key) → row_held base k ≡ None → None ≡ cond b None (row_held base k)
none_below_stripped true base k e = refl
none_below_stripped false base k e = sym e

-- ---- what a death strips

-- the object dies
abbrev kills : Option Oid → Oid → Bool
kills None o = false
kills (Some d) o = same_object o d

abbrev goes : Option Oid → Key → Bool
goes None k = false
goes (Some d) k = goes_with d k

kills_at : (k : Key) (p : Oid) → same_key k (RowOf p deleted_attr) ≡ kills (killed_by k) p
kills_at (LinkOf l) p = refl
kills_at (RowOf o attr) p = by (eqb attr deleted_attr) refl
  where
    alone : (r : Ordering) → is_eq (ordering_then r Equal) ≡ is_eq r
    alone Less = refl
    alone Equal = refl
    alone Greater = refl

    differs : (r s : Ordering) → (s ≡ Equal → ⊥) → is_eq (ordering_then r s) ≡ false
    differs Less s other = refl
    differs Greater s other = refl
    differs Equal Less other = refl
    differs Equal Equal other = absurd (other refl)
    differs Equal Greater other = refl

    by : (b : Bool) → eqb attr deleted_attr ≡ b → is_eq (ordering_then (object_order o p) (nat_cmp attr deleted_attr)) ≡ kills (cond b (Some o) None) p
    by true e =
        ap (λ a. is_eq (ordering_then (object_order o p) (nat_cmp a deleted_attr))) (eqb-true attr deleted_attr e)
        ∙ alone (object_order o p) ∙ (eq_by_cmp_equiv objects_total).symm o p
    by false e = differs (object_order o p) (nat_cmp attr deleted_attr) (λ f. let same = exact_unsigned attr deleted_attr f in let no : false ≡ true = sym e ∙ ap (λ a. eqb a deleted_attr) same in cc)

dead_after : (rows : List Held) (h : Held) (p : Oid) → holds_dead (put rows h) p ≡ kills (killed_by h.update.key) p || holds_dead rows p
dead_after rows h p = ap is_some (held_put rows h (RowOf p deleted_attr)) ∙ stays (killed_by h.update.key) ∙ found (same_key h.update.key (RowOf p deleted_attr)) ∙ ap (λ b. b || holds_dead rows p) (kills_at h.update.key p)
  where
    same : Option Held
    same = cond (same_key h.update.key (RowOf p deleted_attr)) (Some h) (row_held rows (RowOf p deleted_attr))

    none : (t : Bool) → is_some (cond (cond t false false) None same) ≡ is_some same
    none true = refl
    none false = refl

    stays : (o : Option Oid) → is_some (left_at o (RowOf p deleted_attr) same) ≡ is_some same
    stays None = refl
    stays (Some d) = none (same_object p d)

    found : (b : Bool) → is_some (cond b (Some h) (row_held rows (RowOf p deleted_attr))) ≡ b || holds_dead rows p
    found true = refl
    found false = refl

stripped_after : (rows : List Held) (h : Held) (k : Key) → is_stripped (put rows h) k ≡ goes (killed_by h.update.key) k || is_stripped rows k
stripped_after rows h (RowOf p attr) = ap (λ b. b && nat_lt deleted_attr attr) (dead_after rows h p) ∙ by (killed_by h.update.key)
  where
    turn : (b c d : Bool) → (b || c) && d ≡ cond b d false || (c && d)
    turn true true true = refl
    turn true true false = refl
    turn true false true = refl
    turn true false false = refl
    turn false c d = refl

    by : (o : Option Oid) → (kills o p || holds_dead rows p) && nat_lt deleted_attr attr ≡ goes o (RowOf p attr) || (holds_dead rows p && nat_lt deleted_attr attr)
    by None = refl
    by (Some d) = turn (same_object p d) (holds_dead rows p) (nat_lt deleted_attr attr)
stripped_after rows h (LinkOf l) = ap (λ b. b || holds_dead (put rows h) l.to) (dead_after rows h l.from) ∙ ap (λ b. (kills (killed_by h.update.key) l.from || holds_dead rows l.from) || b) (dead_after rows h l.to) ∙ by (killed_by h.update.key)
  where
    turn : (a b c d : Bool) → (a || b) || (c || d) ≡ (a || c) || (b || d)
    turn true b c d = refl
    turn false true true d = refl
    turn false true false d = refl
    turn false false c d = refl

    by : (o : Option Oid) → (kills o l.from || holds_dead rows l.from) || (kills o l.to || holds_dead rows l.to) ≡ goes o (LinkOf l) || (holds_dead rows l.from || holds_dead rows l.to)
    by None = refl
    by (Some d) = turn (same_object l.from d) (holds_dead rows l.from) (same_object l.to d) (holds_dead rows l.to)

-- ---- a row that is put

-- to put a row over the base is to put it into what is told
pub told_after : (over base : List Held) (h : Held) → AreRising over → AreRising base → told (put over h) base ≡ put (told over base) h
told_after over base h s r = one_of_rows (told (put over h) base) (put (told over base) h) (told_rises (put over h) base r) (put_rises (told over base) h (told_rises over base r)) looked
  where
    looked : (k : Key) → row_held (told (put over h) base) k ≡ row_held (put (told over base) h) k
    looked k =
        held_told (put over h) base k
        ∙ ap (λ o. option_or o (cond (is_stripped (put over h) k) None (row_held base k))) (held_put over h k)
        ∙ ap (λ b. option_or (left_at (killed_by h.update.key) k (cond (same_key h.update.key k) (Some h) (row_held over k))) (cond b None (row_held base k))) (stripped_after over h k)
        ∙ by (killed_by h.update.key) (same_key h.update.key k)
        ∙ ap (λ o. left_at (killed_by h.update.key) k (cond (same_key h.update.key k) (Some h) o)) (sym (held_told over base k))
        ∙ sym (held_put (told over base) h k)
      where
        G : Bool
        G = is_stripped over k

        plain : (b : Bool) → option_or (cond b (Some h) (row_held over k)) (cond G None (row_held base k)) ≡ cond b (Some h) (option_or (row_held over k) (cond G None (row_held base k)))
        plain true = refl
        plain false = refl

        dead : (g b : Bool) → option_or (cond g None (cond b (Some h) (row_held over k))) (cond (g || G) None (row_held base k)) ≡ cond g None (cond b (Some h) (option_or (row_held over k) (cond G None (row_held base k))))
        dead true b = refl
        dead false b = plain b

        by : (o : Option Oid) (b : Bool) → option_or (left_at o k (cond b (Some h) (row_held over k))) (cond (goes o k || G) None (row_held base k)) ≡ left_at o k (cond b (Some h) (option_or (row_held over k) (cond G None (row_held base k))))
        by None b = plain b
        by (Some d) b = dead (goes_with d k) b

none_stripped : (base : List Held) → filter (λ h. not (is_stripped [] h.update.key)) base ≡ base
none_stripped [] = refl
none_stripped (x ∷ xs) = ap (λ b. cond (not b) (x ∷ filter (λ h. not (is_stripped [] h.update.key)) xs) (filter (λ h. not (is_stripped [] h.update.key)) xs)) (by x.update.key) ∙ ap (λ ys. x ∷ ys) (none_stripped xs)
  where
    by : (k : Key) → is_stripped [] k ≡ false
    by (RowOf o attr) = refl
    by (LinkOf l) = refl

-- with nothing over it the base is told
pub told_none : (base : List Held) → told [] base ≡ base
told_none base = none_stripped base

pub begun : (base : List Held) (objects links : ℕ) → AreRising base → objects ≡ length (objects_of (updates_of base)) → links ≡ links_in base → IsCounted [] base objects links
begun base objects links r a b = record {
  over_rises = none_rising;
  base_rises = r;
  objects = a ∙ ap (λ rows. length (objects_of (updates_of rows))) (sym (told_none base));
  links = b ∙ ap links_in (sym (told_none base));
}

-- ---- objects that are held

holds_with_row : (rows : List Held) (h : Held) (o : Oid) → holds_object (with_row rows h) o ≡ is_row_of o h.update.key || holds_object rows o
holds_with_row [] h o = refl
holds_with_row (x ∷ xs) h o = by (key_order h.update.key x.update.key) refl (holds_with_row xs h o)
  where
    twice : (a b : Bool) → a || b ≡ a || (a || b)
    twice true b = refl
    twice false b = refl

    swapped : (a b c : Bool) → a || (b || c) ≡ b || (a || c)
    swapped true true c = refl
    swapped true false c = refl
    swapped false b c = refl

    by : (r : Ordering) → key_order h.update.key x.update.key ≡ r → holds_object (with_row xs h) o ≡ is_row_of o h.update.key || holds_object xs o
        → holds_object (match_ordering r (h ∷ x ∷ xs) (h ∷ xs) (x ∷ with_row xs h)) o ≡ is_row_of o h.update.key || (is_row_of o x.update.key || holds_object xs o)
    by Less is later = refl
    by Equal is later = twice (is_row_of o h.update.key) (holds_object xs o) ∙ ap (λ k. is_row_of o h.update.key || (is_row_of o k || holds_object xs o)) (exact_keys h.update.key x.update.key is)
    by Greater is later = ap (λ b. is_row_of o x.update.key || b) later ∙ swapped (is_row_of o x.update.key) (is_row_of o h.update.key) (holds_object xs o)

holds_laid : (over base : List Held) (o : Oid) → holds_object (laid over base) o ≡ holds_object over o || holds_object base o
holds_laid [] base o = refl
holds_laid (x ∷ xs) base o = holds_with_row (laid xs base) x o ∙ ap (λ b. is_row_of o x.update.key || b) (holds_laid xs base o) ∙ by (is_row_of o x.update.key)
  where
    by : (b : Bool) → b || (holds_object xs o || holds_object base o) ≡ (b || holds_object xs o) || holds_object base o
    by true = refl
    by false = refl

-- of an object that isn't dead nothing was stripped
holds_left : (over base : List Held) (o : Oid) → holds_dead over o ≡ false → holds_object (filter (λ h. not (is_stripped over h.update.key)) base) o ≡ holds_object base o
holds_left over [] o alive = refl
holds_left over (x ∷ xs) o alive = by x.update.key (holds_left over xs o alive)
  where
    rest : List Held
    rest = filter (λ h. not (is_stripped over h.update.key)) xs

    stays : (k : Key) → is_row_of o k ≡ true → is_stripped over k ≡ false
    stays (RowOf p attr) e = ap (λ q. holds_dead over q && nat_lt deleted_attr attr) (objects_tell p o e) ∙ ap (λ b. b && nat_lt deleted_attr attr) alive
    stays (LinkOf l) e = cc

    by : (k : Key) → holds_object rest o ≡ holds_object xs o → holds_object (cond (not (is_stripped over x.update.key)) (x ∷ rest) rest) o ≡ is_row_of o x.update.key || holds_object xs o
    by k later = turn (is_row_of o x.update.key) (is_stripped over x.update.key) refl refl
      where
        turn : (b c : Bool) → is_row_of o x.update.key ≡ b → is_stripped over x.update.key ≡ c → holds_object (cond (not c) (x ∷ rest) rest) o ≡ b || holds_object xs o
        turn true true e f = let no : true ≡ false = sym f ∙ stays x.update.key e in cc
        turn true false e f = ap (λ b. b || holds_object rest o) e
        turn false true e f = later
        turn false false e f = ap (λ b. b || holds_object rest o) e ∙ later

pub holds_told : (over base : List Held) (o : Oid) → holds_object (told over base) o ≡ holds_object over o || holds_object base o
holds_told over base o = holds_laid over (filter (λ h. not (is_stripped over h.update.key)) base) o ∙ by (holds_dead over o) refl
  where
    by : (b : Bool) → holds_dead over o ≡ b → holds_object over o || holds_object (filter (λ h. not (is_stripped over h.update.key)) base) o ≡ holds_object over o || holds_object base o
    by true e = ap (λ b. b || holds_object (filter (λ h. not (is_stripped over h.update.key)) base) o) (row_is_held over o deleted_attr e) ∙ sym (ap (λ b. b || holds_object base o) (row_is_held over o deleted_attr e))
    by false e = ap (λ b. holds_object over o || b) (holds_left over base o e)

-- ---- counts

-- the rows that are over the base, and of the base those that are left
tally_laid : (p : Key → Bool) (over base : List Held) → AreRising over → AreRising base → tally p (laid over base) ≡ tally p over + tally (λ k. p k && is_none (row_held over k)) base
tally_laid p [] base s r = omega (arith, tally_same p (λ k. p k && true) base (λ k. by (p k)))
  where
    by : (b : Bool) → b ≡ b && true
    by true = refl
    by false = refl
tally_laid p (x ∷ xs) base s r = omega (
  arith,
  tally_with_row p (laid xs base) x (laid_rises xs base r),
  tally_laid p xs base (tail_rising x xs s) r,
  tally_apart (λ k. p k && is_none (row_held xs k)) x.update.key base r,
  tally_same (λ k. p k && is_none (row_held (x ∷ xs) k)) (λ k. (p k && is_none (row_held xs k)) && not (same_key x.update.key k)) base (λ k. onto (p k) (same_key x.update.key k) (row_held xs k)),
  new,
  old,
  both (p x.update.key) (row_held base x.update.key),
)
  where
    none : row_held xs x.update.key ≡ None
    none = none_below x.update.key xs (head_below x xs s)

    onto : (a b : Bool) (o : Option Held) → a && is_none (cond b (Some x) o) ≡ (a && is_none o) && not b
    onto true true None = refl
    onto true true (Some y) = refl
    onto true false None = refl
    onto true false (Some y) = refl
    onto false b o = refl

    new : one (p x.update.key && is_none (row_held (laid xs base) x.update.key)) ≡ one (p x.update.key && is_none (row_held base x.update.key))
    new = ap (λ o. one (p x.update.key && is_none o)) (held_laid xs base x.update.key ∙ ap (λ o. option_or o (row_held base x.update.key)) none)

    old : one ((p x.update.key && is_none (row_held xs x.update.key)) && is_some (row_held base x.update.key)) ≡ one ((p x.update.key && true) && is_some (row_held base x.update.key))
    old = ap (λ o. one ((p x.update.key && is_none o) && is_some (row_held base x.update.key))) none

    both : (b : Bool) (o : Option Held) → one (b && is_none o) + one ((b && true) && is_some o) ≡ one b
    both true None = refl
    both true (Some y) = refl
    both false o = refl

pub tally_told : (p : Key → Bool) (over base : List Held) → AreRising over → AreRising base → tally p (told over base) ≡ tally p over + tally (λ k. p k && is_left over k) base
tally_told p over base s r = omega (
  arith,
  tally_laid p over (filter (λ h. not (is_stripped over h.update.key)) base) s (fewer_rise (λ k. not (is_stripped over k)) base r),
  tally_filter (λ k. p k && is_none (row_held over k)) (λ k. not (is_stripped over k)) base,
  tally_same (λ k. (p k && is_none (row_held over k)) && not (is_stripped over k)) (λ k. p k && is_left over k) base (λ k. by (p k) (is_none (row_held over k)) (not (is_stripped over k))),
)
  where
    by : (a b c : Bool) → (a && b) && c ≡ a && (c && b)
    by true true true = refl
    by true true false = refl
    by true false true = refl
    by true false false = refl
    by false b c = refl

-- the links from an object and the others to it are those at it
tally_found : (p : Key → Bool) (o : Oid) (rows : List Held) → tally p (links_found o rows) ≡ tally (λ k. p k && is_link_at o k) rows
tally_found p o rows = omega (
  arith,
  tally_append p (filter (λ h. is_link_from o h.update.key) rows) (filter (λ h. not (is_link_from o h.update.key)) (filter (λ h. is_link_to o h.update.key) rows)),
  tally_filter p (is_link_from o) rows,
  tally_filter p (λ k. not (is_link_from o k)) (filter (λ h. is_link_to o h.update.key) rows),
  tally_filter (λ k. p k && not (is_link_from o k)) (is_link_to o) rows,
  added rows,
)
  where
    turn : (a b c : Bool) → one (a && (b || c)) ≡ one (a && b) + one ((a && not b) && c)
    turn true true c = refl
    turn true false true = refl
    turn true false false = refl
    turn false b c = refl

    zero_of : (a : Bool) → one (a && false) ≡ one (a && false) + one ((a && true) && false)
    zero_of true = refl
    zero_of false = refl

    by : (k : Key) → one (p k && is_link_at o k) ≡ one (p k && is_link_from o k) + one ((p k && not (is_link_from o k)) && is_link_to o k)
    by (RowOf q attr) = zero_of (p (RowOf q attr))
    by (LinkOf l) = turn (p (LinkOf l)) (same_object l.from o) (same_object l.to o)

    added : (xs : List Held) → tally (λ k. p k && is_link_at o k) xs ≡ tally (λ k. p k && is_link_from o k) xs + tally (λ k. (p k && not (is_link_from o k)) && is_link_to o k) xs
    added [] = omega arith
    added (x ∷ xs) = omega (arith, by x.update.key, added xs)

-- the links at an object: those over the base, and those of the base that are left
pub lost : (o : Oid) (over base : List Held) → AreRising over → AreRising base
    → length (filter (λ h. is_left over h.update.key) (links_found o base)) + length (links_found o over) ≡ links_lost (Some o) (told over base)
lost o over base s r = omega (
  arith,
  is_tally (is_link_at o) (told over base),
  tally_told (is_link_at o) over base s r,
  is_tally (is_left over) (links_found o base),
  tally_found (is_left over) o base,
  tally_same (λ k. is_left over k && is_link_at o k) (λ k. is_link_at o k && is_left over k) base (λ k. turn (is_left over k) (is_link_at o k)),
  all_of (links_found o over),
  tally_found (λ k. true) o over,
)
  where
    turn : (a b : Bool) → a && b ≡ b && a
    turn true true = refl
    turn true false = refl
    turn false true = refl
    turn false false = refl

    all_of : (rows : List Held) → length rows ≡ tally (λ k. true) rows
    all_of [] = refl
    all_of (x ∷ xs) = omega (arith, all_of xs)

-- what passes of two lists
pub passing : (p : Held → Bool) (xs ys : List Held) → length (filter p xs) + length (filter p ys) ≡ length (filter p (xs ++ ys))
passing p xs ys = sym (ap length (filter-append p xs ys) ∙ length-append (filter p xs) (filter p ys))

-- of the links at an object that died over the base none is left
pub none_left : (o : Oid) (over base : List Held) → holds_dead over o ≡ true → length (filter (λ h. is_left over h.update.key) (links_found o base)) ≡ 0
none_left o over base dead = omega (
  arith,
  is_tally (is_left over) (links_found o base),
  tally_found (is_left over) o base,
  tally_same (λ k. is_left over k && is_link_at o k) (λ k. false) base by,
  nothing base,
)
  where
    nothing : (rows : List Held) → tally (λ k. false) rows ≡ tally (λ k. false) []
    nothing [] = refl
    nothing (x ∷ xs) = omega (arith, nothing xs)

    neither : (a : Bool) → a && false ≡ false
    neither true = refl
    neither false = refl

    either_way : (a : Bool) → a || true ≡ true
    either_way true = refl
    either_way false = refl

    same_dead : (p : Oid) → same_object p o ≡ true → holds_dead over p ≡ true
    same_dead p e = ap (holds_dead over) (objects_tell p o e) ∙ dead

    gone : (k : Key) (t : Bool) → is_stripped over k ≡ t → t ≡ true → is_left over k ≡ false
    gone k t e f = ap (λ b. not b && is_none (row_held over k)) (e ∙ f)

    by : (k : Key) → is_left over k && is_link_at o k ≡ false
    by (RowOf p attr) = neither (is_left over (RowOf p attr))
    by (LinkOf l) = turn (same_object l.from o) (same_object l.to o) refl refl
      where
        turn : (a b : Bool) → same_object l.from o ≡ a → same_object l.to o ≡ b → is_left over (LinkOf l) && (same_object l.from o || same_object l.to o) ≡ false
        turn true b e f = ap (λ t. t && (same_object l.from o || same_object l.to o)) (gone (LinkOf l) true (ap (λ t. t || holds_dead over l.to) (same_dead l.from e)) refl)
        turn false true e f = ap (λ t. t && (same_object l.from o || same_object l.to o)) (gone (LinkOf l) true (ap (λ t. holds_dead over l.from || t) (same_dead l.to f) ∙ either_way (holds_dead over l.from)) refl)
        turn false false e f = ap (λ t. is_left over (LinkOf l) && (t || same_object l.to o)) e ∙ ap (λ t. is_left over (LinkOf l) && t) f ∙ neither (is_left over (LinkOf l))

-- no more links go with an object than there are
pub lost_few : (rows : List Held) (o : Option Oid) → links_lost o rows ≤ links_in rows
lost_few rows None = omega arith
lost_few rows (Some d) = omega (arith, is_tally is_link_row rows, is_tally (is_link_at d) rows, tally_split is_link_row (goes_with d) rows)

-- the counts after a row was put, from those before it
module _ (rows : List Held) (h : Held) (k : Key) (rise : AreRising rows) (of : h.update.key ≡ k) where
  pub objects_put : (objects : ℕ) → objects ≡ length (objects_of (updates_of rows)) + one (is_birth_row k && is_none (row_held rows k)) → objects ≡ length (objects_of (updates_of (put rows h)))
  objects_put objects is =
      is ∙ ap (λ j. length (objects_of (updates_of rows)) + one (is_birth_row j && is_none (row_held rows j))) (sym of) ∙ sym (objects_after rows h rise)

  pub links_put : (links gone : ℕ) → links ≡ links_in rows + one (is_link_row k && is_none (row_held rows k)) → gone ≡ links_lost (killed_by k) rows → links - gone ≡ links_in (put rows h)
  links_put links gone is went = omega (
    arith,
    links_after rows h rise,
    is ∙ ap (λ j. links_in rows + one (is_link_row j && is_none (row_held rows j))) (sym of),
    went ∙ ap (λ j. links_lost (killed_by j) rows) (sym of),
  )

-- a row that is put over the base, with the counts of what is told then
module _ (over base rows new : List Held) (h : Held) (is : told over base ≡ rows) (s : AreRising over) (r : AreRising base) (put_there : new ≡ put over h) where
  pub told_call : told new base ≡ put rows h
  told_call = ap (λ os. told os base) put_there ∙ told_after over base h s r ∙ ap (λ os. put os h) is

  pub counted_call : (objects links : ℕ) → objects ≡ length (objects_of (updates_of (put rows h))) → links ≡ links_in (put rows h) → IsCounted new base objects links
  counted_call objects links a b = record {
    over_rises = subst AreRising (sym put_there) (put_rises over h s);
    base_rises = r;
    objects = a ∙ ap (λ os. length (objects_of (updates_of os))) (sym told_call);
    links = b ∙ ap links_in (sym told_call);
  }
