-- What is known on the way: covered updates are reflected, an absent object was collected or is new, and a new one comes whole.
use Rattle.std.proofs.Common.{◌≡◌, ◌⊎◌, inl, inr, ℕ, ◌≤◌, List, sym, ap, ◌∙◌, subst, arith}
use Rattle.adr_values.specs.declared.stamp.Oid.{Oid}
use Rattle.adr_values.specs.declared.stamp.Unit.TheVariants.{Object}
use Rattle.adr_values.specs.Numbered.{numbered}
use Rattle.adr_values.specs.Vector.{at}
use Rattle.adr_model.specs.Member.{Member, Each}
use Rattle.adr_model.specs.Update.{Update, RowOf, unit_of, ends, inv_of, class_attr}
use Rattle.adr_model.specs.Reflects.{Covers, CoversBirth, AtMost, knowledge_of, HoldsObject, IsPurged, Reflects}
use Rattle.adr_model.specs.Store.{Held, State, updates_of}
use Rattle.adr_model.specs.Change.{Item}
use Rattle.adr_model.specs.Formed.{AreFormedRows}
use Rattle.adr_model.specs.Serve.{Reply}
use Rattle.adr_model.specs.Replica.{Book, log_of}
use Rattle.adr_model.specs.Sound.{IsSoundBook, IsExact, AreClassesKnown}
use Rattle.adr_law_knowledge.proofs.Knows.{grows_keeps, absent_is_purged, birth_is, covered_absent}
use Rattle.adr_law_calls.proofs.Marks.{past_below}
use Rattle.adr_law_calls.specs.OnTheWay.{IsTakeable, known_with, source_rows, AreOnTheWay}
use Rattle.adr_law_calls.proofs.Rows.{held_as}
use Rattle.adr_law_calls.proofs.Rising.{one_update}

-- both are births of the object: of one key, identifier and USN
pub one_birth : (book : Book) → IsSoundBook book → (o : Oid) (b c : Update) → Member b book.issued → Member c book.issued → b.key ≡ RowOf o class_attr → c.key ≡ RowOf o class_attr → b ≡ c
one_birth book sound_book o b c m n e f =
    let x = birth_is o b (sound_book.births b m o e) in
    let y = birth_is o c (sound_book.births c n o f) in
    sound_book.one_content b m c n (e ∙ sym f) (x.0 ∙ sym y.0) (x.1 ∙ sym y.1)

module _ (book : Book) (s : State) (r : Reply) (may : IsTakeable book s r) where
  pub source_one : Each (λ u. Each (λ v. u.key ≡ v.key → u ≡ v) (updates_of (source_rows book r))) (updates_of (source_rows book r))
  source_one = one_update (source_rows book r) may.reply.rising

  pub source_formed : AreFormedRows (numbered s.store.schema) (updates_of (source_rows book r))
  source_formed = subst (λ n. AreFormedRows (numbered n) (updates_of (source_rows book r))) may.schema may.reply.formed

  pub source_classes : AreClassesKnown (numbered s.store.schema) (updates_of (source_rows book r))
  source_classes = subst (λ n. AreClassesKnown (numbered n) (updates_of (source_rows book r))) may.schema may.reply.classes

  pub source_issued : Each (λ u. Member u book.issued) (updates_of (source_rows book r))
  source_issued u m = let h = held_as (source_rows book r) u m in subst (λ v. Member v book.issued) (sym h.2) (may.book.logged r.inv r.to.seen h.0 h.1)

  pub purged_within : AtMost (at s.store.purged) (at s.store.vector)
  purged_within i = may.base.purged_within i

  module _ (rows : List Held) (way : AreOnTheWay book s rows) where
    pub covered : Each (λ u. Covers (at s.store.vector) u → Reflects book.issued (known_with s rows) u) book.issued
    covered u m c = grows_keeps book.issued (knowledge_of s.store) (known_with s rows) way.grows u (may.base.covered u m c)

    -- a row that lies below the beginning of the reply was read
    read_before : (h : Held) → Member h (source_rows book r) → h.local ≤ r.from.prop → Reflects book.issued (known_with s rows) h.update
    read_before h m low =
        let past = past_below (log_of book r.inv) r.from r.to.seen (may.book.kept r.inv) may.mark.boundary may.mark.ordered may.reply.forward h m (inl low) in
        grows_keeps book.issued (knowledge_of s.store) (known_with s rows) way.grows h.update (may.mark.watermark h past.0 past.1)

    pub gone_is_purged : (u : Update) (o : Oid) → Member u book.issued → Member o (ends u.key) → (HoldsObject (updates_of rows) o → ⊥) → CoversBirth (at s.store.vector) o → IsPurged book.issued (known_with s rows) o
    gone_is_purged u o m e absent c = let b = may.book.born u m o e in
        covered_absent book.issued (known_with s rows) b.0 o covered b.1 b.2.0 b.2.1 c absent

    pub purged_is_covered : (o : Oid) → IsPurged book.issued (known_with s rows) o → CoversBirth (at s.store.vector) o
    purged_is_covered o g = omega (arith, g.birth, purged_within o.birth.inv)

    -- nothing of a new object was taken
    pub new_is_lacked : (o : Oid) → (HoldsObject (updates_of rows) o → ⊥) → (CoversBirth (at s.store.vector) o → ⊥) → (u : Update) (attr : ℕ) → u.key ≡ RowOf o attr → Reflects book.issued (known_with s rows) u → ⊥
    new_is_lacked o absent missed u attr e taken = missed (purged_is_covered o (absent_is_purged book.issued (known_with s rows) u o attr e taken absent))

    -- so all its rows come
    pub comes_whole : (i : Item) → IsExact (source_rows book r) r i → (o : Oid) → i.unit ≡ Object o → (HoldsObject (updates_of rows) o → ⊥) → (CoversBirth (at s.store.vector) o → ⊥)
        → (u : Update) (attr : ℕ) → Member u (updates_of (source_rows book r)) → u.key ≡ RowOf o attr → Member u i.rows
    comes_whole i exact o unit absent missed u attr m e = by (held_as (source_rows book r) u m)
      where
        lacked : Reflects book.issued (known_with s rows) u → ⊥
        lacked taken = new_is_lacked o absent missed u attr e taken

        of_item : (h : Held) → u ≡ h.update → unit_of h.update.key ≡ i.unit
        of_item h same = ap (λ (v : Update). unit_of v.key) (sym same) ∙ (ap unit_of e ∙ sym unit)

        among : (h : Held) → Member h (source_rows book r) → u ≡ h.update → Member h.update i.rows ⊎ (Covers (at r.asked) h.update ⊎ (h.local ≤ r.from.prop)) → Member u i.rows
        among h n same (inl there) = subst (λ v. Member v i.rows) (sym same) there
        among h n same (inr (inl c)) = absurd (lacked (covered u (source_issued u m) (let d : Covers (at r.asked) u = subst (λ v. Covers (at r.asked) v) (sym same) c in omega (arith, d, may.asked (inv_of u)))))
        among h n same (inr (inr low)) = absurd (lacked (subst (Reflects book.issued (known_with s rows)) (sym same) (read_before h n low)))

        by : (h : Held) × Member h (source_rows book r) × (u ≡ h.update) → Member u i.rows
        by (h, n, same) = among h n same (exact.whole h n (of_item h same))
