-- The rows of an item: they are the source's, and keep to the class that their object has here.
use Rattle.std.proofs.Common.{◌≡◌, ◌⊎◌, ℕ, List, true, sym, ap, ◌∙◌, subst, IsSome}
use Rattle.adr_values.specs.declared.stamp.Oid.{Oid}
use Rattle.adr_values.specs.declared.stamp.Unit.TheVariants.{Object}
use Rattle.adr_values.specs.declared.content.Content.TheVariants.{Class}
use Rattle.adr_values.specs.Table.{class_at}
use Rattle.adr_values.specs.Numbered.{numbered}
use Rattle.adr_values.specs.Vector.{at}
use Rattle.adr_model.specs.Member.{Member, Each}
use Rattle.adr_model.specs.Update.{Update, RowOf, Holds, unit_of, class_attr}
use Rattle.adr_model.specs.Reflects.{CoversBirth, IsDeath, Supersedes, HoldsObject, IsTombstoned}
use Rattle.adr_model.specs.Store.{Held, State, updates_of}
use Rattle.adr_model.specs.Change.{Item}
use Rattle.adr_model.specs.Formed.{IsNamed}
use Rattle.adr_model.specs.Serve.{Reply}
use Rattle.adr_model.specs.Take.{is_of_attr, is_reserved_row}
use Rattle.adr_model.specs.Replica.{Book}
use Rattle.adr_model.specs.Sound.{IsExact}
use Rattle.adr_law_calls.specs.Puts.{MayPut}
use Rattle.adr_law_calls.specs.Forms.{IsWellSaid, MayChange}
use Rattle.adr_law_calls.specs.OnTheWay.{IsTakeable, source_rows, AreOnTheWay}
use Rattle.adr_law_calls.proofs.Rows.{updated, row_of_unit}
use Rattle.adr_law_calls.proofs.Standings.{of_attr}
use Rattle.adr_law_calls.proofs.Source.{well_said}
use Rattle.adr_law_calls.proofs.OnTheWay.{one_birth, source_one, source_formed, source_classes, source_issued}

module _ (book : Book) (s : State) (r : Reply) (may : IsTakeable book s r) (i : Item) (exact : IsExact (source_rows book r) r i) where
  pub in_source : Each (λ u. Member u (updates_of (source_rows book r))) i.rows
  in_source u m = let h = exact.from u m in subst (λ v. Member v (updates_of (source_rows book r))) h.2 (updated (source_rows book r) h.0 h.1)

  pub item_units : Each (λ u. unit_of u.key ≡ i.unit) i.rows
  item_units u m = (exact.from u m).3

  pub item_one : Each (λ u. Each (λ v. u.key ≡ v.key → u ≡ v) i.rows) i.rows
  item_one u m v n e = source_one book s r may u (in_source u m) v (in_source v n) e

  module _ (rows : List Held) (way : AreOnTheWay book s rows) where
    -- rows of an item that are above what is held may be put
    pub may_put : (us : List Update) → Each (λ u. Member u i.rows) us → Each (λ u. Each (λ v. v.key ≡ u.key → Supersedes u v) (updates_of rows)) us
        → Each (λ d. IsDeath d → Each (λ u. is_reserved_row u.key ≡ true) us) us
        → ((o : Oid) → i.unit ≡ Object o → HoldsObject (updates_of rows) o ⊎ (CoversBirth (at s.store.vector) o → ⊥))
        → MayPut (updates_of rows) (at s.store.vector) i.unit us
    may_put us among above bare place = record {
      of_unit = λ u m. item_units u (among u m);
      alone = λ u m v n e. item_one u (among u m) v (among v n) e;
      above = above;
      bare = bare;
      place = place;
    }

    module _ (o : Oid) (unit : i.unit ≡ Object o) where
      pub row_key : (u : Update) → Member u i.rows → (attr : ℕ) × (u.key ≡ RowOf o attr)
      row_key u m = row_of_unit u.key o (item_units u m ∙ unit)

      pub row_of_attr : (attr : ℕ) (u : Update) → Member u i.rows → is_of_attr attr u.key ≡ true → u.key ≡ RowOf o attr
      row_of_attr attr u m is = let k = row_key u m in let d = of_attr attr u.key is in k.1 ∙ ap (λ a. RowOf o a) (same_attr d.0 k.0 (sym k.1 ∙ d.1))
        where
          same_attr : (p : Oid) (a : ℕ) → RowOf o a ≡ RowOf p attr → a ≡ attr
          same_attr p a e = cc

      pub source_holds : (u : Update) → Member u i.rows → HoldsObject (updates_of (source_rows book r)) o
      source_holds u m = let k = row_key u m in (u, k.0, in_source u m, k.1)

      -- the object's class is the same here and there
      one_class : (here : IsNamed (updates_of rows) o) (there : IsNamed (updates_of (source_rows book r)) o) → here.class ≡ there.class
      one_class here there = same_class here.class there.class (sym here.of_class.3 ∙ (ap (λ (b : Update). b.said) same ∙ there.of_class.3))
        where
          same_class : (c d : ℕ) → Holds (Class c) ≡ Holds (Class d) → c ≡ d
          same_class c d e = cc

          same : here.of_class.0 ≡ there.of_class.0
          same = one_birth book may.book o here.of_class.0 there.of_class.0 (way.known here.of_class.0 here.of_class.1) (source_issued book s r may there.of_class.0 there.of_class.1) here.of_class.2 there.of_class.2

      pub same_birth : (holds : HoldsObject (updates_of rows) o) (u : Update) → Member u i.rows → u.key ≡ RowOf o class_attr → (way.formed.named o holds).of_class.0 ≡ u
      same_birth holds u m e =
          let here : IsNamed (updates_of rows) o = way.formed.named o holds in
          one_birth book may.book o here.of_class.0 u (way.known here.of_class.0 here.of_class.1) (source_issued book s r may u (in_source u m)) here.of_class.2 e

      pub said_of_held : (holds : HoldsObject (updates_of rows) o) → Each (IsWellSaid (numbered s.store.schema) (way.formed.named o holds).class o) i.rows
      said_of_held holds u m =
          let there = source_holds u m in
          subst (λ c. IsWellSaid (numbered s.store.schema) c o u) (sym (one_class (way.formed.named o holds) ((source_formed book s r may).named o there)))
          (well_said (numbered s.store.schema) (updates_of (source_rows book r)) (source_one book s r may) (source_formed book s r may) o there u (in_source u m))

      pub class_is_known : (holds : HoldsObject (updates_of rows) o) (u : Update) → Member u i.rows → IsSome (class_at (numbered s.store.schema) (way.formed.named o holds).class)
      class_is_known holds u m =
          let there : IsNamed (updates_of (source_rows book r)) o = (source_formed book s r may).named o (source_holds u m) in
          subst (λ c. IsSome (class_at (numbered s.store.schema) c)) (sym (one_class (way.formed.named o holds) there)) (source_classes book s r may there.of_class.0 there.of_class.1 there.class there.of_class.3)

      pub may_change : (holds : HoldsObject (updates_of rows) o) (us : List Update) → Each (λ u. Member u i.rows) us → (IsTombstoned (updates_of rows) o → Each (λ u. is_reserved_row u.key ≡ true) us)
          → MayChange (numbered s.store.schema) (updates_of rows) o (way.formed.named o holds).class us
      may_change holds us among dead = record { of_class = (way.formed.named o holds).of_class; said = λ u m. said_of_held holds u (among u m); dead = dead }
