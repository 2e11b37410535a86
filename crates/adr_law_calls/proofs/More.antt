-- What keeps to a schema keeps to one that allows no less.
use Rattle.std.proofs.Common.{◌≡◌, inl, inr, ℕ, List, [], Bool, true, false, ◌||◌, Option, Some, None, is_some, refl, sym, ap, ◌∙◌}
use Rattle.std.specs.Option.{option_map_or}
use Rattle.std.proofs.lemmas.Bool.{or_left, or_right}
use Rattle.adr_values.specs.declared.stamp.Oid.{Oid}
use Rattle.adr_values.specs.declared.content.Value.{Value as Datum}
use Rattle.adr_values.specs.declared.table.Kind.{Kind}
use Rattle.adr_values.specs.declared.table.Kind.TheVariants.{Reserved, Plain, Forward, Back}
use Rattle.adr_values.specs.Table.{Table, Class as ClassOf, class_at, must_of, may_of, has, is_of, kind_at, is_forward}
use Rattle.adr_values.specs.Allowed.{IsAllowed}
use Rattle.adr_values.specs.Extends.{Extends}
use Rattle.adr_model.specs.Update.{Update}
use Rattle.adr_model.specs.Formed.{KeepsSchema, IsObjectFormed, AreFormedRows}
use Rattle.adr_model.specs.Sound.{AreClassesKnown}

module _ (t u : Table) (more : Extends t u) where
  is_of_more : (class attr : ℕ) → is_of t (Some class) attr ≡ true → is_of u (Some class) attr ≡ true
  is_of_more class attr h = by (class_at t class) refl (has (must_of t class) attr) refl h
    where
      by : (o : Option ClassOf) → class_at t class ≡ o → (b : Bool) → has (must_of t class) attr ≡ b → (b || has (may_of t class) attr) ≡ true → is_of u (Some class) attr ≡ true
      by o is false e h = or_right (has (must_of u class) attr) (has (may_of u class) attr) (more.may class attr h)
      by None is true e h = let none : has [] attr ≡ true = ap (λ (p : Option ClassOf). has (option_map_or (λ (c : ClassOf). c.must) p []) attr) (sym is) ∙ e in absurd (cc)
      by (Some c) is true e h = or_left (has (must_of u class) attr) (has (may_of u class) attr) (ap (λ ns. has ns attr) (more.must class (ap is_some is)) ∙ e)

  pub allowed_more : (class attr : ℕ) (vs : List Datum) → IsAllowed t class attr vs → IsAllowed u class attr vs
  allowed_more class attr vs is = record { syntax = is.syntax; most = is.most; plain = more.kinds attr _ is.plain; of_class = is_of_more class attr is.of_class; right = is.right }

  forward_more : (attr : ℕ) → is_forward (kind_at t attr) ≡ true → is_forward (kind_at u attr) ≡ true
  forward_more attr h = by (kind_at t attr) refl h
    where
      by : (k : Option Kind) → kind_at t attr ≡ k → is_forward k ≡ true → is_forward (kind_at u attr) ≡ true
      by (Some (Forward back)) is h = ap is_forward (more.kinds attr (Forward back) is)
      by (Some Reserved) is h = absurd (cc)
      by (Some (Plain syntax most)) is h = absurd (cc)
      by (Some (Back forward)) is h = absurd (cc)
      by None is h = absurd (cc)

  keeps_more : (rows : List Update) (o : Oid) (class : ℕ) → KeepsSchema t rows o class → KeepsSchema u rows o class
  keeps_more rows o class keeps = record {
    known = more.known class keeps.known;
    allowed = λ attr above r m is. let a = keeps.allowed attr above r m is in (a.0, a.1, allowed_more class attr a.0 a.2);
    whole = λ attr must. keeps.whole attr (ap (λ ns. has ns attr) (sym (more.must class keeps.known)) ∙ must);
  }

  object_more : (rows : List Update) (o : Oid) → IsObjectFormed t rows o → IsObjectFormed u rows o
  object_more rows o (inl dead) = inl dead
  object_more rows o (inr living) = inr (living.0, λ class of_class. keeps_more rows o class (living.1 class of_class))

  pub rows_formed_more : (rows : List Update) → AreFormedRows t rows → AreFormedRows u rows
  rows_formed_more rows formed = record {
    none = formed.none;
    named = formed.named;
    births = formed.births;
    objects = λ o held. object_more rows o (formed.objects o held);
    links = λ l r m is. let f = formed.links l r m is in record { forward = forward_more l.attr f.forward; from = f.from; to = f.to };
  }

  pub classes_known_more : (rows : List Update) → AreClassesKnown t rows → AreClassesKnown u rows
  classes_known_more rows known r m class is = more.known class (known r m class is)
