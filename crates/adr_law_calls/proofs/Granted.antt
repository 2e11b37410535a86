-- What it means that the refusals before the items are none: the reply may be taken.
use Rattle.std.proofs.Common.{◌≡◌, ℕ, List, Bool, true, false, cond, None, refl, sym, subst, arith, not, ◌&&◌, ◌==◌}
use Rattle.std.specs.Bool.{then_some}
use Rattle.std.specs.Option.{option_map}
use Rattle.std.specs.BTreeMap.{is_at}
use Rattle.std.proofs.lemmas.Bool.{eqb-true, and_parts}
use Rattle.adr_values.specs.Order.{identifier_order}
use Rattle.adr_values.specs.Vector.{first_gap}
use Rattle.adr_values.specs.declared.mark.Mark.{Mark}
use Rattle.adr_values.proofs.Cursors.{same_from_test}
use Rattle.adr_values.proofs.Comparing.{everywhere_from_at_most}
use Rattle.adr_call.specs.declared.refusal.TakeRefusal.TheVariants.{Stale, VectorBehind, SchemaMismatch}
use Rattle.adr_model.specs.Update.{Identifier, same_identifier}
use Rattle.adr_model.specs.Member.{Each}
use Rattle.adr_model.specs.Place.{identifier}
use Rattle.adr_model.specs.Reflects.{knowledge_of, Knowledge}
use Rattle.adr_model.specs.Store.{PartnerMark, State, no_mark, mark_of}
use Rattle.adr_model.specs.Serve.{Reply}
use Rattle.adr_model.specs.Take.{same_mark, kept_mark}
use Rattle.adr_model.specs.Replica.{Book, log_of}
use Rattle.adr_model.specs.Sound.{IsSoundBook, IsSoundMark, IsSoundState, IsSoundReply}
use Rattle.adr_law_calls.proofs.Marks.{no_mark_holds}
use Rattle.adr_law_knowledge.proofs.Refusing.{is_so, no_gap}
use Rattle.adr_law_calls.proofs.Tables.{each_found}
use Rattle.adr_law_calls.proofs.Bounds.{nothing_at_0_is_split}
use Rattle.adr_law_calls.specs.OnTheWay.{IsSoundBase, IsTakeable}

-- ---- the kept mark

module _ (book : Book) (k : Knowledge) (sound_book : IsSoundBook book) where
  no_mark_is_sound : (inv : Identifier) → IsSoundMark book k inv no_mark
  no_mark_is_sound inv = record {
    ordered = record { prop = omega arith; obj = omega arith };
    seen = omega arith;
    boundary = nothing_at_0_is_split (log_of book inv) (sound_book.kept inv);
    watermark = no_mark_holds book.issued k (log_of book inv) (sound_book.kept inv);
  }

  -- a mark as far as it speaks of an incarnation
  mark_is_sound : (p : PartnerMark) → IsSoundMark book k p.inv p.mark → (inv : Identifier) → IsSoundMark book k inv (mark_of p inv)
  mark_is_sound p sound inv = by (same_identifier p.inv inv) refl
    where
      by : (b : Bool) → same_identifier p.inv inv ≡ b → IsSoundMark book k inv (cond b p.mark no_mark)
      by true is = subst (λ i. IsSoundMark book k i p.mark) (same_from_test p.inv inv is) sound
      by false is = no_mark_is_sound inv

pub kept_is_true : (book : Book) (s : State) (r : Reply) → IsSoundBook book → Each (λ (k : Identifier × PartnerMark). IsSoundMark book (knowledge_of s.store) k.1.inv k.1.mark) s.store.marks
    → IsSoundMark book (knowledge_of s.store) r.inv (kept_mark s r)
kept_is_true book s r sound_book marks = each_found (λ (p : PartnerMark). IsSoundMark book (knowledge_of s.store) r.inv (mark_of p r.inv)) (is_at (identifier_order r.source)) s.store.marks none
    (mark_is_sound book (knowledge_of s.store) sound_book none (no_mark_is_sound book (knowledge_of s.store) sound_book (identifier 0)) r.inv)
    (λ p m. mark_is_sound book (knowledge_of s.store) sound_book p.1 (marks p m) r.inv)
  where
    none : PartnerMark
    none = record { inv = identifier 0; mark = no_mark }

pub kept_is_sound : (book : Book) (s : State) (r : Reply) → IsSoundBook book → IsSoundState book s → IsSoundMark book (knowledge_of s.store) r.inv (kept_mark s r)
kept_is_sound book s r sound_book state = kept_is_true book s r sound_book state.store.marks

-- ---- refusals that are none

same_marks : (m n : Mark) → same_mark m n ≡ true → m ≡ n
same_marks m n h =
    let t = and_parts ((m.obj == n.obj) && (m.prop == n.prop)) (m.seen == n.seen) h in
    let u = and_parts (m.obj == n.obj) (m.prop == n.prop) t.0 in
    one (eqb-true m.obj n.obj u.0) (eqb-true m.prop n.prop u.1) (eqb-true m.seen n.seen t.1)
  where
    one : m.obj ≡ n.obj → m.prop ≡ n.prop → m.seen ≡ n.seen → m ≡ n
    one p q e = λ i. record { obj = p i; prop = q i; seen = e i }

-- a controller's rows and vectors may take a reply
pub base_of : (book : Book) (s : State) → IsSoundState book s → IsSoundBase book s.store
base_of book s state = record {
  known = state.store.known;
  covered = state.store.covered;
  purged_within = everywhere_from_at_most s.store.purged s.store.vector state.formed.store.purged_within;
  rising = state.formed.store.rising;
  locals = state.formed.store.locals;
  alone = state.formed.store.alone;
  rows = state.formed.store.rows;
  closed = state.store.closed;
  classes = state.store.classes;
}

pub passing : (book : Book) (s : State) (r : Reply) → IsSoundBook book → IsSoundBase book s.store
    → Each (λ (k : Identifier × PartnerMark). IsSoundMark book (knowledge_of s.store) k.1.inv k.1.mark) s.store.marks → IsSoundReply book r
    → then_some (not (same_mark r.from (kept_mark s r))) (Stale (kept_mark s r) r.from) ≡ None
    → option_map (λ (gap : List ℕ × ℕ × ℕ). VectorBehind gap.0 gap.1 gap.2) (first_gap r.asked s.store.vector) ≡ None
    → then_some (not (r.schema == s.store.schema)) (SchemaMismatch s.store.schema r.schema) ≡ None
    → IsTakeable book s r
passing book s r sound_book base marks reply stale gap schema = record {
  book = sound_book;
  base = base;
  reply = reply;
  mark = subst (IsSoundMark book (knowledge_of s.store) r.inv) (sym (same_marks r.from (kept_mark s r) (is_so (same_mark r.from (kept_mark s r)) (Stale (kept_mark s r) r.from) stale))) (kept_is_true book s r sound_book marks);
  asked = everywhere_from_at_most r.asked s.store.vector (no_gap (λ (g : List ℕ × ℕ × ℕ). VectorBehind g.0 g.1 g.2) r.asked s.store.vector gap);
  schema = eqb-true r.schema s.store.schema (is_so (r.schema == s.store.schema) (SchemaMismatch s.store.schema r.schema) schema);
}

pub takeable : (book : Book) (s : State) (r : Reply) → IsSoundBook book → IsSoundState book s → IsSoundReply book r
    → then_some (not (same_mark r.from (kept_mark s r))) (Stale (kept_mark s r) r.from) ≡ None
    → option_map (λ (gap : List ℕ × ℕ × ℕ). VectorBehind gap.0 gap.1 gap.2) (first_gap r.asked s.store.vector) ≡ None
    → then_some (not (r.schema == s.store.schema)) (SchemaMismatch s.store.schema r.schema) ≡ None
    → IsTakeable book s r
takeable book s r sound_book state reply = passing book s r sound_book (base_of book s state) state.store.marks reply
