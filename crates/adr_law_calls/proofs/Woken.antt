-- A controller that is made of an image under a fresh identifier.
use Rattle.std.proofs.Common.{◌≡◌, inl, inr, ⊎_elim, ℕ, ◌≤◌, List, [], ◌∷◌, Bool, true, false, cond, Option, None, Ok, refl, sym, ◌∙◌, subst, ap, arith, max, length, ◌||◌, nat_le, if◌then◌else◌}
use Rattle.std.specs.Prelude.{nat_lt}
use Rattle.std.specs.List.{list_any}
use Rattle.std.specs.Bool.{then_some}
use Rattle.std.specs.Ordering.{is_eq}
use Rattle.std.proofs.lemmas.Bool.{or_parts, ltb-false, le-leb}
use Rattle.adr_values.specs.Order.{identifier_order}
use Rattle.adr_values.specs.declared.stamp.Oid.{Oid}
use Rattle.adr_values.proofs.ExactCalls.{not_then}
use Rattle.adr_values.specs.Vector.{at, raised, cursor_limit}
use Rattle.adr_values.proofs.Cursors.{same_from_test}
use Rattle.adr_values.proofs.Moments.{times_stay}
use Rattle.adr_values.proofs.Comparing.{everywhere_from_at_most, at_most_from_everywhere}
use Rattle.adr_values.proofs.Joining.{at-raised, raised_here}
use Rattle.adr_call.specs.declared.refusal.AdoptRefusal.{AdoptRefusal}
use Rattle.adr_call.specs.declared.refusal.AdoptRefusal.TheVariants.{IdentifierUsed, Full}
use Rattle.adr_call.specs.declared.refusal.Table.TheVariants.{Cursors as CursorTable}
use Rattle.adr_model.specs.Member.{Member, Each}
use Rattle.adr_model.specs.Update.{Identifier, Update, inv_of, ends, same_identifier}
use Rattle.adr_model.specs.Reflects.{Numbers, AtMost, Covers, Reflects, knowledge_of}
use Rattle.adr_model.specs.Store.{Held, PartnerMark, Store, State, updates_of}
use Rattle.adr_model.specs.LocalLog.{LocalLog, no_log, last_usn, rows_at}
use Rattle.adr_model.specs.Formed.{IsFormedStore, IsClosed}
use Rattle.adr_model.specs.Collect.{names_inv, woken, adopt_refusal, adopt}
use Rattle.adr_model.specs.Replica.{Book, log_of, begun}
use Rattle.adr_model.specs.Sound.{last_of, IsBounded, IsSoundMark, IsSoundBook, IsSoundStore, IsSoundState}
use Rattle.adr_model.specs.LocalLog.{first_log}
use Rattle.adr_law_calls.specs.Later.{IsLater}
use Rattle.adr_model.proofs.Members.{each_fails}
use Rattle.adr_law_knowledge.specs.Grows.{Keeps}
use Rattle.adr_law_knowledge.proofs.Knows.{grows_keeps, more_covered}
use Rattle.adr_law_knowledge.proofs.Refusing.{none_there, answered}
use Rattle.adr_law_knowledge.proofs.Raised.{raised_up, raised_is_vector}
use Rattle.adr_law_calls.proofs.Rows.{updated, held_as}
use Rattle.adr_law_calls.proofs.Beginning.{begun_later, begun_sound}
use Rattle.adr_law_calls.proofs.Frames.{mark_later}
use Rattle.adr_law_calls.proofs.Tables.{entry_itself}

abbrev is_of : Identifier → Oid → Bool
is_of inv o = same_identifier o.birth.inv inv

abbrev row_names : Identifier → Held → Bool
row_names inv h = same_identifier (inv_of h.update) inv || list_any (is_of inv) (ends h.update.key)

third : (a b c d : Bool) → (a || b || c || d) ≡ false → c ≡ false
third a b c d h = (or_parts (a || b) c (or_parts (a || b || c) d h).0).1

rows_none : (image : Store) (inv : Identifier) → names_inv image inv ≡ false → list_any (row_names inv) image.rows ≡ false
rows_none image inv none =
    third (list_any (λ (c : Identifier × ℕ). same_identifier c.0 inv) image.vector) (list_any (λ (c : Identifier × ℕ). same_identifier c.0 inv) image.purged)
    (list_any (row_names inv) image.rows) (list_any (λ (k : Identifier × PartnerMark). same_identifier k.1.inv inv) image.marks) none

-- no end of a row was born under an identifier that the image doesn't name
unborn : (image : Store) (inv : Identifier) → names_inv image inv ≡ false → (u : Update) → Member u (updates_of image.rows) → (o : Oid) → Member o (ends u.key) → same_identifier o.birth.inv inv ≡ false
unborn image inv none u m o n = each_fails (is_of inv) (ends u.key) ends_none o n
  where
    t : (h : Held) × Member h image.rows × (u ≡ h.update)
    t = held_as image.rows u m

    row_none : (same_identifier (inv_of t.0.update) inv || list_any (is_of inv) (ends t.0.update.key)) ≡ false
    row_none = each_fails (row_names inv) image.rows (rows_none image inv none) t.0 t.1

    ends_none : list_any (is_of inv) (ends u.key) ≡ false
    ends_none = subst (λ (v : Update). list_any (is_of inv) (ends v.key) ≡ false) (sym t.2) (or_parts (same_identifier (inv_of t.0.update) inv) (list_any (is_of inv) (ends t.0.update.key)) row_none).1

module _ (book : Book) (image : Store) (dsa inv : Identifier) (sound_book : IsSoundBook book) (sound : IsSoundStore book image) (fresh : log_of book inv ≡ no_log)
    (unnamed : names_inv image inv ≡ false) (few : length (raised image.vector inv image.usn) ≤ cursor_limit) where
  abbrev d : State
  d = woken image dsa inv

  abbrev next : Book
  next = begun book d

  abbrev V : Numbers
  V = at image.vector

  abbrev W : Numbers
  W = at d.store.vector

  later : IsLater book next
  later = begun_later book d fresh sound.formed.locals

  unused : last_of book inv ≡ 0
  unused = ap last_usn fresh

  log : log_of next inv ≡ first_log image.usn image.rows
  log = entry_itself book.logs no_log inv (first_log image.usn image.rows)

  last : last_of next inv ≡ image.usn
  last = ap last_usn log

  up : AtMost V W
  up = raised_up image.vector inv image.usn

  kept : Keeps book.issued (knowledge_of image) (knowledge_of d.store)
  kept = grows_keeps book.issued (knowledge_of image) (knowledge_of d.store) (more_covered book.issued (updates_of image.rows) V W (at image.purged) (at image.purged) up (λ i. omega arith))

  -- at another identifier nothing was raised
  W_is : (i : Identifier) → W i ≡ max (V i) (cond (is_eq (identifier_order i inv)) image.usn 0)
  W_is i = at-raised image.vector inv image.usn i

  elsewhere : (i : Identifier) → is_eq (identifier_order i inv) ≡ false → W i ≡ V i
  elsewhere i is = W_is i ∙ ap (λ b. max (V i) (cond b image.usn 0)) is ∙ omega arith

  bounded : IsBounded next W
  bounded i = by (is_eq (identifier_order i inv)) refl
    where
      by : (b : Bool) → is_eq (identifier_order i inv) ≡ b → W i ≤ last_of next i
      by true is = let e : W i ≡ max (V i) image.usn = W_is i ∙ ap (λ b. max (V i) (cond b image.usn 0)) is in
          omega (arith, e, sound.bounded i, later.rising i, last, ap (last_of next) (same_from_test i inv is))
      by false is = omega (arith, elsewhere i is, sound.bounded i, later.rising i)

  covered : Each (λ u. Covers W u → Reflects next.issued (knowledge_of d.store) u) next.issued
  covered u m c = by (is_eq (identifier_order (inv_of u) inv)) refl
    where
      by : (b : Bool) → is_eq (identifier_order (inv_of u) inv) ≡ b → Reflects next.issued (knowledge_of d.store) u
      by true is = absurd (omega (arith, (sound_book.once u m).0, (sound_book.once u m).1, unused, ap (last_of book) (same_from_test (inv_of u) inv is)))
      by false is = kept u (sound.covered u m (omega (arith, c, elsewhere (inv_of u) is)))

  closed : IsClosed d.store
  closed l r m e o n = ⊎_elim (λ held. inl held) (λ not_born. inr (λ born. not_born (omega (arith, born, elsewhere o.birth.inv (unborn image inv unnamed r m o (subst (λ k. Member o (ends k)) (sym e) n)))))) (sound.closed l r m e o n)

  formed : IsFormedStore d.store
  formed = record {
    vector = raised_is_vector image.vector inv image.usn sound.formed.vector few;
    times = times_stay image.vector d.store.vector image.times up sound.formed.times;
    purged = sound.formed.purged;
    purged_within = at_most_from_everywhere image.purged d.store.vector sound.formed.purged.rising (λ i. omega (arith, everywhere_from_at_most image.purged image.vector sound.formed.purged_within i, up i));
    marks = sound.formed.marks;
    rising = sound.formed.rising;
    locals = sound.formed.locals;
    alone = sound.formed.alone;
    rows = sound.formed.rows;
    limits = record { objects = sound.formed.limits.objects; links = sound.formed.limits.links; marks = sound.formed.limits.marks };
  }

  raised_mark : (i : Identifier) (k : PartnerMark) → IsSoundMark book (knowledge_of image) k.inv k.mark → IsSoundMark next (knowledge_of d.store) k.inv k.mark
  raised_mark i k is = mark_later book next later (knowledge_of d.store) k.inv k.mark (record {
    ordered = is.ordered;
    seen = is.seen;
    boundary = is.boundary;
    watermark = λ x m below. kept x.update (is.watermark x m below);
  })

  woken_store : IsSoundStore next d.store
  woken_store = record {
    known = sound.known;
    bounded = bounded;
    covered = covered;
    formed = formed;
    closed = closed;
    classes = sound.classes;
    marks = λ k m. raised_mark k.0 k.1 (sound.marks k m);
  }

  pub woken_state : IsSoundState next d
  woken_state = record {
    store = woken_store;
    formed = record { store = formed; own = omega (arith, raised_here image.vector inv image.usn, sound.bounded inv, unused) };
    last = sym last;
    rows = sym (ap (λ (h : LocalLog). rows_at h image.usn) log ∙ by (nat_le image.usn image.usn) (le-leb image.usn image.usn (omega arith)));
  }
    where
      by : (b : Bool) → b ≡ true → (if b then image.rows else []) ≡ image.rows
      by true is = refl
      by false is = absurd (cc)

pub adopted_is_woken : (image : Store) (dsa inv : Identifier) (s : State) → adopt image dsa inv ≡ Ok s → woken image dsa inv ≡ s
adopted_is_woken image dsa inv s e = (answered (adopt_refusal image inv (woken image dsa inv)) (woken image dsa inv) s e).1

pub adopted_is_sound : (book : Book) (image : Store) (dsa inv : Identifier) (s : State) → IsSoundBook book → IsSoundStore book image → log_of book inv ≡ no_log → adopt image dsa inv ≡ Ok s
    → IsLater book (begun book s) × (IsSoundBook (begun book s) × IsSoundState (begun book s) s)
adopted_is_sound book image dsa inv s sound_book sound fresh e = subst (λ (z : State). IsLater book (begun book z) × (IsSoundBook (begun book z) × IsSoundState (begun book z) z)) t.1 (
  begun_later book d fresh sound.formed.locals,
  (begun_sound book d fresh sound.formed.locals known sound_book, woken_state book image dsa inv sound_book sound fresh (not_then _ IdentifierUsed (none _ (inl refl))) (ltb-false cursor_limit (length d.store.vector) (not_then _ (Full CursorTable cursor_limit) (none _ (inr (inl refl)))))),
)
  where
    d : State
    d = woken image dsa inv

    tests : List (Option AdoptRefusal)
    tests = then_some (names_inv image inv) IdentifierUsed ∷ then_some (nat_lt cursor_limit (length d.store.vector)) (Full CursorTable cursor_limit) ∷ []

    t : (adopt_refusal image inv d ≡ None) × (d ≡ s)
    t = answered (adopt_refusal image inv d) d s e

    none : Each (λ (o : Option AdoptRefusal). o ≡ None) tests
    none = none_there tests t.0

    known : Each (λ (x : Held). Member x.update book.issued) image.rows
    known x m = sound.known x.update (updated image.rows x m)
