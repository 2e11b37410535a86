-- What was sound stays sound when the book grows: what is reflected, vectors, marks and stores.
use Rattle.std.proofs.Common.{◌≡◌, inl, inr, ⊎_elim, ℕ, ◌≤◌, List, refl, sym, ◌∙◌, subst, ap, arith}
use Rattle.adr_values.specs.declared.stamp.Oid.{Oid}
use Rattle.adr_values.specs.Vector.{at, raised}
use Rattle.adr_values.specs.declared.mark.Mark.{Mark}
use Rattle.adr_model.specs.Member.{Member}
use Rattle.adr_model.specs.Update.{Identifier, Update, inv_of, usn_of, ends}
use Rattle.adr_model.specs.Reflects.{Numbers, Covers, CoversBirth, Knowledge, knowledge_of, Reflects}
use Rattle.adr_model.specs.Store.{Held, Store, State}
use Rattle.adr_model.specs.LocalLog.{last_usn, rows_at, IsBelow}
use Rattle.adr_model.specs.Serve.{Request}
use Rattle.adr_model.specs.Replica.{Book, log_of}
use Rattle.adr_model.specs.Sound.{last_of, IsBirthOf, IsSoundBook, IsBounded, IsSoundMark, IsSoundStore, IsSoundState, IsSoundRequest}
use Rattle.adr_law_knowledge.proofs.Knows.{birth_is, more_issued as known_to_more}
use Rattle.adr_law_knowledge.proofs.Raised.{covered_before as raised_covers}
use Rattle.adr_law_calls.specs.Later.{IsLater}

pub later_itself : (s : Book) → IsLater s s
later_itself s = record { kept = λ u m. m; newer = λ u m. inl m; rising = λ i. omega arith; stable = λ i usn le. refl; boundaries = λ i usn le boundary. boundary }

pub later_on : (s t v : Book) → IsLater s t → IsLater t v → IsLater s v
later_on s t v l k = record {
  kept = λ u m. k.kept u (l.kept u m);
  newer = λ u m. ⊎_elim (λ old. l.newer u old) (λ new. inr (omega (arith, new, l.rising (inv_of u)))) (k.newer u m);
  rising = λ i. omega (arith, l.rising i, k.rising i);
  stable = λ i usn le. k.stable i usn (omega (arith, le, l.rising i)) ∙ l.stable i usn le;
  boundaries = λ i usn le boundary. k.boundaries i usn (omega (arith, le, l.rising i)) (l.boundaries i usn le boundary);
}

pub more_issued : (s t : Book) → IsLater s t → (k : Knowledge) (u : Update) → Reflects s.issued k u → Reflects t.issued k u
more_issued s t l k u h = known_to_more s.issued t.issued k u l.kept h

-- a bounded vector covers no update that is issued later
pub covered_before : (s t : Book) → IsLater s t → (V : Numbers) → IsBounded s V → (u : Update) → Member u t.issued → Covers V u → Member u s.issued
covered_before s t l V b u m c = ⊎_elim (λ old. old) (λ new. absurd (omega (arith, new, c, b (inv_of u)))) (l.newer u m)

-- an object that was issued is born where it was: a vector that is raised at the own identifier covers no further birth
pub born_before : (book : Book) (s : State) (usn : ℕ) → IsSoundBook book → IsSoundState book s → (r : Update) → Member r book.issued → (o : Oid) → Member o (ends r.key)
    → CoversBirth (at (raised s.store.vector s.inv usn)) o → CoversBirth (at s.store.vector) o
born_before book s usn sound_book state r m o n born = raised_covers s.store.vector s.inv usn o.birth.inv o.birth.usn born within
  where
    b : (u : Update) × Member u book.issued × IsBirthOf o u
    b = sound_book.born r m o n

    is : (inv_of b.0 ≡ o.birth.inv) × (usn_of b.0 ≡ o.birth.usn)
    is = birth_is o b.0 b.2.1

    within : o.birth.inv ≡ s.inv → o.birth.usn ≤ at s.store.vector s.inv
    within e = omega (arith, (sound_book.once b.0 b.1).1, is.1, state.formed.own, state.last, ap (last_of book) (is.0 ∙ e))

pub bounded_later : (s t : Book) → IsLater s t → (V : Numbers) → IsBounded s V → IsBounded t V
bounded_later s t l V b i = omega (arith, b i, l.rising i)

pub mark_later : (s t : Book) → IsLater s t → (k : Knowledge) (i : Identifier) (m : Mark) → IsSoundMark s k i m → IsSoundMark t k i m
mark_later s t l k i m is = record {
  ordered = is.ordered;
  seen = omega (arith, is.seen, l.rising i);
  boundary = l.boundaries i m.seen is.seen is.boundary;
  watermark = λ x mem below. more_issued s t l k x.update
      (is.watermark x (subst (λ (rows : List Held). Member x rows) same mem) (subst (λ (rows : List Held). IsBelow rows m x) same below));
}
  where
    same : rows_at (log_of t i) m.seen ≡ rows_at (log_of s i) m.seen
    same = l.stable i m.seen is.seen

pub store_later : (s t : Book) → IsLater s t → (d : Store) → IsSoundStore s d → IsSoundStore t d
store_later s t l d is = record {
  known = λ u m. l.kept u (is.known u m);
  bounded = bounded_later s t l (at d.vector) is.bounded;
  covered = λ u m c. more_issued s t l (knowledge_of d) u (is.covered u (covered_before s t l (at d.vector) is.bounded u m c) c);
  formed = is.formed;
  closed = is.closed;
  classes = is.classes;
  marks = λ k m. mark_later s t l (knowledge_of d) k.1.inv k.1.mark (is.marks k m);
}

-- a state whose own log is the same
pub state_later : (s t : Book) → IsLater s t → (d : State) → log_of t d.inv ≡ log_of s d.inv → IsSoundState s d → IsSoundState t d
state_later s t l d same is = record {
  store = store_later s t l d.store is.store;
  formed = is.formed;
  last = is.last ∙ sym last;
  rows = is.rows ∙ sym (l.stable d.inv d.store.usn (subst (λ n. d.store.usn ≤ n) is.last (omega arith)));
}
  where
    last : last_of t d.inv ≡ last_of s d.inv
    last = ap last_usn same

pub request_later : (s t : Book) → IsLater s t → (q : Request) → IsSoundRequest s q → IsSoundRequest t q
request_later s t l q is = record { bounded = bounded_later s t l (at q.vector) is.bounded; ordered = is.ordered; seen = omega (arith, is.seen, l.rising q.inv) }
