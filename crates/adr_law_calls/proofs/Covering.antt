-- The least vector that covers births and deaths: it covers each of them, and no more than a vector that covers them all.
use Rattle.std.proofs.Common.{◌≡◌, inl, inr, ℕ, ◌≤◌, List, [], ◌∷◌, Bool, true, false, cond, fold, max, refl, sym, ap, subst, arith}
use Rattle.std.specs.Ordering.{is_eq}
use Rattle.adr_values.specs.declared.stamp.Oid.{Oid}
use Rattle.adr_values.specs.Order.{identifier_order}
use Rattle.adr_values.specs.Vector.{Cursors, at, raised}
use Rattle.adr_values.proofs.Cursors.{IsRising, nil_rising, same_from_test}
use Rattle.adr_values.proofs.Joining.{at-raised, raised_here, rising-raised}
use Rattle.adr_model.specs.Member.{Each}
use Rattle.adr_model.specs.Update.{Identifier, Update, inv_of, usn_of}
use Rattle.adr_model.specs.Reflects.{Numbers, Covers, CoversBirth, AtMost}
use Rattle.adr_model.specs.Collect.{covering}
use Rattle.adr_law_knowledge.proofs.Raised.{raised_up}

-- with a birth and a death covered
abbrev further : Cursors → Oid × Update → Cursors
further v d = raised (raised v d.0.birth.inv d.0.birth.usn) (inv_of d.1) (usn_of d.1)

abbrev CoversBoth : Numbers → Oid × Update → Type 0
CoversBoth V d = CoversBirth V d.0 × Covers V d.1

raised_within : (v : Cursors) (inv : Identifier) (usn : ℕ) (V : Numbers) → AtMost (at v) V → usn ≤ V inv → AtMost (at (raised v inv usn)) V
raised_within v inv usn V below le i = by (is_eq (identifier_order i inv)) refl (at-raised v inv usn i)
  where
    by : (b : Bool) → is_eq (identifier_order i inv) ≡ b → at (raised v inv usn) i ≡ max (at v i) (cond b usn 0) → at (raised v inv usn) i ≤ V i
    by true is e = omega (arith, e, below i, le, ap V (same_from_test i inv is))
    by false is e = omega (arith, e, below i)

further_up : (v : Cursors) (d : Oid × Update) → AtMost (at v) (at (further v d))
further_up v d i = omega (arith, raised_up v d.0.birth.inv d.0.birth.usn i, raised_up (raised v d.0.birth.inv d.0.birth.usn) (inv_of d.1) (usn_of d.1) i)

further_within : (v : Cursors) (d : Oid × Update) (V : Numbers) → AtMost (at v) V → CoversBoth V d → AtMost (at (further v d)) V
further_within v d V below c =
    raised_within (raised v d.0.birth.inv d.0.birth.usn) (inv_of d.1) (usn_of d.1) V (raised_within v d.0.birth.inv d.0.birth.usn V below c.0) c.1

further_covers : (v : Cursors) (d : Oid × Update) → CoversBoth (at (further v d)) d
further_covers v d = (
  omega (arith, raised_here v d.0.birth.inv d.0.birth.usn, raised_up (raised v d.0.birth.inv d.0.birth.usn) (inv_of d.1) (usn_of d.1) d.0.birth.inv),
  omega (arith, raised_here (raised v d.0.birth.inv d.0.birth.usn) (inv_of d.1) (usn_of d.1)),
)

covers_up : (V W : Numbers) (d : Oid × Update) → AtMost V W → CoversBoth V d → CoversBoth W d
covers_up V W d up c = (omega (arith, c.0, up d.0.birth.inv), omega (arith, c.1, up (inv_of d.1)))

-- ---- all of them

all_up : (ds : List (Oid × Update)) (v : Cursors) → AtMost (at v) (at (fold further v ds))
all_up [] v i = omega arith
all_up (d ∷ ds) v i = omega (arith, further_up v d i, all_up ds (further v d) i)

all_within : (ds : List (Oid × Update)) (v : Cursors) (V : Numbers) → AtMost (at v) V → Each (CoversBoth V) ds → AtMost (at (fold further v ds)) V
all_within [] v V below c = below
all_within (d ∷ ds) v V below c = all_within ds (further v d) V (further_within v d V below (c d (inl refl))) (λ e m. c e (inr m))

all_covered : (ds : List (Oid × Update)) (v : Cursors) → Each (CoversBoth (at (fold further v ds))) ds
all_covered [] v d m = absurd m
all_covered (e ∷ ds) v d (inl same) = subst (CoversBoth (at (fold further v (e ∷ ds)))) (sym same) (covers_up (at (further v e)) (at (fold further v (e ∷ ds))) e (all_up ds (further v e)) (further_covers v e))
all_covered (e ∷ ds) v d (inr m) = all_covered ds (further v e) d m

all_rising : (ds : List (Oid × Update)) (v : Cursors) → IsRising v → IsRising (fold further v ds)
all_rising [] v r = r
all_rising (d ∷ ds) v r = all_rising ds (further v d) (rising-raised (raised v d.0.birth.inv d.0.birth.usn) (inv_of d.1) (usn_of d.1) (rising-raised v d.0.birth.inv d.0.birth.usn r))

pub covering_within : (ds : List (Oid × Update)) (V : Numbers) → Each (λ d. CoversBirth V d.0 × Covers V d.1) ds → AtMost (at (covering ds)) V
covering_within ds V c = all_within ds [] V (λ i. omega arith) c

pub covering_covers : (ds : List (Oid × Update)) → Each (λ d. CoversBirth (at (covering ds)) d.0 × Covers (at (covering ds)) d.1) ds
covering_covers ds = all_covered ds []

pub covering_rises : (ds : List (Oid × Update)) → IsRising (covering ds)
covering_rises ds = all_rising ds [] nil_rising
