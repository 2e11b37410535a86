-- What it means that a reply is taken: no refusal is there, and so it passes all tests.
use Rattle.std.proofs.Common.{◌≡◌, inl, inr, ℕ, ◌≤◌, [], ◌∷◌, false, Option, None, refl, not, length, Ok}
use Rattle.std.specs.Prelude.{nat_lt}
use Rattle.std.specs.Bool.{then_some}
use Rattle.std.proofs.lemmas.Bool.{ltb-false}
use Rattle.adr_values.proofs.ExactCalls.{not_then}
use Rattle.adr_values.specs.Vector.{cursor_limit}
use Rattle.adr_call.specs.declared.refusal.Table.TheVariants.{Objects, Links, Cursors as CursorTable, Marks}
use Rattle.adr_call.specs.declared.refusal.TakeRefusal.{TakeRefusal}
use Rattle.adr_call.specs.declared.refusal.TakeRefusal.TheVariants.{Quarantined, NotMine, RolledBack, UsnLimit, Full}
use Rattle.adr_model.specs.Member.{Each}
use Rattle.adr_values.specs.First.{first_of}
use Rattle.adr_model.specs.Update.{same_identifier}
use Rattle.adr_model.specs.Store.{Mode, Normal, Quarantined as IsQuarantined, State}
use Rattle.adr_model.specs.Change.{Change}
use Rattle.adr_model.specs.Serve.{Reply, is_quarantined}
use Rattle.adr_model.specs.Write.{object_limit, link_limit, usn_limit}
use Rattle.adr_model.specs.Take.{Taking, shown_by_last, over_limit, mark_limit, take_refusal, take}
use Rattle.adr_model.specs.Replica.{Book}
use Rattle.adr_model.specs.Sound.{IsSoundBook, IsSoundState, IsSoundReply}
use Rattle.adr_law_knowledge.proofs.Refusing.{none_there, answered}
use Rattle.adr_law_calls.specs.OnTheWay.{stale, lags, other_schema, put_back, Passes, taken_items, change_taken, state_behind, IsTaken}
use Rattle.adr_law_calls.proofs.Granted.{takeable}

-- of twelve refusals none is there
each_of_twelve : (a b c d e f g h i j k l : Option TakeRefusal) → first_of (a ∷ b ∷ c ∷ d ∷ e ∷ f ∷ g ∷ h ∷ i ∷ j ∷ k ∷ l ∷ []) ≡ None
    → (a ≡ None) × (c ≡ None) × (d ≡ None) × (e ≡ None) × (f ≡ None) × (g ≡ None) × (h ≡ None) × (i ≡ None) × (j ≡ None) × (k ≡ None) × (l ≡ None)
each_of_twelve a b c d e f g h i j k l none = (
  each a (inl refl),
  each c (inr (inr (inl refl))),
  each d (inr (inr (inr (inl refl)))),
  each e (inr (inr (inr (inr (inl refl))))),
  each f (inr (inr (inr (inr (inr (inl refl)))))),
  each g (inr (inr (inr (inr (inr (inr (inl refl))))))),
  each h (inr (inr (inr (inr (inr (inr (inr (inl refl)))))))),
  each i (inr (inr (inr (inr (inr (inr (inr (inr (inl refl))))))))),
  each j (inr (inr (inr (inr (inr (inr (inr (inr (inr (inl refl)))))))))),
  each k (inr (inr (inr (inr (inr (inr (inr (inr (inr (inr (inl refl))))))))))),
  each l (inr (inr (inr (inr (inr (inr (inr (inr (inr (inr (inr (inl refl)))))))))))),
)
  where
    each : Each (λ (o : Option TakeRefusal). o ≡ None) (a ∷ b ∷ c ∷ d ∷ e ∷ f ∷ g ∷ h ∷ i ∷ j ∷ k ∷ l ∷ [])
    each = none_there (a ∷ b ∷ c ∷ d ∷ e ∷ f ∷ g ∷ h ∷ i ∷ j ∷ k ∷ l ∷ []) none

not_over : {R : Type 0} → (limit count : ℕ) (refusal : R) → then_some (nat_lt limit count) refusal ≡ None → count ≤ limit
not_over limit count refusal h = ltb-false limit count (not_then (nat_lt limit count) refusal h)

pub normal_where_not_quarantined : (m : Mode) → is_quarantined m ≡ false → m ≡ Normal
normal_where_not_quarantined Normal e = refl
normal_where_not_quarantined IsQuarantined e = absurd (cc)

passes_where_granted : (s : State) (r : Reply) (t : Taking) (behind : State) → take_refusal s r t behind ≡ None → Passes s r t behind
passes_where_granted s r t behind none =
    let n = each_of_twelve
    (then_some (is_quarantined s.mode) Quarantined) (then_some (not (same_identifier r.dest s.dsa)) (NotMine r.dest)) (stale s r) (lags s r) (other_schema s r)
    (put_back s r)
    t.refusal (then_some (nat_lt usn_limit t.usn) UsnLimit) (over_limit Objects object_limit t.objects) (over_limit Links link_limit t.links)
    (over_limit CursorTable cursor_limit (length behind.store.vector)) (over_limit Marks mark_limit (length behind.store.marks)) none in
    record {
      normal = normal_where_not_quarantined s.mode (not_then (is_quarantined s.mode) Quarantined n.0);
      fresh = n.1;
      asked = n.2;
      schema = n.3;
      shown = not_over s.store.usn (shown_by_last s r) (RolledBack s.inv s.store.usn (shown_by_last s r)) n.4;
      items = n.5;
      usn = not_over usn_limit t.usn UsnLimit n.6;
      objects = not_over object_limit t.objects (Full Objects object_limit) n.7;
      links = not_over link_limit t.links (Full Links link_limit) n.8;
      cursors = not_over cursor_limit (length behind.store.vector) (Full CursorTable cursor_limit) n.9;
      marks = not_over mark_limit (length behind.store.marks) (Full Marks mark_limit) n.10;
    }

-- a reply that is taken passes, and the change is the one of its items
pub passed : (s : State) (r : Reply) (c : Change) → take s r ≡ Ok c → Passes s r (taken_items s r) (state_behind s r) × (change_taken s r ≡ c)
passed s r c e =
    let g = answered (take_refusal s r (taken_items s r) (state_behind s r)) (change_taken s r) c e in
    (passes_where_granted s r (taken_items s r) (state_behind s r) g.0, g.1)

pub is_taken : (book : Book) (s : State) (r : Reply) (c : Change) → IsSoundBook book → IsSoundState book s → IsSoundReply book r → take s r ≡ Ok c → IsTaken book s r c
is_taken book s r c sound_book state reply e =
    let p = passed s r c e in
    record { may = takeable book s r sound_book state reply p.0.fresh p.0.asked p.0.schema; state = state; is = p.1; passes = p.0 }
