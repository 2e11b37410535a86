-- What is decided before the items, and after them.
use Rattle.std.proofs.Common.{◌≡◌, ◌≤◌, ◌<◌, ℕ, Bool, List, [], ◌∷◌, length, Option, Some, None, Result, Ok, Err, refl, sym, ap, ◌∙◌, subst, arith, true, false}
use Rattle.std.specs.Prelude.{nat_lt}
use Rattle.std.specs.Bool.{then_some}
use Rattle.std.specs.Option.{option_or}
use Rattle.std.proofs.lemmas.Bool.Decides.{nat_tests}
use Rattle.adr_values.specs.Vector.{cursor_limit}
use Rattle.adr_call.specs.declared.refusal.Table.TheVariants.{Objects, Links, Cursors as CursorTable, Marks}
use Rattle.adr_call.specs.declared.refusal.TakeRefusal.TheVariants.{UsnLimit}
use Rattle.adr_call.specs.declared.refusal.TakeRefusal.{TakeRefusal}
use Rattle.adr_model.specs.Change.{Change, Item, after}
use Rattle.adr_values.specs.First.{first_of}
use Rattle.adr_values.specs.declared.failure.Failure.{Failure}
use Rattle.adr_values.specs.declared.failure.Failure.TheVariants as failures
use Rattle.adr_model.specs.Refusing.{unless}
use Rattle.adr_model.specs.Serve.{Reply}
use Rattle.adr_model.specs.Store.{State}
use Rattle.adr_model.specs.Take.{Taking, mark_limit, over_limit, take_refusal, take, take_items, taken_change}
use Rattle.adr_model.proofs.Firsts.{first_of_more, first_of_two}
use Rattle.adr_model.specs.Write.{link_limit, object_limit, usn_limit}
use Rattle.adr_cycle.specs.ReplyRefused.{refusal_before}

-- what refused so is this refusal
pub refused_is : {T R : Type 0} (r q : R) → (let x : Result T (Failure R) = Err (failures.Refused r) in x) ≡ Err (failures.Refused q) → r ≡ q
refused_is r q is = cc

-- what comes behind a refusal doesn't matter
one_of_six : (a b c d e f : Option TakeRefusal) (rest other : List (Option TakeRefusal)) (x : TakeRefusal) → first_of other ≡ None
    → first_of (a ∷ b ∷ c ∷ d ∷ e ∷ f ∷ other) ≡ Some x → first_of (a ∷ b ∷ c ∷ d ∷ e ∷ f ∷ rest) ≡ Some x
one_of_six (Some y) b c d e f rest other x none is = is
one_of_six None (Some y) c d e f rest other x none is = is
one_of_six None None (Some y) d e f rest other x none is = is
one_of_six None None None (Some y) e f rest other x none is = is
one_of_six None None None None (Some y) f rest other x none is = is
one_of_six None None None None None (Some y) rest other x none is = is
one_of_six None None None None None None rest other x none is = cc

refused_before : (s : State) (r : Reply) (t : Taking) (taken : State) (x : TakeRefusal) → refusal_before s r ≡ Some x → take_refusal s r t taken ≡ Some x
refused_before s r t taken x is = search one_of_six

-- a refusal before the items is that of the whole
pub early : (s : State) (r : Reply) (x : TakeRefusal) → refusal_before s r ≡ Some x → Err x ≡ take s r
early s r x is = rw (refused_before s r (take_items s r.items) (after s (taken_change s r (take_items s r.items))) x is) refl

-- after the items the refusal, or that there is none, decides
late : (s : State) (r : Reply) (t : Taking) → t ≡ take_items s r.items → (o : Option TakeRefusal) → o ≡ take_refusal s r t (after s (taken_change s r t))
    → unless o (taken_change s r t) ≡ take s r
late s r t is o e =
    ap (λ p. unless p (taken_change s r t)) e
    ∙ ap (λ (u : Taking). unless (take_refusal s r u (after s (taken_change s r u))) (taken_change s r u)) is

-- what the items came to is refused, or makes the change
module _ (s : State) (r : Reply) (items : List Item) (t : Taking) (o : Option TakeRefusal) (taking : t ≡ take_items s items) (same : items ≡ r.items) (found : o ≡ take_refusal s r t (after s (taken_change s r t))) where
  decided : (p : Option TakeRefusal) → o ≡ p → unless p (taken_change s r t) ≡ take s r
  decided p is = late s r t (taking ∙ ap (take_items s) same) p (sym is ∙ found)

  pub refuses : (x y : TakeRefusal) → o ≡ Some x → x ≡ y → take s r ≡ Err y
  refuses x y is equal = sym (decided (Some x) is) ∙ ap (λ z. let e : Result Change TakeRefusal = Err z in e) equal

  pub makes : (c : Change) → o ≡ None → c ≡ taken_change s r t → take s r ≡ Ok c
  makes c none is = sym (decided None none) ∙ ap (λ d. let e : Result Change TakeRefusal = Ok d in e) (sym is)

six_none : (a b c d e f : Option TakeRefusal) (other rest : List (Option TakeRefusal)) → first_of (a ∷ b ∷ c ∷ d ∷ e ∷ f ∷ other) ≡ None
    → first_of rest ≡ first_of (a ∷ b ∷ c ∷ d ∷ e ∷ f ∷ rest)
six_none None None None None None None other rest is = refl
six_none None None None None None (Some y) other rest is = cc
six_none None None None None (Some y) f other rest is = cc
six_none None None None (Some y) e f other rest is = cc
six_none None None (Some y) d e f other rest is = cc
six_none None (Some y) c d e f other rest is = cc
six_none (Some y) b c d e f other rest is = cc

-- what is looked at behind the items
abbrev pub tables : Taking → State → List (Option TakeRefusal)
tables t taken =
    over_limit Objects object_limit t.objects
    ∷ over_limit Links link_limit t.links
    ∷ over_limit CursorTable cursor_limit (length taken.store.vector)
    ∷ over_limit Marks mark_limit (length taken.store.marks)
    ∷ []

abbrev pub later : Taking → State → List (Option TakeRefusal)
later t taken = then_some (nat_lt usn_limit t.usn) UsnLimit ∷ tables t taken

-- it decides alone, with what the items say, where nothing was refused before
pub behind : (s : State) (r : Reply) (t : Taking) (taken : State) → refusal_before s r ≡ None → first_of (t.refusal ∷ later t taken) ≡ take_refusal s r t taken
behind s r t taken is = search six_none

-- the first of four, where each was told by a call
pub calls_of_four : {a b c d w x y z p q r : Option TakeRefusal} → w ≡ a → x ≡ b → y ≡ c → z ≡ d → p ≡ option_or w x → q ≡ option_or p y → r ≡ option_or q z → r ≡ first_of (a ∷ b ∷ c ∷ d ∷ [])
calls_of_four {a} {b} {c} {d} one two three four o1 o2 o3 =
    let two_of = option_or a b in
    let three_of = option_or two_of c in
    rw (o3, o2, o1, one, two, three, four) (first_of_two three_of d ∙ first_of_more two_of c (d ∷ []) ∙ first_of_more a b (c ∷ d ∷ []))

pub beyond : (n : ℕ) → usn_limit < n → Some UsnLimit ≡ then_some (nat_lt usn_limit n) UsnLimit
beyond n more = by (nat_lt usn_limit n) refl
  where
    by : (b : Bool) → nat_lt usn_limit n ≡ b → Some UsnLimit ≡ then_some b UsnLimit
    by true is = refl
    by false is = absurd (grind (arith, nat_tests))

pub within_limit : (n : ℕ) → n ≤ usn_limit → None ≡ then_some (nat_lt usn_limit n) UsnLimit
within_limit n few = by (nat_lt usn_limit n) refl
  where
    by : (b : Bool) → nat_lt usn_limit n ≡ b → None ≡ then_some b UsnLimit
    by true is = absurd (grind (arith, nat_tests))
    by false is = refl

eighth_passes : (a b c d e f g h : Option TakeRefusal) (rest : List (Option TakeRefusal)) → first_of (a ∷ b ∷ c ∷ d ∷ e ∷ f ∷ g ∷ h ∷ rest) ≡ None → h ≡ None
eighth_passes None None None None None None None None rest is = refl
eighth_passes None None None None None None None (Some y) rest is = cc
eighth_passes None None None None None None (Some y) h rest is = cc
eighth_passes None None None None None (Some y) g h rest is = cc
eighth_passes None None None None (Some y) f g h rest is = cc
eighth_passes None None None (Some y) e f g h rest is = cc
eighth_passes None None (Some y) d e f g h rest is = cc
eighth_passes None (Some y) c d e f g h rest is = cc
eighth_passes (Some y) b c d e f g h rest is = cc

usn_passes : (s : State) (r : Reply) (t : Taking) (taken : State) → take_refusal s r t taken ≡ None → then_some (nat_lt usn_limit t.usn) UsnLimit ≡ None
usn_passes s r t taken is = search eighth_passes

at_most : (n : ℕ) → then_some (nat_lt usn_limit n) UsnLimit ≡ None → n ≤ usn_limit
at_most n passes = by (nat_lt usn_limit n) refl passes
  where
    by : (b : Bool) → nat_lt usn_limit n ≡ b → then_some b UsnLimit ≡ None → n ≤ usn_limit
    by true is none = absurd (cc)
    by false is none = grind (arith, nat_tests)

-- a change that is made keeps the USN within its limit
pub within : (s : State) (r : Reply) (change : Change) → take s r ≡ Ok change → change.usn ≤ usn_limit
within s r change is = by (take_refusal s r (take_items s r.items) (after s (taken_change s r (take_items s r.items)))) refl is
  where
    by : (o : Option TakeRefusal) → take_refusal s r (take_items s r.items) (after s (taken_change s r (take_items s r.items))) ≡ o
        → unless o (taken_change s r (take_items s r.items)) ≡ Ok change → change.usn ≤ usn_limit
    by (Some x) found made = absurd (cc)
    by None found made =
        let made_of : taken_change s r (take_items s r.items) ≡ change = cc in
        subst (λ (k : Change). k.usn ≤ usn_limit) made_of (at_most (take_items s r.items).usn (usn_passes s r (take_items s r.items) (after s (taken_change s r (take_items s r.items))) found))
