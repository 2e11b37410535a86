-- A controller is made of a store.
use Rattle.std.proofs.Common.{◌≡◌, Result, Ok, Err, IfOk, subst, ℕ, ◌<◌, List, [], length, map, max, fold, Some, sym, ap, ◌∙◌, arith}
use Rattle.std.proofs.Common.{inl, inr}
use Rattle.std.specs.List.Sorted.{IsStrictlySortedBy}
use Rattle.std.proofs.lemmas.Cmp.{nat_list_cmp_total}
use Rattle.adr_values.specs.Numbered.{numbered}
use Rattle.adr_values.specs.Order.{identifier_order}
use Rattle.adr_values.specs.Vector.{Cursors, at, cursor_limit, joined, raised}
use Rattle.adr_values.proofs.Cursors.{FromOne, IsRising, nil_rising, same_cursors}
use Rattle.adr_values.proofs.Joining.{at-joined, from_one-joined, rising-joined}
use Rattle.adr_model.specs.Change.{Change, after, rows_after, with_mark}
use Rattle.adr_model.specs.Collect.{woken}
use Rattle.adr_model.specs.Formed.{IsFormedStore}
use Rattle.adr_model.specs.Store.{Held, PartnerMark, Normal, State, Store}
use Rattle.adr_model.specs.Update.{Identifier}
use Rattle.adr_state.specs.Refusal.{IsOverfull}
use Rattle.adr_image.specs.Anew.{MakesAll}
use Rattle.adr_records.specs.Woken.{unmade, with_marks}
use Rattle.adr_records.proofs.Anew.{entries_anew, rows_anew}

-- ---- what a call gave that isn't full

pub made_of : {T E : Type 0} (P : T → Type 0) (given : Result T E) (x : T) → IfOk given P → given ≡ Ok x → P x
made_of {T} {E} P given x each is = let Q : Result T E → Type 0 = λ r. IfOk r P in subst Q is each

pub made_each : {T E F : Type 0} (P : T → Type 0) (given : Result T E) (made : Result T F) → IfOk given P → IfOk made (λ x. given ≡ Ok x) → IfOk made P
made_each P given (Ok x) each is = made_of P given x each is
made_each P given (Err e) each is = tt

-- ---- the first change

joined_anew : (v : Cursors) → IsRising v → FromOne v → joined [] v ≡ v
joined_anew v rising from_one =
    same_cursors (joined [] v) v (rising-joined v [] nil_rising) rising (from_one-joined v [] tt) from_one
    (λ inv. at-joined v [] inv rising ∙ (let none : max 0 (at v inv) ≡ at v inv = omega arith in none))

made_of_all : (s : Store) (dsa inv : Identifier) (c : Change) → IsFormedStore s → MakesAll s c → after (unmade s.schema dsa inv) c ≡ with_marks [] (woken s dsa inv)
made_of_all s dsa inv c formed makes =
    ap (after (unmade s.schema dsa inv)) makes.is
    ∙ ap (λ (hs : List Held). made (rows_after [] hs []) (joined [] s.vector) (joined [] s.times) (joined [] s.purged)) makes.writes
    ∙ ap (λ (hs : List Held). made hs (joined [] s.vector) (joined [] s.times) (joined [] s.purged)) (rows_anew (numbered s.schema) s.rows formed.rows formed.rising)
    ∙ ap (λ (v : Cursors). made s.rows v (joined [] s.times) (joined [] s.purged)) (joined_anew s.vector formed.vector.rising formed.vector.from_one)
    ∙ ap (λ (v : Cursors). made s.rows s.vector v (joined [] s.purged)) (joined_anew s.times formed.times.moments.rising formed.times.moments.from_one)
    ∙ ap (λ (v : Cursors). made s.rows s.vector s.times v) (joined_anew s.purged formed.purged.rising formed.purged.from_one)
  where
    made : List Held → Cursors → Cursors → Cursors → State
    made rows vector times purged =
        record { dsa = dsa; inv = inv; mode = Normal; store = record { schema = s.schema; usn = s.usn; rows = rows; vector = raised vector inv s.usn; times = times; purged = purged; marks = [] } }

pub first_state : (s : Store) (t : State) (c : Change) → t ≡ unmade s.schema t.dsa t.inv → IsFormedStore s → MakesAll s c → after t c ≡ with_marks [] (woken s t.dsa t.inv)
first_state s t c is formed makes = ap (λ (u : State). after u c) is ∙ made_of_all s t.dsa t.inv c formed makes

-- a controller that is new is one of nothing, under its own identifiers
pub new_unmade : (s : Store) (dsa inv : Identifier) (schema : ℕ) (t : State) → schema ≡ s.schema → t ≡ unmade schema dsa inv → t ≡ unmade s.schema t.dsa t.inv
new_unmade s dsa inv schema t same is =
    let all : t ≡ unmade s.schema dsa inv = is ∙ ap (λ (n : ℕ). unmade n dsa inv) same in
    all ∙ sym (ap (λ (u : State). unmade s.schema u.dsa u.inv) all)

-- what it makes has room for all cursors where the own one has
pub overfull_is : (s : Store) (dsa inv : Identifier) → IsFormedStore s → IsOverfull (with_marks [] (woken s dsa inv)) → cursor_limit < length (raised s.vector inv s.usn)
overfull_is s dsa inv formed (inl many) = many
overfull_is s dsa inv formed (inr many) = let few = formed.purged.few in absurd (omega (arith, few, many))

-- ---- marks

-- marks that rise are made anew, one after the other
pub all_kept : (s : State) (marks : List (Identifier × PartnerMark)) → IsStrictlySortedBy identifier_order (map (λ (k : Identifier × PartnerMark). k.0) s.store.marks)
    → marks ≡ fold (λ ms (m : Identifier × PartnerMark). with_mark (Some m) ms) [] s.store.marks → with_marks marks (with_marks [] s) ≡ s
all_kept s marks rise made = ap (λ (ms : List (Identifier × PartnerMark)). with_marks ms s) (made ∙ entries_anew identifier_order nat_list_cmp_total s.store.marks rise)
