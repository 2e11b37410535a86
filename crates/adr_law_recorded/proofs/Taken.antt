-- What a taken reply brings is in the ranges of a record, and so its change can be recorded.
use Rattle.std.proofs.Common.{◌≡◌, ℕ, ◌+◌, ◌<◌, ◌≤◌, ◌^◌, Bool, true, false, cond, List, [], ◌∷◌, Option, Some, None, unwrap_or, refl, sym, subst, fold, length, length-append, arith, Ok}
use Rattle.std.specs.Prelude.{is_some}
use Rattle.std.specs.List.{AllByRecursion}
use Rattle.std.specs.Option.{IfSome}
use Rattle.adr_values.specs.Table.{Table}
use Rattle.adr_values.specs.Numbered.{numbered}
use Rattle.adr_values.specs.Vector.{Cursors}
use Rattle.adr_wire.specs.Ranges.{IsId, IsMark, IsOid, IsU64, IsCursor}
use Rattle.adr_model.specs.Member.{Each}
use Rattle.adr_model.specs.Update.{Identifier, Update}
use Rattle.adr_model.specs.Store.{PartnerMark, State}
use Rattle.adr_model.specs.Change.{Item, Change}
use Rattle.adr_model.specs.Serve.{Reply}
use Rattle.adr_model.specs.Take.{Taking, begin, rows_taken, times_brought, writes_of, take_item, take}
use Rattle.adr_law_calls.proofs.Passed.{passed}
use Rattle.adr_law_calls.proofs.TakenFollow.{taken_bare, taken_brings, taken_follows}
use Rattle.adr_image.specs.Whole.{is_schema}
use Rattle.adr_law_recorded.specs.Ranged.{IsRangedReply}
use Rattle.adr_law_recorded.specs.InRange.{IsInRange}
use Rattle.adr_law_recorded.specs.Laws.{TakenIsRecorded}
use Rattle.adr_law_recorded.proofs.Bodied.{recorded}

-- ---- an item makes one write at most

one_write : (usn : ℕ) (i : Item) (us : List Update) → length (writes_of usn i us) ≤ 1
one_write usn i [] = omega arith
one_write usn i (u ∷ us) = omega arith

module _ (table : Table) (vector : Cursors) where
  one_more : (t : Taking) (i : Item) → length (take_item table vector t i).writes ≤ length t.writes + 1
  one_more t i =
      let us = rows_taken vector t.rows i in
      omega (arith, length-append t.writes (writes_of t.usn i us), one_write t.usn i us)

  few_writes : (is : List Item) (t : Taking)
      → length (fold (take_item table vector) t is).writes ≤ length t.writes + length is
  few_writes [] t = omega arith
  few_writes (i ∷ is) t = omega (arith, few_writes is (take_item table vector t i), one_more t i)

-- ---- the whole

last_in_range : (o : Option Cursors) → IfSome o (AllByRecursion IsCursor)
    → AllByRecursion IsCursor (unwrap_or o [])
last_in_range None all = tt
last_in_range (Some v) all = all

brought_in_range : (r : Reply) → AllByRecursion (λ t. IsU64 t.1) r.times → AllByRecursion (λ t. IsU64 t.1) (times_brought r)
brought_in_range r all = by (is_some r.last)
  where
    by : (b : Bool) → AllByRecursion (λ (t : Identifier × ℕ). IsU64 t.1) (cond b r.times [])
    by true = all
    by false = tt

pub taken_in_range : (s : State) (r : Reply) (c : Change) → is_schema s.store.schema ≡ true → IsRangedReply r → take s r ≡ Ok c → IsInRange c
taken_in_range s r c known ranged e =
    let p = passed s r c e in
    let brings = taken_brings s r c e in
    record {
      usn = omega (arith, brings.1);
      schema = subst (λ (x : Change). is_schema x.schema ≡ true) p.1 known;
      mark = subst (λ m. IfSome m (λ (k : Identifier × PartnerMark). IsId k.0 × IsId k.1.inv × IsMark k.1.mark)) (sym brings.4)
          (ranged.source, ranged.inv, ranged.to);
      joined = subst (AllByRecursion IsCursor) (sym brings.2) (last_in_range r.last ranged.last);
      times = subst (AllByRecursion (λ t. IsU64 t.1)) (sym brings.3) (brought_in_range r ranged.times);
      purged = subst (AllByRecursion IsCursor) (sym brings.5) tt;
      removed = subst (λ (x : Change). Each IsOid x.removed) p.1 (λ o m. absurd m);
      few_removed = subst (λ (x : Change). length x.removed < 2 ^ 32) p.1 (omega arith);
      few = subst (λ (x : Change). length x.writes < 2 ^ 32) p.1
          (omega (arith, few_writes (numbered s.store.schema) s.store.vector r.items (begin s), ranged.few));
      rows = λ u m. let t = brings.0 u m in ranged.items t.0 t.1 u t.2;
    }

-- the change that it makes can be recorded
pub taken_recorded : TakenIsRecorded
taken_recorded s r c logged spelled ranged e =
    recorded s c logged (taken_follows s r c logged.formed logged.classes spelled e)
    (taken_bare s r c logged.formed logged.classes spelled e) (taken_in_range s r c logged.spelled.schema ranged e)
