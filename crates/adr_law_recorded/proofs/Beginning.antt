-- Where logs begin, and which states they lead to.
use Rattle.std.proofs.Common.{◌≡◌, Ok, refl, sym, ap, subst, arith, inl, inr}
use Rattle.adr_model.specs.Update.{Identifier}
use Rattle.adr_model.specs.Collect.{adopt, woken}
use Rattle.adr_model.specs.Formed.{IsFormedStore}
use Rattle.adr_model.specs.Store.{Normal, State, Store, empty_state}
use Rattle.adr_wire.specs.Ranges.{IsId}
use Rattle.adr_law_calls.proofs.Still.{adopted_is_formed, new_is_formed}
use Rattle.adr_law_calls.proofs.Woken.{adopted_is_woken}
use Rattle.adr_image.specs.Stored.{IsSpelled}
use Rattle.adr_image.proofs.Staying.{begins_spelled, raised_spelled}
use Rattle.adr_state.specs.Refusal.{IsOverfull}
use Rattle.adr_records.specs.Logged.{IsLogged, MayBegin}
use Rattle.adr_records.specs.HeadLaws.{classes_known}

pub new_may_begin : (dsa inv : Identifier) → IsId dsa → IsId inv → MayBegin (empty_state dsa inv)
new_may_begin dsa inv right_dsa right_inv =
    let formed = new_is_formed dsa inv in
    record {
      logged = record { dsa = right_dsa; inv = right_inv; formed = formed.0; spelled = begins_spelled; classes = formed.1 };
      normal = refl;
    }

pub logged_fits : (s : State) → IsLogged s → IsOverfull s → ⊥
logged_fits s logged (inl more) = let few = logged.formed.store.vector.few in omega (arith, more, few)
logged_fits s logged (inr more) = let few = logged.formed.store.purged.few in omega (arith, more, few)

woken_is_spelled : (image : Store) (dsa inv : Identifier) → IsSpelled image → IsId inv → IsSpelled (woken image dsa inv).store
woken_is_spelled image dsa inv q id = assumption (raised_spelled image.vector inv image.usn q.vector id q.usn)

pub adopted_is_logged : (image : Store) (dsa inv : Identifier) (s : State) → IsFormedStore image → IsSpelled image → IsId dsa → IsId inv → adopt image dsa inv ≡ Ok s
    → IsLogged s × (s.mode ≡ Normal)
adopted_is_logged image dsa inv s formed spelled right_dsa right_inv e =
    let is : woken image dsa inv ≡ s = adopted_is_woken image dsa inv s e in
    let q : IsSpelled s.store = subst (λ (t : State). IsSpelled t.store) is (woken_is_spelled image dsa inv spelled right_inv) in (
      record {
        dsa = subst (λ (t : State). IsId t.dsa) is right_dsa;
        inv = subst (λ (t : State). IsId t.inv) is right_inv;
        formed = adopted_is_formed image dsa inv s formed e;
        spelled = q;
        classes = classes_known s q;
      },
      ap (λ (t : State). t.mode) (sym is),
    )
