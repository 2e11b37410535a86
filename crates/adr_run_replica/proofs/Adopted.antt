-- What comes of an image that is adopted.
use Rattle.std.proofs.Common.{◌≡◌, ◌∙◌, sym, ap, true, Option, Some, None, Ok, if◌then◌else◌}
use Rattle.adr_call.specs.declared.outcome.Outcome.TheVariants as outcomes
use Rattle.adr_call.specs.declared.refusal.Table.TheVariants.{Log}
use Rattle.adr_model.specs.Collect.{adopt, woken}
use Rattle.adr_model.specs.Lengths.{log_limit, new_log, area_fits}
use Rattle.adr_model.specs.Refused.{full}
use Rattle.adr_model.specs.Refusing.{unless}
use Rattle.adr_model.specs.Replica.{Replica, Up, begun, on_new_disk}
use Rattle.adr_model.specs.Store.{State, Store}
use Rattle.adr_model.specs.Update.{Identifier}
use Rattle.adr_model.specs.World.{Gone, Name, adopts}
use Rattle.adr_run_replica.specs.Led.{Adopts}

-- ---- an adoption

adopted_ok : {A E : Type 0} (o : Option E) (x s : A) → unless o x ≡ Ok s → x ≡ s
adopted_ok None x s is = cc is
adopted_ok (Some refusal) x s is = absurd (cc is)

module _ (name : Name) (image : Store) (dsa inv : Identifier) where
  module _ (s : State) (is : adopt image dsa inv ≡ Ok s) where
    pub adopts_so : (made : Replica) → area_fits (new_log s) s.store ≡ true → made ≡ on_new_disk name s → Adopts name (adopt image dsa inv) made
    adopts_so made fits same w placed =
        let gone : Replica → Gone = λ m. (record w { book = begun w.book m.safe; replicas = placed m }, outcomes.Ok) in
        ap (adopts w placed name) is ∙ ap (λ b. if b then gone (on_new_disk name s) else (w, full Log log_limit)) fits ∙ ap gone (sym same)

    pub made_up : (made : Replica) → made ≡ on_new_disk name s → (made.name ≡ name) × (made.standing ≡ Up) × (made.safe.dsa ≡ dsa) × (made.safe.inv ≡ inv)
    made_up made same =
        let woke : woken image dsa inv ≡ s = adopted_ok _ (woken image dsa inv) s is in (
          ap (λ (m : Replica). m.name) same,
          ap (λ (m : Replica). m.standing) same,
          ap (λ (m : Replica). m.safe.dsa) same ∙ sym (ap (λ (s : State). s.dsa) woke),
          ap (λ (m : Replica). m.safe.inv) same ∙ sym (ap (λ (s : State). s.inv) woke),
        )
