-- No line of the schedule changes a schema, and only collections change what was collected.
use Rattle.std.proofs.Common.{◌≡◌, ℕ, List, [], ◌∷◌, true, false, Some, refl, sym, ap, ◌∙◌, subst}
use Rattle.adr_call.specs.declared.call.Call.TheVariants as calls
use Rattle.adr_call.specs.declared.event.Event.{Event}
use Rattle.adr_call.specs.declared.event.Event.TheVariants as events
use Rattle.adr_values.specs.Vector.{joined}
use Rattle.adr_model.specs.Store.{Store, State}
use Rattle.adr_model.specs.Change.{Change, after}
use Rattle.adr_model.specs.Write.{Write, items_written, own_change, write_refusal, write}
use Rattle.adr_model.specs.Serve.{Reply}
use Rattle.adr_model.specs.Take.{take_items, taken_change, take_refusal, take}
use Rattle.adr_model.specs.Collect.{collect, quarantine}
use Rattle.adr_model.specs.Replica.{Call, ToWrite, ToTake, ToCollect, ToUpgrade, ToQuarantine, change_of}
use Rattle.adr_law_knowledge.proofs.Refusing.{answered}
use Rattle.adr_law_calls.proofs.CollectionFollows.{collect_is_collection}
use Rattle.adr_law_convergence.proofs.Calls.{in_change}
use Rattle.adr_run_exercised.proofs.Limits.{HasFirstSchema}
use Rattle.adr_run_exercised.proofs.Mild.{AreMild}
use Rattle.adr_run_exercised.proofs.Stores.{IsKeptOf, MayLines}

-- all calls but an upgrade
abbrev pub IsNoUpgrade : Call → Type 0
IsNoUpgrade ToUpgrade = ⊥
IsNoUpgrade call = Unit {0}

-- nor a collection
abbrev pub IsNoCollection : Call → Type 0
IsNoCollection ToUpgrade = ⊥
IsNoCollection (ToCollect now lifetime) = ⊥
IsNoCollection call = Unit {0}

-- what holds of the change of each such call holds of a change that is made
module _ (s : State) (P : Change → Type 0) (own : (what : Write) (now : ℕ) → P (own_change s (items_written s what now))) (took : (r : Reply) → P (taken_change s r (take_items s r.items))) (shut : P (quarantine s)) where
  change_case : (call : Call) (c : Change) → IsNoCollection call → change_of s call ≡ Some c → P c
  change_case (ToWrite what now) c may made = subst P (answered (write_refusal s what) (own_change s (items_written s what now)) c (in_change (write s what now) c made)).1 (own what now)
  change_case (ToTake r) c may made =
      subst P (answered (take_refusal s r (take_items s r.items) (after s (taken_change s r (take_items s r.items)))) (taken_change s r (take_items s r.items)) c (in_change (take s r) c made)).1 (took r)
  change_case ToQuarantine c may made = let is : quarantine s ≡ c = cc in subst P is shut
  change_case (ToCollect now lifetime) c may made = absurd may
  change_case ToUpgrade c may made = absurd may

-- ---- schemas

same_schema : (s : State) (call : Call) (c : Change) → IsNoUpgrade call → change_of s call ≡ Some c → c.schema ≡ s.store.schema
same_schema s (ToCollect now lifetime) c may made = ap (λ (x : Change). x.schema) (sym (collect_is_collection s now lifetime c (in_change (collect s now lifetime) c made)))
same_schema s (ToWrite what now) c may made = change_case s (λ x. x.schema ≡ s.store.schema) (λ w n. refl) (λ r. refl) refl (ToWrite what now) c tt made
same_schema s (ToTake r) c may made = change_case s (λ x. x.schema ≡ s.store.schema) (λ w n. refl) (λ q. refl) refl (ToTake r) c tt made
same_schema s ToQuarantine c may made = change_case s (λ x. x.schema ≡ s.store.schema) (λ w n. refl) (λ r. refl) refl ToQuarantine c tt made
same_schema s ToUpgrade c may made = absurd may

pub schema_rules : IsKeptOf HasFirstSchema IsNoUpgrade
schema_rules = record {
  begins = λ dsa inv. refl;
  changes = λ s call c may made is. same_schema s call c may made ∙ is;
  wakes = λ image dsa inv is. is;
  writes = λ what now. tt;
  takes = λ reply. tt;
  shuts = tt;
}

pub no_upgrade : (es : List Event) → MayLines IsNoUpgrade es
no_upgrade [] = tt
no_upgrade (events.Calls name (calls.Collect lifetime) ∷ es) = ((λ now. tt), no_upgrade es)
no_upgrade (e ∷ es) = (tt, no_upgrade es)

-- ---- what was collected

abbrev pub HasCollectedNothing : Store → Type 0
HasCollectedNothing s = s.purged ≡ []

pub nothing_rules : IsKeptOf HasCollectedNothing IsNoCollection
nothing_rules = record {
  begins = λ dsa inv. refl;
  changes = λ s call c may made is. ap (joined s.store.purged) (change_case s (λ x. x.purged ≡ []) (λ w n. refl) (λ r. refl) refl call c may made) ∙ is;
  wakes = λ image dsa inv is. is;
  writes = λ what now. tt;
  takes = λ reply. tt;
  shuts = tt;
}

-- lines that are mild without a collection
pub no_collection : (es : List Event) → AreMild false es → MayLines IsNoCollection es
no_collection [] mild = tt
no_collection (events.Calls name (calls.Collect lifetime) ∷ es) mild = let is : false ≡ true = mild.0 in absurd (cc)
no_collection (e ∷ es) mild = (tt, no_collection es mild.1)
