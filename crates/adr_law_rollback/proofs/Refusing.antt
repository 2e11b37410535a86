-- A quarantined controller refuses everything.
use Rattle.std.proofs.Common.{◌≡◌, List, ◌∷◌, Bool, true, Option, Some, None, ap, if◌then◌else◌}
use Rattle.std.specs.Bool.{then_some}
use Rattle.adr_values.specs.First.{first_of}
use Rattle.adr_call.specs.declared.refusal.WriteRefusal.{WriteRefusal}
use Rattle.adr_call.specs.declared.refusal.WriteRefusal.TheVariants as writes
use Rattle.adr_call.specs.declared.refusal.ServeRefusal.TheVariants as serves
use Rattle.adr_call.specs.declared.refusal.TakeRefusal.TheVariants as takes
use Rattle.adr_call.specs.declared.refusal.CollectRefusal.TheVariants as collects
use Rattle.adr_call.specs.declared.refusal.UpgradeRefusal.TheVariants as upgrades
use Rattle.adr_model.specs.Refusing.{unless}
use Rattle.adr_model.specs.Store.{Quarantined, State}
use Rattle.adr_model.specs.Serve.{is_quarantined, reply_to}
use Rattle.adr_model.specs.Write.{Write, AddObject, Modify, Rename, Delete, AddLink, RemoveLink, Revive, any_link_refusal, items_written, own_change, write_refusal}
use Rattle.adr_model.specs.Take.{take_items, taken_change}
use Rattle.adr_model.specs.Collect.{deaths_to_collect, collection}
use Rattle.adr_model.specs.Upgrade.{upgraded}
use Rattle.adr_law_rollback.specs.ShutOff.{RefusesAll, QuarantinedRefusesAll}

-- what is tested and met comes first
pub first_met : {A : Type 0} (b : Bool) (x : A) (os : List (Option A)) → b ≡ true → first_of (then_some b x ∷ os) ≡ Some x
first_met b x os is = ap (λ c. first_of (then_some c x ∷ os)) is

pub met_before : {A : Type 0} (o : Option A) (x : A) (os : List (Option A)) → o ≡ Some x → first_of (o ∷ os) ≡ Some x
met_before o x os is = ap (λ p. first_of (p ∷ os)) is

module _ (s : State) (closed : s.mode ≡ Quarantined) where
  is_closed : is_quarantined s.mode ≡ true
  is_closed = ap is_quarantined closed

  first : (os : List (Option WriteRefusal)) → first_of (then_some (is_quarantined s.mode) writes.Quarantined ∷ os) ≡ Some writes.Quarantined
  first os = first_met (is_quarantined s.mode) writes.Quarantined os is_closed

  no_write : (what : Write) → write_refusal s what ≡ Some writes.Quarantined
  no_write (AddObject guid class parent text values) = first _
  no_write (Modify guid values) = first _
  no_write (Rename guid parent text) = first _
  no_write (Delete guid) = first _
  no_write (AddLink from attr to) = met_before (any_link_refusal s from attr to (λ linked. then_some linked writes.LinkThere)) writes.Quarantined _ (first _)
  no_write (RemoveLink from attr to) = first _
  no_write (Revive image guid parent text) = first _

  pub refuses_all : RefusesAll s
  refuses_all = record {
    no_write = λ what now. ap (λ o. unless o (own_change s (items_written s what now))) (no_write what);
    no_serve = λ q now. ap (λ o. unless o (reply_to s q now)) (first_met (is_quarantined s.mode) serves.Quarantined _ is_closed);
    no_take = λ r. ap (λ o. unless o (taken_change s r (take_items s r.items))) (first_met (is_quarantined s.mode) takes.Quarantined _ is_closed);
    no_collection = λ now lifetime.
        ap (λ o. unless o (collection s (deaths_to_collect s now lifetime))) (first_met (is_quarantined s.mode) collects.Quarantined _ is_closed);
    no_upgrade = ap (λ o. unless o (upgraded s)) (first_met (is_quarantined s.mode) upgrades.Quarantined _ is_closed);
    no_image = ap (λ b. if b then None else Some s.store) is_closed;
  }

pub refused : QuarantinedRefusesAll
refused s closed = refuses_all s closed
