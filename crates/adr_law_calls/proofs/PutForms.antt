-- Rows that a call puts: whence the rows behind them are, and that these stay as the schema wants them and links stay closed.
use Rattle.std.proofs.Common.{◌≡◌, ◌⊎◌, inl, inr, ⊎_elim, ℕ, List, sym, ap, subst}
use Rattle.adr_values.specs.declared.stamp.Unit.{Unit as Named}
use Rattle.adr_values.specs.declared.stamp.Unit.TheVariants.{Object, Link}
use Rattle.adr_values.specs.Numbered.{numbered}
use Rattle.adr_model.specs.Member.{Member}
use Rattle.adr_model.specs.Update.{Update}
use Rattle.adr_model.specs.Reflects.{Numbers}
use Rattle.adr_model.specs.Store.{Held, updates_of}
use Rattle.adr_model.specs.Formed.{AreRising, AreFormedRows}
use Rattle.adr_model.proofs.Members.{mapped_member}
use Rattle.adr_law_calls.specs.Puts.{held_at, under, MayPut, ArePut, AreClosed}
use Rattle.adr_law_calls.proofs.Rows.{updated, held_as}
use Rattle.adr_law_calls.proofs.Formed.{objects_stay_formed, objects_stay_closed}
use Rattle.adr_law_calls.proofs.Links.{links_stay_formed_by_puts, links_stay_closed}
use Rattle.adr_law_calls.specs.KeepForms.{KeepForms}

pub under_usn : (usn : ℕ) (us : List Update) (h : Held) → Member h (under usn us) → Member h.update us × (h.local ≡ usn)
under_usn usn us h m = let t = mapped_member (held_at usn) us h m in
    (subst (λ (x : Held). Member x.update us) (sym t.2) t.1, ap (λ (x : Held). x.local) t.2)

module _ (usn : ℕ) (us : List Update) (before after : List Held) (are : ArePut usn us before after) where
  -- an update that stands is one of those that are put, or stood before
  pub whence : (x : Held) → Member x after → Member x.update us ⊎ Member x.update (updates_of before)
  whence x m = ⊎_elim (λ n. inl (under_usn usn us x n).0) (λ n. inr (updated before x n)) (are.from x m)

  pub whence_update : (u : Update) → Member u (updates_of after) → Member u us ⊎ Member u (updates_of before)
  whence_update u m = let x = held_as after u m in subst (λ v. Member v us ⊎ Member v (updates_of before)) (sym x.2) (whence x.0 x.1)

  pub rows_stay_formed : (schema : ℕ) (V : Numbers) (unit : Named) → AreRising before → AreRising after → AreFormedRows (numbered schema) (updates_of before)
      → MayPut (updates_of before) V unit us → KeepForms (numbered schema) V (updates_of before) unit us → AreFormedRows (numbered schema) (updates_of after)
  rows_stay_formed schema V (Object o) was is formed put keeps = objects_stay_formed schema usn before after V o keeps.0 us was is formed put are keeps.1
  rows_stay_formed schema V (Link l) was is formed put keeps = links_stay_formed_by_puts schema usn before after V l us formed put are keeps.0 (λ o m. (keeps.1 o m).0)

  pub rows_stay_closed : (schema : ℕ) (V : Numbers) (unit : Named) → AreClosed V (updates_of before)
      → MayPut (updates_of before) V unit us → KeepForms (numbered schema) V (updates_of before) unit us → AreClosed V (updates_of after)
  rows_stay_closed schema V (Object o) closed put keeps = objects_stay_closed usn before after V o us closed put are
  rows_stay_closed schema V (Link l) closed put keeps = links_stay_closed usn before after V l us closed put are (λ o m. (keeps.1 o m).1)
