-- The change that a client's call makes is its change.
use Rattle.std.proofs.Common.{◌≡◌, ◌∙◌, refl, sym, ℕ, Some, Result, Ok, Err}
use Rattle.adr_call.specs.declared.call.Call.{Call as Asked}
use Rattle.adr_call.specs.declared.call.Call.TheVariants as calls
use Rattle.adr_call.specs.declared.refusal.WriteRefusal.{WriteRefusal}
use Rattle.adr_call.specs.declared.refusal.CollectRefusal.{CollectRefusal}
use Rattle.adr_call.specs.declared.refusal.UpgradeRefusal.{UpgradeRefusal}
use Rattle.adr_model.specs.Store.{State}
use Rattle.adr_model.specs.Change.{Change}
use Rattle.adr_model.specs.Write.{write, write_meant}
use Rattle.adr_model.specs.Collect.{collect}
use Rattle.adr_model.specs.Upgrade.{upgrade}
use Rattle.adr_model.specs.Replica.{Call, ToWrite, ToTake, ToCollect, ToUpgrade, ToQuarantine, change_in, change_of}
use Rattle.adr_model.specs.Client.{call_meant, changed_over, collected, done, written}

of_written : (t : Result Change WriteRefusal) → (written t).1 ≡ change_in t
of_written (Ok c) = refl
of_written (Err x) = refl

of_collected : (t : Result Change CollectRefusal) → (collected t).1 ≡ change_in t
of_collected (Ok c) = refl
of_collected (Err x) = refl

of_changed_over : (t : Result Change UpgradeRefusal) → (changed_over t).1 ≡ change_in t
of_changed_over (Ok c) = refl
of_changed_over (Err x) = refl

pub done_change : (s : State) (what : Asked) (now : ℕ) → (done s (call_meant what now)).1 ≡ change_of s (call_meant what now)
done_change s (calls.Write what) now = of_written (write s (write_meant what) now)
done_change s (calls.Collect lifetime) now = of_collected (collect s now lifetime)
done_change s calls.Upgrade now = of_changed_over (upgrade s)

pub done_changes : (s : State) (call : Call) (c : Change) → (done s call).1 ≡ Some c → change_of s call ≡ Some c
done_changes s (ToWrite what now) c e = sym (of_written (write s what now)) ∙ e
done_changes s (ToCollect now lifetime) c e = sym (of_collected (collect s now lifetime)) ∙ e
done_changes s ToUpgrade c e = sym (of_changed_over (upgrade s)) ∙ e
done_changes s (ToTake reply) c e = absurd (cc e)
done_changes s ToQuarantine c e = absurd (cc e)
