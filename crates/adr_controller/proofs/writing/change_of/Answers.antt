use Rattle.std.proofs.Common.{◌≡◌, sym, subst, ℕ, Result, Ok, Err}
use Rattle.std.specs.Prelude.{IfOk, IsErrOf}
use Rattle.adr_values.specs.declared.failure.Failure.{Failure}
use Rattle.adr_values.specs.declared.failure.Failure.TheVariants as failures
use Rattle.adr_call.specs.declared.refusal.WriteRefusal.{WriteRefusal}
use Rattle.adr_call.specs.declared.write.Write.{Write}
use Rattle.adr_model.specs.Store.{State}
use Rattle.adr_model.specs.Change.{Change}
use Rattle.adr_model.specs.Write.{write, write_meant}
use Rattle.adr_controller.proofs.writing.change_of.Goals as goal

-- the two clauses, by the write
abbrev Makes : State → ℕ → Result Change (Failure WriteRefusal) → Write → Type 0
Makes s now result what = IfOk result (λ change. write s (write_meant what) now ≡ Ok change)

abbrev Refuses : State → ℕ → Result Change (Failure WriteRefusal) → Write → Type 0
Refuses s now result what = (refusal : WriteRefusal) → IsErrOf result (failures.Refused refusal) → write s (write_meant what) now ≡ Err refusal

pub returns-in-Add-clause-ok : goal.returns-in-Add-clause-ok
returns-in-Add-clause-ok c = subst (Makes c.args.state.now c.args.now c.add.result) (sym c.in-Add.is) c.add.ensures.ok

pub returns-in-Add-clause-refused : goal.returns-in-Add-clause-refused
returns-in-Add-clause-refused c = subst (Refuses c.args.state.now c.args.now c.add.result) (sym c.in-Add.is) c.add.ensures.refused

pub returns-in-Modify-clause-ok : goal.returns-in-Modify-clause-ok
returns-in-Modify-clause-ok c = subst (Makes c.args.state.now c.args.now c.modify.result) (sym c.in-Modify.is) c.modify.ensures.ok

pub returns-in-Modify-clause-refused : goal.returns-in-Modify-clause-refused
returns-in-Modify-clause-refused c = subst (Refuses c.args.state.now c.args.now c.modify.result) (sym c.in-Modify.is) c.modify.ensures.refused

pub returns-in-Rename-clause-ok : goal.returns-in-Rename-clause-ok
returns-in-Rename-clause-ok c = subst (Makes c.args.state.now c.args.now c.rename.result) (sym c.in-Rename.is) c.rename.ensures.ok

pub returns-in-Rename-clause-refused : goal.returns-in-Rename-clause-refused
returns-in-Rename-clause-refused c = subst (Refuses c.args.state.now c.args.now c.rename.result) (sym c.in-Rename.is) c.rename.ensures.refused

pub returns-in-Delete-clause-ok : goal.returns-in-Delete-clause-ok
returns-in-Delete-clause-ok c = subst (Makes c.args.state.now c.args.now c.delete.result) (sym c.in-Delete.is) c.delete.ensures.ok

pub returns-in-Delete-clause-refused : goal.returns-in-Delete-clause-refused
returns-in-Delete-clause-refused c = subst (Refuses c.args.state.now c.args.now c.delete.result) (sym c.in-Delete.is) c.delete.ensures.refused

pub returns-in-Link-clause-ok : goal.returns-in-Link-clause-ok
returns-in-Link-clause-ok c = subst (Makes c.args.state.now c.args.now c.link.result) (sym c.in-Link.is) c.link.ensures.ok

pub returns-in-Link-clause-refused : goal.returns-in-Link-clause-refused
returns-in-Link-clause-refused c = subst (Refuses c.args.state.now c.args.now c.link.result) (sym c.in-Link.is) c.link.ensures.refused

pub returns-in-Unlink-clause-ok : goal.returns-in-Unlink-clause-ok
returns-in-Unlink-clause-ok c = subst (Makes c.args.state.now c.args.now c.unlink.result) (sym c.in-Unlink.is) c.unlink.ensures.ok

pub returns-in-Unlink-clause-refused : goal.returns-in-Unlink-clause-refused
returns-in-Unlink-clause-refused c = subst (Refuses c.args.state.now c.args.now c.unlink.result) (sym c.in-Unlink.is) c.unlink.ensures.refused
