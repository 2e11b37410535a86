-- What formatting an empty disk, or a journal over one, with a state leaves.
use Rattle.std.specs.Prelude.{◌≡◌, ◌<◌, ◌≤◌, ◌↔◌, true, false, Result, Ok, Err, IfSome, IsSome}
use Rattle.adr_disk.specs.Disk.{Among, LeavesOnly}
use Rattle.adr_model.specs.Lengths.{area_fits, new_log}
use Rattle.adr_model.specs.Store.{State}
use Rattle.adr_journal.specs.Ended.{IsNewOrNone}
use Rattle.adr_node.specs.Seen.{FindsAsBefore, Seen, StandsNew}
use Rattle.adr_node.specs.declared.ended.Refusal.TheVariants.{NotEmpty, Image, Adoption, Full}
use Rattle.adr_node.specs.declared.making.Unmade.{Unmade}
use Rattle.adr_node.specs.declared.making.Unmade.TheVariants as unmade

-- how it ended
abbrev pub EndsFormat : {D T : Type 0} → Seen D → State → D → D → Result T Unmade → Type 0
EndsFormat d s old new (Ok _) = (area_fits (new_log s) s.store ≡ true) × StandsNew d s new
EndsFormat d s old new (Err (unmade.Refused Full)) = (area_fits (new_log s) s.store ≡ false) × FindsAsBefore d old new
EndsFormat d s old new (Err (unmade.Refused NotEmpty)) = ⊥
EndsFormat d s old new (Err (unmade.Refused (Image why))) = ⊥
EndsFormat d s old new (Err (unmade.Refused (Adoption why))) = ⊥
EndsFormat d s old new (Err unmade.ReadFault) = ⊥
EndsFormat d s old new (Err unmade.DiskFault) = d.faults old < d.faults new
EndsFormat d s old new (Err unmade.FreshFault) = ⊥
EndsFormat d s old new (Err unmade.NoMemory) = FindsAsBefore d old new

-- a crash leaves no log or that of the new state
pub record Formats {D T : Type 0} (d : Seen D) (s : State) (old new : D) (how : Result T Unmade) : Type 0 where
  pub ends : EndsFormat d s old new how
  pub later : d.faults old ≤ d.faults new
  pub still_told : IsSome (d.told new) ↔ IsSome (d.told old)
  pub any_moment : IfSome (d.told old) (λ _. LeavesOnly d.moment d.left_since old new (IsNewOrNone s))
  pub left : IfSome (d.told old) (λ _. Among (IsNewOrNone s) (d.may_leave new))
