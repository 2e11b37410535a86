-- What the line of a verdict says of what was made.
use Rattle.std.proofs.Common.{◌≡◌, inl, inr, refl, sym, ap, subst, ℕ, List, Option, Result, Ok, Err}
use Rattle.adr_io.specs.declared.Sink.{Ghosts as SinkGhosts}
use Rattle.adr_model.specs.Store.{State}
use Rattle.adr_node.specs.Makes.{IsWritten, ReadsSo, TellsVerdict, ended_as, verdict_of}
use Rattle.adr_node.specs.declared.ended.Creation.{Creation}
use Rattle.adr_node.specs.declared.ended.Creation.TheVariants as installs
use Rattle.adr_node.specs.declared.ended.Refusal.{Refusal}
use Rattle.adr_node.specs.declared.ended.Refusal.TheVariants.{NotEmpty, Image, Adoption, Full}
use Rattle.adr_node.specs.declared.making.Unmade.{Unmade}
use Rattle.adr_node.specs.declared.making.Unmade.TheVariants as unmade

-- where a refusal was written, the controller wasn't made for it
pub told_refusal : {K T : Type 0} (k : SinkGhosts K) (verb name : List ℕ) (s : State) (made : Result T Unmade) (before after : K) (how : Creation) (why : Refusal)
    → TellsVerdict k verb name (verdict_of s made) before after how → how ≡ installs.Refused why → made ≡ Err (unmade.Refused why)
told_refusal k verb name s (Ok done) before after how why told is = absurd (cc (is, (told.0 (subst IsWritten (sym is) tt)).0))
told_refusal {K} {T} k verb name s (Err (unmade.Refused because)) before after how why told is =
    let same : because ≡ why = cc (is, (told.0 (subst IsWritten (sym is) tt)).0) in ap (λ (r : Refusal). let e : Result T Unmade = Err (unmade.Refused r) in e) same
told_refusal k verb name s (Err unmade.ReadFault) before after how why told is = absurd (told.1 (subst IsWritten (sym is) tt))
told_refusal k verb name s (Err unmade.DiskFault) before after how why told is = absurd (told.1 (subst IsWritten (sym is) tt))
told_refusal k verb name s (Err unmade.FreshFault) before after how why told is = absurd (told.1 (subst IsWritten (sym is) tt))
told_refusal k verb name s (Err unmade.NoMemory) before after how why told is = absurd (told.1 (subst IsWritten (sym is) tt))

module _ {K T : Type 0} (k : SinkGhosts K) (verb name : List ℕ) (s : State) (before after : K) (left left_now : Option (List ℕ)) where
  -- where the line was written, the command ended by what was made
  written_as : (made : Result T Unmade) (how : Creation) → TellsVerdict k verb name (verdict_of s made) before after how → IsWritten how → how ≡ ended_as made
  written_as (Ok done) how told written = (told.0 written).0
  written_as (Err (unmade.Refused why)) how told written = (told.0 written).0
  written_as (Err unmade.ReadFault) how told written = absurd (told.1 written)
  written_as (Err unmade.DiskFault) how told written = absurd (told.1 written)
  written_as (Err unmade.FreshFault) how told written = absurd (told.1 written)
  written_as (Err unmade.NoMemory) how told written = absurd (told.1 written)

  -- where a write failed, there was a line
  reads_unwritten : (made : Result T Unmade) → TellsVerdict k verb name (verdict_of s made) before after installs.WriteFault → ReadsSo left left_now (ended_as made) → ReadsSo left left_now installs.WriteFault
  reads_unwritten (Ok done) told reads = inl reads
  reads_unwritten (Err (unmade.Refused NotEmpty)) told reads = inr reads
  reads_unwritten (Err (unmade.Refused (Image why))) told reads = inl reads
  reads_unwritten (Err (unmade.Refused (Adoption why))) told reads = inl reads
  reads_unwritten (Err (unmade.Refused Full)) told reads = inl reads
  reads_unwritten (Err unmade.ReadFault) told reads = absurd (told.2 refl)
  reads_unwritten (Err unmade.DiskFault) told reads = absurd (told.2 refl)
  reads_unwritten (Err unmade.FreshFault) told reads = absurd (told.2 refl)
  reads_unwritten (Err unmade.NoMemory) told reads = absurd (told.2 refl)

  -- so much was read, whatever came of the line
  pub reads_told : (made : Result T Unmade) (how : Creation) → TellsVerdict k verb name (verdict_of s made) before after how
      → (how ≡ installs.DiskFault → made ≡ Err unmade.DiskFault) → (how ≡ installs.FreshFault → made ≡ Err unmade.FreshFault)
      → ReadsSo left left_now (ended_as made) → ReadsSo left left_now how
  reads_told made installs.Done told disk fresh reads = subst (λ (h : Creation). ReadsSo left left_now h) (sym (written_as made installs.Done told tt)) reads
  reads_told made (installs.Refused why) told disk fresh reads = subst (λ (h : Creation). ReadsSo left left_now h) (sym (written_as made (installs.Refused why) told tt)) reads
  reads_told made installs.ReadFault told disk fresh reads = tt
  reads_told made installs.WriteFault told disk fresh reads = reads_unwritten made told reads
  reads_told made installs.DiskFault told disk fresh reads = subst (λ (m : Result T Unmade). ReadsSo left left_now (ended_as m)) (disk refl) reads
  reads_told made installs.FreshFault told disk fresh reads = subst (λ (m : Result T Unmade). ReadsSo left left_now (ended_as m)) (fresh refl) reads
  reads_told made installs.NoMemory told disk fresh reads = tt
