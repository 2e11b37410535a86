-- What a status says of a command over a disk.
use Rattle.std.proofs.Common.{◌≡◌, ◌<◌, ◌≤◌, ◌∙◌, inl, inr, refl, sym, ℕ, List, Bool, Option, Some, None, arith}
use Rattle.std.specs.Prelude.{IfSome, codes, drop}
use Rattle.adr_disk.specs.Disk.{LeavesOnly}
use Rattle.adr_io.specs.declared.Source.{Ghosts as SourceGhosts}
use Rattle.adr_io.specs.declared.Sink.{Ghosts as SinkGhosts}
use Rattle.adr_disk.specs.declared.disk.Disk.{Ghosts as DiskGhosts}
use Rattle.adr_outside.specs.declared.fresh.Fresh.{Ghosts as FreshGhosts}
use Rattle.adr_law_journal.specs.Areas.{Started}
use Rattle.adr_law_journal.proofs.Told.{same_keeps}
use Rattle.adr_model.specs.Store.{State}
use Rattle.adr_node.specs.Begins.{IsUnbegun}
use Rattle.adr_node.specs.Seen.{of_disk}
use Rattle.adr_node.specs.Looks.{Due, Looks, backup_bytes, due_of, export_bytes, never, refuses_backup, show_bytes}
use Rattle.adr_node.specs.Makes.{Makes, TellsVerdict, Verdict, image_limit}
use Rattle.adr_node.specs.declared.ended.Unbegun.TheVariants as unbegun
use Rattle.adr_node.specs.declared.ended.Looked.{Looked}
use Rattle.adr_node.specs.declared.ended.Looked.TheVariants as looks
use Rattle.adr_node.specs.declared.ended.Creation.{Creation}
use Rattle.adr_node.specs.declared.ended.Creation.TheVariants as makes
use Rattle.adr_node.proofs.Started.{unbegun_looks, wanting}
use Rattle.adr_node.proofs.Mirrored.{kept_leaves}
use Rattle.adr_node.proofs.Formatted.{always}
use Rattle.adr_words.specs.declared.kinds.DiskCommand.{DiskCommand}
use Rattle.adr_words.specs.declared.kinds.DiskCommand.TheVariants.{Create, Install, Restore, Backup, Show, Export}
use Rattle.adr_cmd.specs.OnDisk.{AdoptedSo, AtHand, DoesSo, HasCauses, LooksSo, MakesSo, NewSo, ReadsImage, Untaken, status_of_look, status_of_making}

-- ---- commands that only look: which ending has a status

look_write : (how : Looked) → status_of_look how ≡ 5 → how ≡ looks.WriteFault
look_write looks.WriteFault is = refl
look_write how is = absurd (omega (arith, is))

look_disk : (how : Looked) → status_of_look how ≡ 6 → how ≡ looks.DiskFault
look_disk looks.DiskFault is = refl
look_disk how is = absurd (omega (arith, is))

-- nothing is read
look_unread : (how : Looked) → status_of_look how ≡ 4 → ⊥
look_unread looks.Done is = omega (arith, is)
look_unread how is = omega (arith, is)

-- and nothing drawn
look_undrawn : (how : Looked) → status_of_look how ≡ 13 → ⊥
look_undrawn looks.Done is = omega (arith, is)
look_undrawn how is = omega (arith, is)

pub look_causes : {S K D F : Type 0} {s : SourceGhosts S} {k : SinkGhosts K} {d : DiskGhosts D} {f : FreshGhosts F} {due : Started State → Due} {source : S} {fresh : F}
    {old new : D} {before after : K} {r : ℕ} {how : Looked} → r ≡ status_of_look how → Looks (of_disk d) k due old new before after how
    → HasCauses s k d f (record { source = source; sink = before; disk = old; fresh = fresh }) (record { source = source; sink = after; disk = new; fresh = fresh }) r
look_causes {how = how} is l = record {
  read = λ e. absurd (look_unread how (sym is ∙ e));
  unwritten = λ e. absurd (look_unread how (sym is ∙ e));
  write = λ e. l.tells.write_fault (look_write how (sym is ∙ e));
  disk = λ e. (l.disk_fault (look_disk how (sym is ∙ e))).0;
  draw = λ e. absurd (look_undrawn how (sym is ∙ e));
  source_later = omega arith;
  sink_later = l.tells.later;
  disk_later = l.later;
  fresh_later = omega arith;
}

-- ---- commands that make a controller

making_read : (how : Creation) → status_of_making how ≡ 4 → how ≡ makes.ReadFault
making_read makes.ReadFault is = refl
making_read how is = absurd (omega (arith, is))

making_write : (how : Creation) → status_of_making how ≡ 5 → how ≡ makes.WriteFault
making_write makes.WriteFault is = refl
making_write how is = absurd (omega (arith, is))

making_disk : (how : Creation) → status_of_making how ≡ 6 → how ≡ makes.DiskFault
making_disk makes.DiskFault is = refl
making_disk how is = absurd (omega (arith, is))

making_draw : (how : Creation) → status_of_making how ≡ 13 → how ≡ makes.FreshFault
making_draw makes.FreshFault is = refl
making_draw how is = absurd (omega (arith, is))

module _ {K : Type 0} (k : SinkGhosts K) (verb name : List ℕ) where
  told_write : (verdict : Option Verdict) (before after : K) (how : Creation) → TellsVerdict k verb name verdict before after how → how ≡ makes.WriteFault → k.faults before < k.faults after
  told_write None before after how t e = absurd (t.2 e)
  told_write (Some v) before after how t e = t.2 e

  told_unwritten : (verdict : Option Verdict) (before after : K) (how : Creation) → TellsVerdict k verb name verdict before after how → how ≡ makes.ReadFault → after ≡ before
  told_unwritten None before after how t e = t.0
  told_unwritten (Some v) before after how t e = absurd (t.3 (inl e))

pub making_causes : {S K D F : Type 0} {s : SourceGhosts S} {k : SinkGhosts K} {d : DiskGhosts D} {f : FreshGhosts F} {comes : Verdict → Type 0} {untaken : Type 0} {verb name : List ℕ} {unread left : S}
    {old new : D} {before after : K} {first last : F} {r : ℕ} {how : Creation} → r ≡ status_of_making how → Makes d k comes untaken verb name old new before after how
    → (how ≡ makes.ReadFault → s.faults unread < s.faults left) → s.faults unread ≤ s.faults left → k.faults before ≤ k.faults after
    → (how ≡ makes.FreshFault → f.faults first < f.faults last) → f.faults first ≤ f.faults last
    → HasCauses s k d f (record { source = unread; sink = before; disk = old; fresh = first }) (record { source = left; sink = after; disk = new; fresh = last }) r
making_causes {k = k} {verb = verb} {name = name} {before = before} {after = after} {how = how} is m read source_later sink_later draw fresh_later = record {
  read = λ e. read (making_read how (sym is ∙ e));
  unwritten = λ e. told_unwritten k verb name m.verdict before after how m.tells (making_read how (sym is ∙ e));
  write = λ e. told_write k verb name m.verdict before after how m.tells (making_write how (sym is ∙ e));
  disk = λ e. m.disk_fault (making_disk how (sym is ∙ e));
  draw = λ e. draw (making_draw how (sym is ∙ e));
  source_later = source_later;
  sink_later = sink_later;
  disk_later = m.begins.later;
  fresh_later = fresh_later;
}

-- ---- where memory was wanting before anything was done

-- what a crash leaves from now on, it may leave now
abbrev pub OnlyNow : {D : Type 0} → DiskGhosts D → Type 0
OnlyNow {D} d = (disk : D) (bytes : List ℕ) → d.left_since disk (d.moment disk) bytes → d.may_leave disk bytes

module _ {D : Type 0} (d : DiskGhosts D) (only_now : OnlyNow d) where
  -- what a crash leaves is what it might have left before
  unchanged : (disk : D) → LeavesOnly d.moment (of_disk d).left_since disk disk ((of_disk d).may_leave disk)
  unchanged disk = kept_leaves d only_now disk disk (same_keeps d.content d.may_leave d.moment d.left_since disk)

  -- and no controller was begun with
  pub none_begun : {K : Type 0} (k : SinkGhosts K) (disk : D) (sink : K) → IsUnbegun (of_disk d) k disk disk sink sink unbegun.NoMemory
  none_begun k disk sink =
      wanting (of_disk d) k disk disk sink sink unbegun.NoMemory (inr (refl, (refl, refl))) (omega arith) (λ is. is) (unchanged disk) (λ x left. left) refl

-- nothing was read
pub none_read : (most : ℕ) (left : Option (List ℕ)) → IfSome left (λ text. (n : ℕ) × (n ≤ most) × (left ≡ Some (drop n text)))
none_read most None = tt
none_read most (Some text) = (0, omega arith, refl)

module _ {S K D F : Type 0} (s : SourceGhosts S) (k : SinkGhosts K) (d : DiskGhosts D) (f : FreshGhosts F) (only_now : OnlyNow d) where
  nothing_looked : (refuses : State → Bool) (bytes : State → List ℕ) (at : AtHand S K D F) → LooksSo k d (due_of refuses bytes) at at 8
  nothing_looked refuses bytes at =
      (looks.NoMemory, refl, unbegun_looks (of_disk d) k refuses bytes at.disk at.disk at.sink at.sink unbegun.NoMemory (none_begun d only_now k at.disk at.sink), refl, refl)

  nothing_made : (comes : Verdict → Type 0) (untaken : Type 0) (reads : Creation → Type 0) (verb name : List ℕ) (at : AtHand S K D F) → untaken → reads makes.NoMemory
      → MakesSo k d comes untaken reads verb name at at 8
  nothing_made comes untaken reads verb name at nothing none = record {
    how = makes.NoMemory;
    status_is = refl;
    made =
        record {
          verdict = None;
          is_so = tt;
          sees_first = inr nothing;
          tells = (refl, λ written. written, λ e. absurd (cc e));
          leaves = tt;
          disk_fault = λ e. absurd (cc e);
          stays = λ none passed. record { stays = (refl, refl); any_moment = unchanged d only_now at.disk; left = λ f left. left };
          begun = None;
          comes_so = tt;
          on_empty = tt;
          begins =
              record {
                later = omega arith;
                still_told = (λ is. is, λ is. is);
                any_moment = always ((of_disk d).told at.disk) (unchanged d only_now at.disk);
                left = always ((of_disk d).told at.disk) (λ f left. left);
              };
          unbegun = λ none. record { content = refl; told = refl; left = λ f left. left; since = λ t f left. left; moment = refl; faults = omega arith };
        };
    reads_so = none;
    untouched = λ e. absurd (elim e [ inl e ↦ cc e | inr e ↦ cc e ]);
  }

  pub nothing_done : (command : DiskCommand) (at : AtHand S K D F) → DoesSo s k d f command at at 8
  nothing_done (Create name) at = nothing_made (NewSo f at at) (at.fresh ≡ at.fresh) (λ how. at.source ≡ at.source) (codes "create") name at refl refl
  nothing_done (Install name) at =
      nothing_made (AdoptedSo s f None at at) (Untaken at at) (ReadsImage s at at) (codes "install") name at (refl, refl) (none_read image_limit (s.left at.source), tt)
  nothing_done (Restore name dsa) at =
      nothing_made (AdoptedSo s f (Some dsa) at at) (Untaken at at) (ReadsImage s at at) (codes "restore") name at (refl, refl) (none_read image_limit (s.left at.source), tt)
  nothing_done (Backup name) at = nothing_looked refuses_backup backup_bytes at
  nothing_done (Show name) at = nothing_looked never (show_bytes name) at
  nothing_done (Export name) at = nothing_looked never export_bytes at
