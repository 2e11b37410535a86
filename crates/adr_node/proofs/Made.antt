-- A controller was made on a disk, or not.
use Rattle.std.proofs.Common.{◌≡◌, ◌⊎◌, ◌<◌, ◌≤◌, ⊎_elim, inl, inr, refl, sym, ap, ◌∙◌, subst, ℕ, List, [], ◌↔◌, Option, Some, None, IfSome, IsSome, Ok, Err, Result, arith}
use Rattle.std.specs.Option.{option_map}
use Rattle.adr_disk.specs.Disk.{Among, Keeps, LeavesOnly}
use Rattle.adr_disk.specs.declared.disk.Disk.{Ghosts as DiskGhosts}
use Rattle.adr_io.specs.declared.Sink.{Ghosts as SinkGhosts}
use Rattle.adr_model.specs.Store.{State, empty_state}
use Rattle.adr_law_journal.specs.Areas.{Started, start_of}
use Rattle.adr_records.specs.Head.{area_at, front_at}
use Rattle.adr_records.specs.Body.{following_in}
use Rattle.adr_node.specs.Seen.{FindsAsBefore, Mirrors, Untouched, of_disk}
use Rattle.adr_node.specs.Formats.{EndsFormat}
use Rattle.adr_model.specs.Update.{Identifier}
use Rattle.adr_node.specs.Makes.{Adopts, BeforeOrBegun, Begins, HasNone, IsVerdict, LeavesRefused, MadeOn, Makes, SeesFirst, TellsVerdict, Verdict, verdict_of}
use Rattle.adr_node.specs.declared.ended.Creation.{Creation}
use Rattle.adr_node.specs.declared.ended.Creation.TheVariants as installs
use Rattle.adr_node.specs.declared.ended.Refusal.{Refusal}
use Rattle.adr_node.specs.declared.ended.Refusal.TheVariants.{NotEmpty, Image, Adoption, Full}
use Rattle.adr_node.specs.declared.making.Unmade.{Unmade}
use Rattle.adr_node.specs.declared.making.Unmade.TheVariants as unmade
use Rattle.adr_node.proofs.Formatted.{always, as_told, if_weaker, is_left}
use Rattle.adr_node.proofs.Mirrored.{as_before_twice, kept, kept_as_before, kept_leaves, leaves_over}

module _ {D : Type 0} (d : DiskGhosts D) (only_now : (disk : D) (bytes : List ℕ) → d.left_since disk (d.moment disk) bytes → d.may_leave disk bytes) (comes : Verdict → Type 0) (untaken : Type 0) (old mid : D)
    (keeps : Keeps d.content d.may_leave d.moment d.left_since old mid) (later : d.faults old ≤ d.faults mid) where
  same_told : (of_disk d).told mid ≡ (of_disk d).told old
  same_told = ap (option_map (start_of front_at area_at following_in)) keeps.content_stays

  untouched : Untouched d old mid
  untouched = kept d old mid keeps later

  as_before : FindsAsBefore (of_disk d) old mid
  as_before = kept_as_before d only_now old mid keeps

  leaves_refused : (why : Refusal) → LeavesRefused d old mid why
  leaves_refused NotEmpty = untouched
  leaves_refused (Image why) = untouched
  leaves_refused (Adoption why) = untouched
  leaves_refused Full = as_before

  pub not_begun : Begins (of_disk d) None old mid
  not_begun = record {
    later = later;
    still_told = as_told ((of_disk d).told old) ((of_disk d).told mid) same_told;
    any_moment = always ((of_disk d).told old) (kept_leaves d only_now old mid keeps);
    left = always ((of_disk d).told old) (is_left d old mid keeps.no_more);
  }

  -- where the disk had nothing, or nothing was taken
  refused_first : (why : Refusal) → (HasNone d old × (unmade.Refused why ≡ unmade.Refused NotEmpty → ⊥)) ⊎ untaken → SeesFirst d untaken old (Some (Err why))
  refused_first why first = ⊎_elim (λ seen. inl (seen.0, λ is. seen.1 (cc is))) inr first

  none_first : (e : Unmade) → (HasNone d old × (e ≡ unmade.Refused NotEmpty → ⊥)) ⊎ untaken → SeesFirst d untaken old None
  none_first e first = ⊎_elim (λ seen. inl (seen.0, λ is. absurd (cc is))) inr first

  -- the command ended before anything was to be written to the disk
  pub unmade_on : {T : Type 0} (e : Unmade) → ((why : Refusal) → e ≡ unmade.Refused why → IsVerdict d comes old (Err why)) → (HasNone d old × (e ≡ unmade.Refused NotEmpty → ⊥)) ⊎ untaken → (e ≡ unmade.DiskFault → d.faults old < d.faults mid)
      → MadeOn d comes untaken old mid (let how : Result T Unmade = Err e in how)
  unmade_on (unmade.Refused why) refused first fault =
      record { state = empty_state [] []; is_so = refused why refl; sees_first = refused_first why first; leaves = leaves_refused why; disk_fault = λ is. absurd (cc is); stays = λ none passed. as_before; begun = None; comes_so = tt; on_empty = tt; begins = not_begun; unbegun = λ is. untouched }
  unmade_on unmade.ReadFault refused first fault =
      record { state = empty_state [] []; is_so = tt; sees_first = none_first unmade.ReadFault first; leaves = tt; disk_fault = λ is. absurd (cc is); stays = λ none passed. as_before; begun = None; comes_so = tt; on_empty = tt; begins = not_begun; unbegun = λ is. untouched }
  unmade_on unmade.DiskFault refused first fault =
      record { state = empty_state [] []; is_so = tt; sees_first = none_first unmade.DiskFault first; leaves = tt; disk_fault = λ is. fault refl; stays = λ none passed. as_before; begun = None; comes_so = tt; on_empty = tt; begins = not_begun; unbegun = λ is. untouched }
  unmade_on unmade.FreshFault refused first fault =
      record { state = empty_state [] []; is_so = tt; sees_first = none_first unmade.FreshFault first; leaves = tt; disk_fault = λ is. absurd (cc is); stays = λ none passed. as_before; begun = None; comes_so = tt; on_empty = tt; begins = not_begun; unbegun = λ is. untouched }
  unmade_on unmade.NoMemory refused first fault =
      record { state = empty_state [] []; is_so = tt; sees_first = none_first unmade.NoMemory first; leaves = tt; disk_fault = λ is. absurd (cc is); stays = λ none passed. as_before; begun = None; comes_so = tt; on_empty = tt; begins = not_begun; unbegun = λ is. untouched }

  module _ (new : D) (s : State) (none : HasNone d old) (is : comes (Ok s)) (b : Begins (of_disk d) (Some s) mid new) where
    before_mid : Among (BeforeOrBegun (of_disk d) old (Some s)) (BeforeOrBegun (of_disk d) mid (Some s))
    before_mid f may = ⊎_elim (λ left. inl (is_left d old mid keeps.no_more f left)) inr may

    begun_behind : Begins (of_disk d) (Some s) old new
    begun_behind =
        let first : Mirrors (of_disk d) old (of_disk d) mid = kept d old mid keeps later in
        let last : Mirrors (of_disk d) new (of_disk d) new = record { content = refl; told = refl; left = λ f l. l; since = λ t f l. l; moment = refl; faults = omega arith } in
        record {
          later = omega (arith, later, b.later);
          still_told = subst (λ (o : Option (Started State)). IsSome ((of_disk d).told new) ↔ IsSome o) same_told b.still_told;
          any_moment =
              subst (λ (o : Option (Started State)). IfSome o (λ _. LeavesOnly d.moment (of_disk d).left_since old new (BeforeOrBegun (of_disk d) old (Some s)))) same_told
              (if_weaker ((of_disk d).told mid) _ _ (λ t leaves. leaves_over (of_disk d) (of_disk d) old new mid new first last (BeforeOrBegun (of_disk d) mid (Some s)) (BeforeOrBegun (of_disk d) old (Some s)) before_mid leaves) b.any_moment);
          left =
              subst (λ (o : Option (Started State)). IfSome o (λ _. Among (BeforeOrBegun (of_disk d) old (Some s)) ((of_disk d).may_leave new))) same_told
              (if_weaker ((of_disk d).told mid) _ _ (λ t among f left. before_mid f (among f left)) b.left);
        }

    -- the state was begun to be written
    pub made_on : {T : Type 0} (how : Result T Unmade) → EndsFormat (of_disk d) s mid new how → MadeOn d comes untaken old new how
    made_on (Ok done) ends = record { state = s; is_so = (none, is, ends.0); sees_first = inl (none, λ e. absurd (cc e)); leaves = ends.1; disk_fault = λ e. absurd (cc e); stays = λ none passed. absurd (cc none); begun = Some s; comes_so = is; on_empty = none; begins = begun_behind; unbegun = λ e. absurd (cc e) }
    made_on (Err (unmade.Refused Full)) ends =
        record { state = s; is_so = (none, (s, is, ends.0)); sees_first = inl (none, λ e. absurd (cc e)); leaves = as_before_twice (of_disk d) old mid new as_before ends.1; disk_fault = λ e. absurd (cc e); stays = λ none passed. as_before_twice (of_disk d) old mid new as_before ends.1; begun = Some s; comes_so = is; on_empty = none; begins = begun_behind; unbegun = λ e. absurd (cc e) }
    made_on (Err (unmade.Refused NotEmpty)) ends = absurd ends
    made_on (Err (unmade.Refused (Image why))) ends = absurd ends
    made_on (Err (unmade.Refused (Adoption why))) ends = absurd ends
    made_on (Err unmade.ReadFault) ends = absurd ends
    made_on (Err unmade.DiskFault) ends = record { state = s; is_so = tt; sees_first = inl (none, λ e. absurd (cc e)); leaves = tt; disk_fault = λ e. omega (arith, later, ends); stays = λ none passed. absurd (passed refl); begun = Some s; comes_so = is; on_empty = none; begins = begun_behind; unbegun = λ e. absurd (cc e) }
    made_on (Err unmade.FreshFault) ends = absurd ends
    made_on (Err unmade.NoMemory) ends = record { state = s; is_so = tt; sees_first = inl (none, λ e. absurd (cc e)); leaves = tt; disk_fault = λ e. absurd (cc e); stays = λ none passed. as_before_twice (of_disk d) old mid new as_before ends; begun = Some s; comes_so = is; on_empty = none; begins = begun_behind; unbegun = λ e. absurd (cc e) }

-- the disk had bytes
pub found_full : {D : Type 0} (d : DiskGhosts D) (comes : Verdict → Type 0) (old : D) (e : Unmade) (why : Refusal) → e ≡ unmade.Refused why
    → (e ≡ unmade.Refused NotEmpty) ⊎ ((e ≡ unmade.DiskFault) ⊎ (e ≡ unmade.NoMemory)) → (e ≡ unmade.Refused NotEmpty → IfSome (d.content old) (λ bytes. bytes ≡ [] → ⊥)) → IsVerdict d comes old (Err why)
found_full d comes old e why is which full =
    let same : NotEmpty ≡ why = ⊎_elim (λ (n : e ≡ unmade.Refused NotEmpty). cc (n, is)) (λ rest. ⊎_elim (λ (f : e ≡ unmade.DiskFault). cc (f, is)) (λ (m : e ≡ unmade.NoMemory). cc (m, is)) rest) which in
    subst (λ (r : Refusal). IsVerdict d comes old (Err r)) same (full (is ∙ ap (λ (r : Refusal). unmade.Refused r) (sym same)))

-- the image couldn't be read or adopted
pub refused_so : {D : Type 0} (d : DiskGhosts D) (given : Option Identifier) (text : Option (List ℕ)) (before after : Option (List Identifier)) (old : D) (why : Refusal) → HasNone d old
    → Adopts given text before after (Err why) → IsVerdict d (Adopts given text before after) old (Err why)
refused_so d given text before after old NotEmpty none comes = absurd comes
refused_so d given text before after old Full none comes = absurd comes
refused_so d given text before after old (Image why) none comes = (none, comes)
refused_so d given text before after old (Adoption why) none comes = (none, comes)

-- and its line was written
pub makes_told : {D K T : Type 0} (d : DiskGhosts D) (k : SinkGhosts K) (comes : Verdict → Type 0) (untaken : Type 0) (verb name : List ℕ) (old new : D) (before after : K) (made : Result T Unmade) (how : Creation)
    → MadeOn d comes untaken old new made → ((s : State) → TellsVerdict k verb name (verdict_of s made) before after how) → (how ≡ installs.DiskFault → made ≡ Err unmade.DiskFault) → (made ≡ Err unmade.DiskFault → how ≡ installs.DiskFault) → Makes d k comes untaken verb name old new before after how
makes_told d k comes untaken verb name old new before after made how m tells fault faulty = record {
  verdict = verdict_of m.state made;
  is_so = m.is_so;
  sees_first = m.sees_first;
  tells = tells m.state;
  leaves = m.leaves;
  disk_fault = λ is. m.disk_fault (fault is);
  stays = λ none passed. m.stays none (λ is. passed (faulty is));
  begun = m.begun;
  comes_so = m.comes_so;
  on_empty = m.on_empty;
  begins = m.begins;
  unbegun = m.unbegun;
}
