-- A file that is made before it is written, and one that is synced.
use Rattle.std.proofs.Common.{◌≡◌, ℕ, List, Option, Some, None, IsSome, ◌⊎◌, inl, inr, ⊎_elim, refl, sym, subst, ◌∙◌}
use Rattle.std.specs.Option.{ForSome}
use Rattle.adr_disk.specs.Disk.{put, Torn, After, Among, Only}
use Rattle.adr_disk.proofs.Told.{some_of}
use Rattle.adr_file.specs.declared.device.Folder.{Ghosts}
use Rattle.adr_file.specs.Device.{bytes_of, AsBytes, Made, IsNamed}
use Rattle.adr_file.specs.Known.{KeepsFile, IsOwnFile, Turns}
use Rattle.adr_file.proofs.Turns.{turns_then, kept, made_bytes, torn_none, torn_more, only_there, only_none}

module _ {F : Type 0} (f : Ghosts F) where
  pub turns_more : (old new : F) (outcomes more : List ℕ → Type 0) → Turns f old new outcomes → Among more outcomes → Turns f old new more
  turns_more old new outcomes more t among = record {
    told = t.told;
    crash = λ b left. among b (t.crash b left);
    time = record {
      later = t.time.later;
      nothing_else = λ m b le left. ⊎_elim inl (λ out. inr (among b out)) (t.time.nothing_else m b le left);
      keeps = t.time.keeps;
    };
  }

  -- behind calls that keep the file
  pub turns_kept : (old mid new : F) (outcomes : List ℕ → Type 0) → Turns f old mid outcomes → KeepsFile f mid new → Turns f old new outcomes
  turns_kept old mid new outcomes t k = turns_then f old mid new outcomes (AsBytes (f.may_leave mid)) outcomes t (kept f mid new (AsBytes (f.may_leave mid)) (λ b left. left) k) (λ b out. out) t.crash

  -- a file with bytes of the same text
  abbrev pub SameBytes : F → F → Type 0
  SameBytes old new = ForSome (f.file old) (λ there. ForSome (f.file new) (λ now. bytes_of now ≡ bytes_of there))

  pub same_made : (old new : F) → ForSome (f.file old) (λ there. ForSome (f.file new) (Made there)) → SameBytes old new
  same_made old new made = λ there is now now_is. made_bytes there now (made there is now now_is)

  pub same_kept : (old mid new : F) → SameBytes old mid → f.file new ≡ f.file mid → SameBytes old new
  same_kept old mid new same is = λ there there_is now now_is. same there there_is now (sym is ∙ now_is)

  pub for_same : (old new : F) (P : List ℕ → Type 0) → (IsSome (f.file new) → IsSome (f.file old)) → SameBytes old new → ForSome (f.file old) (λ there. P (bytes_of there)) → ForSome (f.file new) (λ now. P (bytes_of now))
  for_same old new P told same holds = λ now is.
      let there = some_of (f.file old) (told (subst IsSome (sym is) refl)) in
      subst P (sym (same there.0 there.1 now is)) (holds there.0 there.1)

  pub written_behind : (old mid new : F) (at : ℕ) (bytes : List ℕ) → (IsSome (f.file old) → IsSome (f.file mid)) → SameBytes old mid
      → ForSome (f.file mid) (λ there. f.file new ≡ Some (Some (put (bytes_of there) at bytes))) → ForSome (f.file old) (λ there. f.file new ≡ Some (Some (put (bytes_of there) at bytes)))
  written_behind old mid new at bytes told same written = λ there is.
      let now = some_of (f.file mid) (told (subst IsSome (sym is) refl)) in
      subst (λ (b : List ℕ). f.file new ≡ Some (Some (put b at bytes))) (same there is now.0 now.1) (written now.0 now.1)

  pub turns_written : (old mid new : F) (at n : ℕ) → Turns f old mid (AsBytes (f.may_leave old)) → Turns f mid new (After (Torn at n) (AsBytes (f.may_leave mid))) → Turns f old new (After (Torn at n) (AsBytes (f.may_leave old)))
  turns_written old mid new at n made wrote =
      turns_then f old mid new (AsBytes (f.may_leave old)) (After (Torn at n) (AsBytes (f.may_leave mid))) (After (Torn at n) (AsBytes (f.may_leave old))) made wrote
      (torn_none at n (AsBytes (f.may_leave old))) (torn_more at n (AsBytes (f.may_leave old)) (AsBytes (f.may_leave mid)) made.crash)

  -- a file that is synced, and then its name
  pub synced_whole : (old mid new : F) → IsOwnFile f old → f.file mid ≡ f.file old → f.file new ≡ f.file mid → Among (f.may_leave mid) (f.may_leave new)
      → ForSome (f.file old) (λ there. (left : Option (List ℕ)) → f.may_leave mid left → (left ≡ None) ⊎ (left ≡ there))
      → ForSome (f.file mid) (λ there. IsNamed there (f.may_leave new)) → ForSome (f.file new) (λ there. Only (bytes_of there) (AsBytes (f.may_leave new)))
  synced_whole old mid new own same then crash synced named = λ there is.
      let mid_is : f.file mid ≡ Some there = sym then ∙ is in
      let old_is : f.file old ≡ Some there = sym same ∙ mid_is in
      only_there there (f.may_leave new) (own there old_is).0 (λ left out. synced there old_is left (crash left out)) (named there mid_is)

  -- what a crash leaves stays while nothing is written
  pub only_kept : (old new : F) → KeepsFile f old new → ForSome (f.file old) (λ there. Only (bytes_of there) (AsBytes (f.may_leave old))) → ForSome (f.file new) (λ there. Only (bytes_of there) (AsBytes (f.may_leave new)))
  only_kept old new k only = λ there is b left. only there (sym k.content_stays ∙ is) b (left.0, k.no_more left.0 left.1, left.2)

  pub only_free : (folder : F) → ForSome (f.file folder) (λ there. there ≡ None) → ForSome (f.file folder) (λ there. IsNamed there (f.may_leave folder)) → ForSome (f.file folder) (λ there. Only (bytes_of there) (AsBytes (f.may_leave folder)))
  only_free folder free named = λ there is. only_none there (f.may_leave folder) (free there is) (named there is)
