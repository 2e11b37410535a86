-- What stays known while nothing is written.
use Rattle.std.proofs.Common.{◌≡◌, ℕ, List, [], Option, Some, None, IsSome, Bool, true, false, refl, sym, ap, subst, ◌∙◌}
use Rattle.std.specs.Prelude.{Result, Ok, Err, OnOk}
use Rattle.std.specs.Option.{ForSome}
use Rattle.adr_disk.specs.Disk.{Among}
use Rattle.adr_file.specs.declared.device.Folder.{Ghosts}
use Rattle.adr_disk.proofs.Told.{some_of, some_is}
use Rattle.adr_file.specs.declared.folder.Identity.{Identity}
use Rattle.adr_file.specs.declared.folder.Found.{Found}
use Rattle.adr_file.specs.Device.{bytes_of, Behind, TornFile, IsFound, IsNamed}
use Rattle.adr_file.specs.Known.{KeepsFile, StaysOpen, IsOwnFile, IsKnown}
use Rattle.adr_file.proofs.Turns.{torn_name, named_torn}

-- what a look finds
pub found_none : (named : Identity) (there : Option (List ℕ)) (found : Option Found) → found ≡ None → IsFound named there found → there ≡ None
found_none named None found none is = refl
found_none named (Some bytes) found none is = absurd (cc (none, is))

pub found_some : (named : Identity) (there : Option (List ℕ)) (found : Option Found) (x : Found) → found ≡ Some x → IsFound named there found → IsSome there × (x.identity ≡ named)
found_some named None found x some is = absurd (cc (some, is))
found_some named (Some bytes) found x some is = (refl, ap (λ (f : Found). f.identity) (some_is x _ (sym some ∙ is)))

pub by_open : (is_open : Bool) (P : Type 0) → (is_open ≡ true → P) → (is_open ≡ false → P) → P
by_open true P here closed = here refl
by_open false P here closed = closed refl

pub given : {T E : Type 0} (r : Result T E) (P : Type 0) → P → OnOk r P
given (Ok x) P p = p
given (Err e) P p = tt

module _ {F : Type 0} (f : Ghosts F) where
  pub keeps_none : (old : F) → KeepsFile f old old
  keeps_none old = record {
    content_stays = refl;
    no_more = λ left out. out;
    no_fewer = λ left out. out;
    moment_stays = refl;
    past_stays = λ t left out. out;
    past_kept = λ t left out. out;
  }

  pub keeps_then : (old mid new : F) → KeepsFile f old mid → KeepsFile f mid new → KeepsFile f old new
  keeps_then old mid new a b = record {
    content_stays = b.content_stays ∙ a.content_stays;
    no_more = λ left out. a.no_more left (b.no_more left out);
    no_fewer = λ left out. b.no_fewer left (a.no_fewer left out);
    moment_stays = b.moment_stays ∙ a.moment_stays;
    past_stays = λ t left out. a.past_stays t left (b.past_stays t left out);
    past_kept = λ t left out. b.past_kept t left (a.past_kept t left out);
  }

  pub stays_none : (old : F) → StaysOpen f old old
  stays_none old = record { named_stays = refl; opened_stays = refl; sure_stays = λ sure. sure }

  pub stays_then : (old mid new : F) → StaysOpen f old mid → StaysOpen f mid new → StaysOpen f old new
  stays_then old mid new a b = record {
    named_stays = b.named_stays ∙ a.named_stays;
    opened_stays = b.opened_stays ∙ a.opened_stays;
    sure_stays = λ sure. b.sure_stays (a.sure_stays sure);
  }

  -- what holds of the file that is told does so while it stays
  pub told_kept : (old new : F) (P : Option (List ℕ) → Type 0) → f.file new ≡ f.file old → ForSome (f.file old) P → ForSome (f.file new) P
  told_kept old new P same here = λ there is. here there (sym same ∙ is)

  pub own_kept : (old new : F) → f.file new ≡ f.file old → StaysOpen f old new → IsOwnFile f old → IsOwnFile f new
  own_kept old new same s own = λ there is.
      let o = own there (sym same ∙ is) in
      (o.0, s.opened_stays ∙ o.1 ∙ ap Some (sym s.named_stays))

  pub named_kept : (old new : F) → f.file new ≡ f.file old → Among (f.may_leave old) (f.may_leave new) → ForSome (f.file old) (λ there. IsNamed there (f.may_leave old)) → ForSome (f.file new) (λ there. IsNamed there (f.may_leave new))
  named_kept old new same crash named = λ there is left out. named there (sym same ∙ is) left (crash left out)

  pub known_kept : (old new : F) (is_attached is_open is_name_safe : Bool) → KeepsFile f old new → StaysOpen f old new → IsKnown f old is_attached is_open is_name_safe → IsKnown f new is_attached is_open is_name_safe
  known_kept old new is_attached is_open is_name_safe k s known = record {
    own = λ is. own_kept old new k.content_stays s (known.own is);
    sure = λ is. s.sure_stays (known.sure is);
    none = λ attached closed. told_kept old new (λ there. bytes_of there ≡ []) k.content_stays (known.none attached closed);
    named = λ safe. named_kept old new k.content_stays k.no_more (known.named safe);
  }

  -- a sync has made the name safe
  pub known_synced : (old new : F) (is_attached is_open is_name_safe : Bool) → f.file new ≡ f.file old → StaysOpen f old new → ForSome (f.file new) (λ there. IsNamed there (f.may_leave new)) → IsKnown f old is_attached is_open is_name_safe → IsKnown f new is_attached is_open true
  known_synced old new is_attached is_open is_name_safe same s named known = record {
    own = λ is. own_kept old new same s (known.own is);
    sure = λ is. s.sure_stays (known.sure is);
    none = λ attached closed. told_kept old new (λ there. bytes_of there ≡ []) same (known.none attached closed);
    named = λ safe. named;
  }

  -- where no file is open, what is safe stays so
  pub known_closed : (old new : F) (is_attached is_open is_name_safe : Bool) → is_open ≡ false → KeepsFile f old new → (is_name_safe ≡ true → ForSome (f.file old) (λ there. IsNamed there (f.may_leave old)))
      → (is_attached ≡ true → ForSome (f.file new) (λ there. bytes_of there ≡ [])) → IsKnown f new is_attached is_open is_name_safe
  known_closed old new is_attached is_open is_name_safe closed k named none = record {
    own = λ is. absurd (cc (is, closed));
    sure = λ is. absurd (cc (is, closed));
    none = λ attached is. none attached;
    named = λ safe. named_kept old new k.content_stays k.no_more (named safe);
  }

  -- the open file is what a look at the name finds
  pub own_found : (old mid new : F) (which : Identity) (found : Option Found) (x : Found) → found ≡ Some x → KeepsFile f old mid → StaysOpen f old mid → KeepsFile f mid new → StaysOpen f mid new
      → ForSome (f.file old) (λ _. f.opened old ≡ Some which) → ForSome (f.file mid) (λ there. IsFound (f.named mid) there found) → x.identity ≡ which → IsOwnFile f new
  own_found old mid new which found x some keeps stays keeps' stays' opened finds same = λ there is.
      let mid_is : f.file mid ≡ Some there = sym keeps'.content_stays ∙ is in
      let old_is : f.file old ≡ Some there = sym keeps.content_stays ∙ mid_is in
      let x_is = found_some (f.named mid) there found x some (finds there mid_is) in
      (x_is.0, stays'.opened_stays ∙ stays.opened_stays ∙ opened there old_is ∙ ap Some (sym same ∙ x_is.1 ∙ sym stays'.named_stays))

  -- it still is behind a write
  pub own_torn : (old new : F) (at n : ℕ) → (IsSome (f.file new) → IsSome (f.file old)) → ForSome (f.file old) (λ there. ForSome (f.file new) (TornFile at n there)) → StaysOpen f old new → IsOwnFile f old → IsOwnFile f new
  own_torn old new at n told torn s own = λ now is.
      let there = some_of (f.file old) (told (subst IsSome (sym is) refl)) in
      let o = own there.0 there.1 in
      ((torn_name at n there.0 now (torn there.0 there.1 now is)).1 o.0, s.opened_stays ∙ o.1 ∙ ap Some (sym s.named_stays))

  pub named_behind : (old new : F) (at n : ℕ) → (IsSome (f.file new) → IsSome (f.file old)) → ForSome (f.file old) (λ there. ForSome (f.file new) (TornFile at n there)) → Among (Behind (TornFile at n) (f.may_leave old)) (f.may_leave new)
      → ForSome (f.file old) (λ there. IsNamed there (f.may_leave old)) → ForSome (f.file new) (λ there. IsNamed there (f.may_leave new))
  named_behind old new at n told torn crash named = λ now is.
      let there = some_of (f.file old) (told (subst IsSome (sym is) refl)) in
      named_torn at n there.0 now (f.may_leave old) (f.may_leave new) (torn there.0 there.1 now is) crash (named there.0 there.1)
