-- What a call of a folder in memory changes.
use Rattle.std.proofs.Common.{◌≡◌, ℕ, ◌-◌, ◌≤◌, ◌<◌, min, take, ◌⊎◌, inl, inr, ⊎_elim, Bool, true, false, List, [], ◌∷◌, ◌++◌, length, drop, Option, Some, None, IsSome, refl, sym, ap, subst, ◌∙◌, arith, length-append}
use Rattle.std.proofs.lemmas.Bool.{cases_lt}
use Rattle.std.proofs.lemmas.List.{drop-append-le}
use Rattle.std.specs.Prelude.{Result, Ok, Err, OnOk, OnErr}
use Rattle.std.specs.Option.{ForSome}
use Rattle.adr_disk.proofs.Told.{some_is}
use Rattle.adr_file.proofs.Turns.{torn_same}
use Rattle.adr_disk.specs.Disk.{put, Among}
use Rattle.adr_disk.proofs.Bytes.{Torn-same, Torn-put}
use Rattle.adr_file.specs.Device.{ReadsAt, bytes_of, Behind, Made, TornFile, Changes}
use Rattle.adr_test_folder.specs.Kept.{Kept, FolderState, file_of, some_if, IsLeft, IsLeftByOne, IsLeftSince}

by_one_push : (ks : List Kept) (k : Kept) (left : Option (List ℕ)) → IsLeftByOne (ks ++ k ∷ []) left → IsLeftByOne ks left ⊎ IsLeft k left
by_one_push [] k left (inl now) = inr now
by_one_push [] k left (inr none) = absurd none
by_one_push (x ∷ ks) k left (inl now) = inl (inl now)
by_one_push (x ∷ ks) k left (inr had) = ⊎_elim (λ past. inl (inr past)) inr (by_one_push ks k left had)

by_one_last : (ks : List Kept) (k : Kept) (left : Option (List ℕ)) → IsLeft k left → IsLeftByOne (ks ++ k ∷ []) left
by_one_last [] k left now = inl now
by_one_last (x ∷ ks) k left now = inr (by_one_last ks k left now)

by_one_kept : (ks : List Kept) (k : Kept) (left : Option (List ℕ)) → IsLeftByOne ks left → IsLeftByOne (ks ++ k ∷ []) left
by_one_kept [] k left had = absurd had
by_one_kept (x ∷ ks) k left (inl now) = inl now
by_one_kept (x ∷ ks) k left (inr had) = inr (by_one_kept ks k left had)

abbrev pub ChangesFolder : FolderState → FolderState → (Option (List ℕ) → Type 0) → Type 0
ChangesFolder old new outcomes = Changes (λ (s : FolderState). Some (file_of s.kept)) (λ (s : FolderState). IsLeft s.kept) (λ (s : FolderState). length s.past) IsLeftSince old new outcomes

-- a moment that has passed
pub changed : (old new : FolderState) (outcomes : Option (List ℕ) → Type 0) → new.past ≡ old.past ++ old.kept ∷ [] → Among outcomes (IsLeft new.kept) → ChangesFolder old new outcomes
changed old new outcomes is crash = record {
  told = (λ _. refl, λ _. refl);
  crash = crash;
  time = record {
    later = omega (arith, ap length is, length-append old.past (old.kept ∷ []));
    nothing_else = λ t left le had. ⊎_elim
        (λ now. inr (crash left now))
        (λ past. inl (⊎_elim inr inl (by_one_push (drop t old.past) old.kept left (subst (λ (ks : List Kept). IsLeftByOne ks left) (ap (drop t) is ∙ drop-append-le t old.past (old.kept ∷ []) le) past))))
        had;
    keeps = λ t left le had. inr (subst (λ (ks : List Kept). IsLeftByOne ks left) (sym (ap (drop t) is ∙ drop-append-le t old.past (old.kept ∷ []) le))
        (⊎_elim (by_one_last (drop t old.past) old.kept left) (by_one_kept (drop t old.past) old.kept left) had));
  };
}

-- and none
pub unchanged : (old new : FolderState) (outcomes : Option (List ℕ) → Type 0) → new.kept ≡ old.kept → new.past ≡ old.past → Among outcomes (IsLeft old.kept) → ChangesFolder old new outcomes
unchanged old new outcomes kept past crash = record {
  told = (λ _. refl, λ _. refl);
  crash = λ left now. crash left (subst (λ (k : Kept). IsLeft k left) kept now);
  time = record {
    later = omega (arith, ap length past);
    nothing_else = λ t left le had. inl (⊎_elim (λ now. inl (subst (λ (k : Kept). IsLeft k left) kept now)) (λ was. inr (subst (λ (ks : List Kept). IsLeftByOne (drop t ks) left) past was)) had);
    keeps = λ t left le had. ⊎_elim (λ now. inl (subst (λ (k : Kept). IsLeft k left) (sym kept) now)) (λ was. inr (subst (λ (ks : List Kept). IsLeftByOne (drop t ks) left) (sym past) was)) had;
  };
}

-- ---- what each call leaves

pub not_made : (outcomes : Option (List ℕ) → Type 0) → Among (Behind Made outcomes) outcomes
not_made outcomes = λ left out. (left, out, inl refl)

pub not_torn : (at n : ℕ) (outcomes : Option (List ℕ) → Type 0) → Among (Behind (TornFile at n) outcomes) outcomes
not_torn at n outcomes = λ left out. (left, out, torn_same at n left)

pub made_leaves : (k : Kept) → k.is_there ≡ false → Among (Behind Made (IsLeft k)) (IsLeft (record { is_there = true; is_named = false; synced = []; bytes = [] }))
made_leaves k none = λ left out. (None, inl (inr none, refl), ⊎_elim (λ (n : ((false ≡ false) ⊎ (true ≡ false)) × (left ≡ None)). inl n.1) (λ (s : (true ≡ true) × ((left ≡ Some []) ⊎ (left ≡ Some []))). ⊎_elim (λ (is : left ≡ Some []). inr (refl, is)) (λ (is : left ≡ Some []). inr (refl, is)) s.1) out)

pub torn_leaves : (k : Kept) (at : ℕ) (bytes : List ℕ) → Among (Behind (TornFile at (length bytes)) (IsLeft k)) (IsLeft (record k { bytes = put k.bytes at bytes }))
torn_leaves k at bytes = λ left out. ⊎_elim
    (λ (n : ((k.is_named ≡ false) ⊎ (k.is_there ≡ false)) × (left ≡ None)). (None, inl (n.0, refl), n.1))
    (λ (s : (k.is_there ≡ true) × ((left ≡ Some k.synced) ⊎ (left ≡ Some (put k.bytes at bytes)))). ⊎_elim
    (λ (is : left ≡ Some k.synced). (Some k.synced, inr (s.0, inl refl), (k.synced, is, Torn-same at (length bytes) k.synced)))
    (λ (is : left ≡ Some (put k.bytes at bytes)). (Some k.bytes, inr (s.0, inr refl), (put k.bytes at bytes, is, Torn-put k.bytes at (length bytes) bytes refl)))
    s.1)
    out

pub synced_leaves : (k : Kept) → Among (IsLeft k) (IsLeft (record k { synced = k.bytes }))
synced_leaves k = λ left out. ⊎_elim inl (λ (s : (k.is_there ≡ true) × ((left ≡ Some k.bytes) ⊎ (left ≡ Some k.bytes))). inr (s.0, ⊎_elim inr inr s.1)) out

pub named_leaves : (k : Kept) → Among (IsLeft k) (IsLeft (record k { is_named = k.is_there }))
named_leaves k = λ left out. ⊎_elim (λ (n : ((k.is_there ≡ false) ⊎ (k.is_there ≡ false)) × (left ≡ None)). inl (⊎_elim inr inr n.0, n.1)) inr out

-- ---- a call that passes, with the moment before it behind, or fails and changes nothing

pub passed_on : {T E : Type 0} (r : Result T E) (old new next : FolderState) (outcomes : Option (List ℕ) → Type 0) → OnOk r (new ≡ next) → OnErr r (new ≡ old) → next.past ≡ old.past ++ old.kept ∷ []
    → Among outcomes (IsLeft next.kept) → Among outcomes (IsLeft old.kept) → ChangesFolder old new outcomes
passed_on (Ok x) old new next outcomes ok err past crash same = subst (λ (s : FolderState). ChangesFolder old s outcomes) (sym ok) (changed old next outcomes past crash)
passed_on (Err e) old new next outcomes ok err past crash same = unchanged old new outcomes (ap (λ (s : FolderState). s.kept) err) (ap (λ (s : FolderState). s.past) err) same

pub for_some : {A : Type 0} (x : A) (P : A → Type 0) → P x → ForSome (Some x) P
for_some x P holds = λ y is. subst P (some_is x y is) holds

by_there : (is_there : Bool) (bytes : List ℕ) → is_there ≡ true → some_if is_there bytes ≡ Some bytes
by_there true bytes is = refl
by_there false bytes is = absurd (cc is)

pub file_there : (k : Kept) → k.is_there ≡ true → file_of k ≡ Some k.bytes
file_there k is = by_there k.is_there k.bytes is

some_there : (is_there : Bool) (bytes : List ℕ) → IsSome (some_if is_there bytes) → is_there ≡ true
some_there true bytes some = refl
some_there false bytes some = absurd (cc some)

pub is_there : (k : Kept) → IsSome (file_of k) → k.is_there ≡ true
is_there k some = some_there k.is_there k.bytes some

torn_put : (is_there : Bool) (old bytes : List ℕ) (at : ℕ) → TornFile at (length bytes) (some_if is_there old) (some_if is_there (put old at bytes))
torn_put true old bytes at = (put old at bytes, refl, Torn-put old at (length bytes) bytes refl)
torn_put false old bytes at = refl

pub write_torn : {T E : Type 0} (r : Result T E) (old new : FolderState) (at : ℕ) (bytes : List ℕ) → OnOk r (new.kept ≡ record old.kept { bytes = put old.kept.bytes at bytes }) → OnErr r (new ≡ old)
    → TornFile at (length bytes) (file_of old.kept) (file_of new.kept)
write_torn (Ok x) old new at bytes ok err = subst (λ (k : Kept). TornFile at (length bytes) (file_of old.kept) (file_of k)) (sym ok) (torn_put old.kept.is_there old.kept.bytes bytes at)
write_torn (Err e) old new at bytes ok err = subst (λ (s : FolderState). TornFile at (length bytes) (file_of old.kept) (file_of s.kept)) (sym err) (torn_same at (length bytes) (file_of old.kept))

pub write_whole : (old mid new : FolderState) (at : ℕ) (bytes : List ℕ) → mid ≡ old → old.kept.is_there ≡ true → new.kept ≡ record mid.kept { bytes = put mid.kept.bytes at bytes } → Some (file_of new.kept) ≡ Some (Some (put (bytes_of (file_of old.kept)) at bytes))
write_whole old mid new at bytes same there is =
    let now : new.kept ≡ record old.kept { bytes = put old.kept.bytes at bytes } = is ∙ ap (λ (s : FolderState). record s.kept { bytes = put s.kept.bytes at bytes }) same in
    ap Some (ap file_of now ∙ by_there old.kept.is_there (put old.kept.bytes at bytes) there ∙ ap (λ (f : Option (List ℕ)). Some (put (bytes_of f) at bytes)) (sym (file_there old.kept there)))

ends : (room all at n : ℕ) → n ≡ min room (all - at) → n ≡ 0 → (room ≡ 0) ⊎ (all ≤ at)
ends room all at n count none = ⊎_elim (λ (lt : at < all). inl (omega arith)) inr (cases_lt at all)

pub reads_at : (k : Kept) (bytes : List ℕ) (at : ℕ) (old new : List ℕ) (n : ℕ) → k.is_there ≡ true → bytes ≡ k.bytes → length new ≡ length old → n ≡ min (length old) (length bytes - at) → take n new ≡ take n (drop at bytes) → ReadsAt (bytes_of (file_of k)) at new n
reads_at k bytes at old new n there same len count read =
    subst (λ (f : Option (List ℕ)). ReadsAt (bytes_of f) at new n) (sym (file_there k there))
    (subst (λ (b : List ℕ). ReadsAt b at new n) same (record { enough = omega (arith, count); read = read; end = λ none. ends (length new) (length bytes) at n (omega (arith, count, len)) none }))
