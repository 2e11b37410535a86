-- Calls one after another, as bytes.
use Rattle.std.proofs.Common.{◌≡◌, ℕ, ◌⊎◌, inl, inr, ⊎_elim, List, [], Option, Some, None, IsSome, ◌↔◌, refl, sym, ap, subst, ◌∙◌, arith}
use Rattle.std.specs.Prelude.{⊤}
use Rattle.adr_disk.specs.Disk.{Torn, After, Among, Only}
use Rattle.adr_disk.proofs.Bytes.{Torn-same}
use Rattle.adr_file.specs.declared.device.Folder.{Ghosts}
use Rattle.adr_file.specs.Device.{bytes_of, AsBytes, Behind, Made, TornFile, IsNamed, Changes}
use Rattle.adr_file.specs.Known.{KeepsFile, Turns}

abbrev Bytes : Type 1
Bytes = List ℕ → Type 0

-- outcomes of a file are among these, as bytes
abbrev pub Gives : (Option (List ℕ) → Type 0) → (List ℕ → Type 0) → Type 0
Gives outcomes bytes = (left : Option (List ℕ)) → outcomes left → bytes (bytes_of left)

module _ {F : Type 0} (f : Ghosts F) where
  pub changed : (old new : F) (outcomes : Option (List ℕ) → Type 0) (bytes : List ℕ → Type 0) → Gives outcomes bytes → Changes f.file f.may_leave f.moment f.left_since old new outcomes → Turns f old new bytes
  changed old new outcomes bytes gives c = record {
    told = c.told;
    crash = λ b left. subst bytes (sym left.2) (gives left.0 (c.crash left.0 left.1));
    time = record {
      later = c.time.later;
      nothing_else = λ t b le left. ⊎_elim (λ past. inl (left.0, past, left.2)) (λ out. inr (subst bytes (sym left.2) (gives left.0 out))) (c.time.nothing_else t left.0 le left.1);
      keeps = λ t b le left. (left.0, c.time.keeps t left.0 le left.1, left.2);
    };
  }

  pub kept : (old new : F) (bytes : List ℕ → Type 0) → Among bytes (AsBytes (f.may_leave old)) → KeepsFile f old new → Turns f old new bytes
  kept old new bytes among k = record {
    told = (λ some. subst IsSome k.content_stays some, λ some. subst IsSome (sym k.content_stays) some);
    crash = λ b left. among b (left.0, k.no_more left.0 left.1, left.2);
    time = record {
      later = omega (arith, k.moment_stays);
      nothing_else = λ t b le left. inl (left.0, k.past_stays t left.0 left.1, left.2);
      keeps = λ t b le left. (left.0, k.past_kept t left.0 left.1, left.2);
    };
  }

  pub turns_then : (old mid new : F) (first second bytes : List ℕ → Type 0) → Turns f old mid first → Turns f mid new second → Among bytes first → Among bytes second → Turns f old new bytes
  turns_then old mid new first second bytes a b in_first in_second = record {
    told = (λ some. a.told.0 (b.told.0 some), λ some. b.told.1 (a.told.1 some));
    crash = λ x left. in_second x (b.crash x left);
    time = record {
      later = omega (arith, a.time.later, b.time.later);
      nothing_else = λ t x le left. ⊎_elim (λ past. ⊎_elim inl (λ out. inr (in_first x out)) (a.time.nothing_else t x le past)) (λ out. inr (in_second x out)) (b.time.nothing_else t x (omega (arith, le, a.time.later)) left);
      keeps = λ t x le left. b.time.keeps t x (omega (arith, le, a.time.later)) (a.time.keeps t x le left);
    };
  }

-- a file that is made, and a crash that takes it away, have no bytes
pub made_bytes : (old new : Option (List ℕ)) → Made old new → bytes_of new ≡ bytes_of old
made_bytes old new (inl is) = ap bytes_of is
made_bytes old new (inr both) = ap bytes_of both.1 ∙ sym (ap bytes_of both.0)

pub made_gives : (outcomes : Option (List ℕ) → Type 0) → Gives (Behind Made outcomes) (AsBytes outcomes)
made_gives outcomes left b = (b.0, b.1, made_bytes b.0 left b.2)

pub torn_bytes : (at n : ℕ) (old new : Option (List ℕ)) → TornFile at n old new → Torn at n (bytes_of old) (bytes_of new)
torn_bytes at n None new torn = subst (λ (o : Option (List ℕ)). Torn at n [] (bytes_of o)) (sym torn) (Torn-same at n [])
torn_bytes at n (Some old) new torn = subst (λ (o : Option (List ℕ)). Torn at n old (bytes_of o)) (sym torn.1) torn.2

pub torn_same : (at n : ℕ) (there : Option (List ℕ)) → TornFile at n there there
torn_same at n None = refl
torn_same at n (Some bytes) = (bytes, refl, Torn-same at n bytes)

pub torn_gives : (at n : ℕ) (outcomes : Option (List ℕ) → Type 0) → Gives (Behind (TornFile at n) outcomes) (After (Torn at n) (AsBytes outcomes))
torn_gives at n outcomes left b = (bytes_of b.0, (b.0, b.1, refl), torn_bytes at n b.0 left b.2)

pub same_gives : (outcomes : Option (List ℕ) → Type 0) → Gives outcomes (AsBytes outcomes)
same_gives outcomes left out = (left, out, refl)

-- a write may leave all as it was
pub torn_none : (at n : ℕ) (outcomes : List ℕ → Type 0) → Among (After (Torn at n) outcomes) outcomes
torn_none at n outcomes = λ b out. (b, out, Torn-same at n b)

pub torn_more : (at n : ℕ) (outcomes fewer : List ℕ → Type 0) → Among outcomes fewer → Among (After (Torn at n) outcomes) (After (Torn at n) fewer)
torn_more at n outcomes fewer among = λ b out. (out.0, among out.0 out.1, out.2)

pub torn_name : (at n : ℕ) (old new : Option (List ℕ)) → TornFile at n old new → IsSome new ↔ IsSome old
torn_name at n None new torn = (λ some. subst IsSome torn some, λ some. subst IsSome (sym torn) some)
torn_name at n (Some old) new torn = (λ some. refl, λ some. subst IsSome (sym torn.1) refl)

-- a name that is safe is so behind a write
pub named_torn : (at n : ℕ) (there now : Option (List ℕ)) (before after : Option (List ℕ) → Type 0) → TornFile at n there now → Among (Behind (TornFile at n) before) after → IsNamed there before → IsNamed now after
named_torn at n there now before after torn crash named = λ left out.
    let b = crash left out in
    let old = named b.0 b.1 in
    let here = torn_name at n there now torn in
    let left_is = torn_name at n b.0 left b.2 in
    (λ some. here.1 (old.0 (left_is.0 some)), λ some. left_is.1 (old.1 (here.0 some)))

not_some : (o : Option (List ℕ)) → o ≡ None → IsSome o → ⊥
not_some None none some = cc some
not_some (Some x) none some = cc none

-- where the name is safe, a file that is synced is all that a crash leaves
pub only_there : (there : Option (List ℕ)) (outcomes : Option (List ℕ) → Type 0) → IsSome there → ((left : Option (List ℕ)) → outcomes left → (left ≡ None) ⊎ (left ≡ there)) → IsNamed there outcomes → Only (bytes_of there) (AsBytes outcomes)
only_there there outcomes some synced named = λ b x.
    ⊎_elim (λ (none : x.0 ≡ None). absurd (not_some x.0 none ((named x.0 x.1).1 some))) (λ (is : x.0 ≡ there). x.2 ∙ ap bytes_of is) (synced x.0 x.1)

-- and so is nothing, where there is none
pub only_none : (there : Option (List ℕ)) (outcomes : Option (List ℕ) → Type 0) → there ≡ None → IsNamed there outcomes → Only (bytes_of there) (AsBytes outcomes)
only_none there outcomes none named = λ b x. x.2 ∙ no_bytes x.0 (λ some. not_some there none ((named x.0 x.1).0 some)) ∙ sym (ap bytes_of none)
  where
    no_bytes : (left : Option (List ℕ)) → (IsSome left → ⊥) → bytes_of left ≡ []
    no_bytes None h = refl
    no_bytes (Some b) h = absurd (h refl)

-- a folder that tells nothing says nothing of a call
pub nothing_told : {D : Type 0} (old new : D) (outcomes : Option (List ℕ) → Type 0) → ((left : Option (List ℕ)) → outcomes left) → Changes (λ (d : D). None) (λ (d : D) left. ⊤) (λ (d : D). 0) (λ (d : D) t left. ⊤) old new outcomes
nothing_told old new outcomes any = record {
  told = (λ some. some, λ some. some);
  crash = λ left _. any left;
  time = record { later = omega arith; nothing_else = λ t left le _. inl tt; keeps = λ t left le _. tt };
}
