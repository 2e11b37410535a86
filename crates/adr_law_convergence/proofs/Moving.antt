-- What the moves of a commit, a start and a stop leave of a sound controller.
use Rattle.std.proofs.Common.{◌≡◌, ◌≢◌, ◌⊎◌, inl, inr, ⊎_elim, List, [], ◌∷◌, Bool, true, false, Option, Some, None, refl, sym, ap, ◌∙◌, subst, fold, nat_le, ◌==◌, if◌then◌else◌}
use Rattle.adr_disk.specs.declared.memory.Crash.TheVariants.{Kept, Lost, Torn}
use Rattle.adr_model.specs.Store.{Normal, Store, State}
use Rattle.adr_model.specs.Change.{after}
use Rattle.adr_model.specs.LocalLog.{no_log}
use Rattle.adr_disk.specs.declared.memory.Mishap.TheVariants.{Fails, Stops}
use Rattle.adr_model.specs.Replica.{Pending, change_of, Standing, Up, Down, Failed, Replica, Book, log_of, with_change, recorded, Move, Begin, Settle, Forget, moved, Went, Passed, Met, moves_of_commit, moves_of_start, standing_after}
use Rattle.adr_model.specs.Sound.{IsSoundBook, IsSoundState, IsSoundCall, IsPending, IsSettled, IsSoundReplica}
use Rattle.adr_law_calls.specs.Later.{IsLater}
use Rattle.adr_law_calls.proofs.Frames.{later_itself}
use Rattle.adr_law_calls.proofs.Recorded.{recorded_later, recorded_sound}
use Rattle.adr_law_calls.proofs.Tables.{entry_other}
use Rattle.adr_law_convergence.proofs.Replacing.{OnlyLog}
use Rattle.adr_law_convergence.proofs.Calls.{Settles, call_settles, may_settle}

-- what moves leave of a controller that then stands so; something more is so of its stores
pub record HasMoved (P : Store → Type 0) (b : Book) (r : Replica) (m : Book × Replica) (standing : Standing) : Type 0 where
  pub later : IsLater b m.0
  pub book : IsSoundBook m.0
  pub only : OnlyLog b m.0 r.safe.inv
  pub sound : IsSoundReplica m.0 (record m.1 { standing = standing })
  pub name : m.1.name ≡ r.name
  pub dsa : m.1.safe.dsa ≡ r.safe.dsa
  pub inv : m.1.safe.inv ≡ r.safe.inv
  pub stores : P m.1.safe.store × P m.1.read.store
  pub normal : m.1.safe.mode ≡ Normal

module _ (P : Store → Type 0) (book : Book) (r : Replica) (sound_book : IsSoundBook book) (sound : IsSoundReplica book r) (stores : P r.safe.store × P r.read.store) (normal : r.safe.mode ≡ Normal) where
  -- no move
  pub stays_so : (standing : Standing) → IsSettled r ⊎ (standing ≢ Up) → HasMoved P book r (book, r) standing
  stays_so standing may = record {
    later = later_itself book;
    book = sound_book;
    only = λ i other. refl;
    sound = record { safe = sound.safe; read = ⊎_elim (λ settled. inl settled) (λ not_up. ⊎_elim (λ settled. inl settled) (λ p. inr (p.0, record { kept = p.1.kept; call = p.1.call; made = p.1.made; read = p.1.read; not_up = not_up })) sound.read) may };
    name = refl;
    dsa = refl;
    inv = refl;
    stores = stores;
    normal = normal;
  }

  -- what was kept is forgotten
  pub forgets : (standing : Standing) → HasMoved P book r (moved (book, r) Forget) standing
  forgets standing = record {
    later = later_itself book;
    book = sound_book;
    only = λ i other. refl;
    sound = record { safe = sound.safe; read = inl (refl, refl) };
    name = refl;
    dsa = refl;
    inv = refl;
    stores = (stores.0, stores.0);
    normal = normal;
  }

  module _ (p : Pending) (is : Settles book r.safe p) where
    -- the kept call settles
    settled_so : (standing : Standing) → P (after r.safe p.change).store
        → HasMoved P book r (recorded book r.safe.inv p, record r { safe = after r.safe p.change; read = after r.safe p.change; kept = None }) standing
    settled_so standing of = record {
      later = recorded_later book r.safe.inv p is.follows is.issued;
      book = recorded_sound book r.safe.inv p is.follows is.issued is.content sound_book;
      only = λ i other. entry_other book.logs no_log r.safe.inv i (with_change (log_of book r.safe.inv) p.change) other;
      sound = record { safe = (may_settle book r.safe sound_book sound.safe r p refl is).state; read = inl (refl, refl) };
      name = refl;
      dsa = refl;
      inv = refl;
      stores = (of, of);
      normal = is.normal;
    }

  -- what is kept settles, where anything is
  pub settles_so : (standing : Standing) → HasMoved P book r (moved (book, r) Settle) standing
  settles_so standing = by sound.read
    where
      idle : IsSettled r → HasMoved P book r (moved (book, r) Settle) standing
      idle s = subst (λ (o : Option Pending). HasMoved P book r (moved (book, record r { kept = o }) Settle) standing) (sym s.0) (record {
        later = later_itself book;
        book = sound_book;
        only = λ i other. refl;
        sound = record { safe = subst (IsSoundState book) (sym s.1) sound.safe; read = inl (refl, refl) };
        name = refl;
        dsa = ap (λ (d : State). d.dsa) s.1;
        inv = ap (λ (d : State). d.inv) s.1;
        stores = (stores.1, stores.1);
        normal = ap (λ (d : State). d.mode) s.1 ∙ normal;
      })

      on : (p : Pending) → IsPending book r p → HasMoved P book r (moved (book, r) Settle) standing
      on p k = subst (λ (o : Option Pending). HasMoved P book r (moved (book, record r { kept = o }) Settle) standing) (sym k.kept)
          (subst (λ (d : State). HasMoved P book r (recorded book r.safe.inv p, record r { safe = d; read = d; kept = None }) standing) (sym k.read)
          (settled_so p (call_settles book r.safe sound_book sound.safe p k.call k.made) standing (subst (λ (d : State). P d.store) k.read stores.1)))

      by : IsSettled r ⊎ ((p : Pending) × IsPending book r p) → HasMoved P book r (moved (book, r) Settle) standing
      by (inl s) = idle s
      by (inr t) = on t.0 t.1

  -- ---- a start and a stop

  pub start_moves : r.standing ≢ Up → (g : Went) → HasMoved P book r (fold moved (book, r) (moves_of_start g)) (standing_after r.standing g)
  start_moves not_up (Passed left) = settles_so Up
  start_moves not_up (Met place Fails) = stays_so r.standing (inr not_up)
  start_moves not_up (Met place (Stops Lost)) = forgets Down
  start_moves not_up (Met place (Stops Kept)) = settles_so Down
  start_moves not_up (Met place (Stops Torn)) = settles_so Down

  -- ---- a commit

  module _ (settled : IsSettled r) (p : Pending) (call : IsSoundCall book p.call) (made : change_of r.safe p.call ≡ Some p.change) (given : P (after r.safe p.change).store) where
    is : Settles book r.safe p
    is = call_settles book r.safe sound_book sound.safe p call made

    failed_is_not_up : Failed ≢ Up
    failed_is_not_up e = absurd (cc)

    -- the change is on the disk and isn't safe
    begins : (standing : Standing) → standing ≢ Up → HasMoved P book r (moved (book, r) (Begin p)) standing
    begins standing not_up = record {
      later = later_itself book;
      book = sound_book;
      only = λ i other. refl;
      sound = record { safe = sound.safe; read = inr (p, record { kept = refl; call = call; made = made; read = refl; not_up = not_up }) };
      name = refl;
      dsa = refl;
      inv = refl;
      stores = (stores.0, given);
      normal = normal;
    }

    either : (b : Bool) (ms : List Move) → HasMoved P book r (fold moved (book, r) ms) Down → HasMoved P book r (fold moved (book, r) (if b then ms else [])) Down
    either true ms h = h
    either false ms h = stays_so Down (inl settled)

    begins_or_not : (b : Bool) → HasMoved P book r (fold moved (book, r) (if b then Begin p ∷ [] else [])) Failed
    begins_or_not true = begins Failed failed_is_not_up
    begins_or_not false = stays_so Failed (inl settled)

    begins_and_forgets : HasMoved P book r (fold moved (book, r) (Begin p ∷ Forget ∷ [])) Down
    begins_and_forgets = forgets Down

    pub commit_moves : (g : Went) → HasMoved P book r (fold moved (book, r) (moves_of_commit p g)) (standing_after Failed g)
    commit_moves (Passed left) = settled_so p is Up given
    commit_moves (Met place Fails) = begins_or_not (place == 3)
    commit_moves (Met place (Stops Lost)) = either (place == 3) (Begin p ∷ Forget ∷ []) begins_and_forgets
    commit_moves (Met place (Stops Kept)) = either (nat_le 2 place) (Begin p ∷ Settle ∷ []) (settled_so p is Down given)
    commit_moves (Met place (Stops Torn)) = either (nat_le 2 place) (Begin p ∷ Settle ∷ []) (settled_so p is Down given)
