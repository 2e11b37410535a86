-- What the moves of a controller keep.
use Rattle.std.proofs.Common.{◌≡◌, ◌≢◌, inl, inr, Option, Some, refl, sym, subst, ap}
use Rattle.adr_model.specs.Change.{after}
use Rattle.adr_model.specs.Replica.{Pending, change_of, Up, Replica, Book, recorded, Begin, Settle, Forget, moved}
use Rattle.adr_model.specs.Sound.{IsSoundBook, IsSoundState, IsSoundCall, IsSettled, IsSoundReplica}
use Rattle.adr_law_calls.specs.Later.{IsLater}
use Rattle.adr_law_calls.specs.Settling.{MaySettle, HasSettled}
use Rattle.adr_law_calls.proofs.Recorded.{recorded_later, recorded_sound}

pub begun_is_sound : (book : Book) (r : Replica) (p : Pending) → IsSoundState book r.safe → IsSoundCall book p.call → change_of r.safe p.call ≡ Some p.change → r.standing ≢ Up
    → IsSoundReplica book (moved (book, r) (Begin p)).1
begun_is_sound book r p safe call made not_up = record { safe = safe; read = inr (p, record { kept = refl; call = call; made = made; read = refl; not_up = not_up }) }

pub forgotten_is_sound : (book : Book) (r : Replica) → IsSoundReplica book r → IsSoundReplica book (moved (book, r) Forget).1 × IsSettled (moved (book, r) Forget).1
forgotten_is_sound book r is = (record { safe = is.safe; read = inl (refl, refl) }, (refl, refl))

pub settled_is_sound : (book : Book) (r : Replica) (p : Pending) → IsSoundBook book → r.kept ≡ Some p → r.read ≡ after r.safe p.change → MaySettle book r p
    → HasSettled book (moved (book, r) Settle)
settled_is_sound book r p sound_book kept read may = record {
  later = subst (λ (o : Option Pending). IsLater book (moved (book, record r { kept = o }) Settle).0) (sym kept) (recorded_later book r.safe.inv p may.follows may.issued);
  book = subst (λ (o : Option Pending). IsSoundBook (moved (book, record r { kept = o }) Settle).0) (sym kept) (recorded_sound book r.safe.inv p may.follows may.issued may.content sound_book);
  replica = record { safe = state; read = inl (refl, refl) };
  settled = (refl, refl);
}
  where
    state : IsSoundState (moved (book, r) Settle).0 r.read
    state = subst (λ (o : Option Pending). IsSoundState (moved (book, record r { kept = o }) Settle).0 r.read) (sym kept) (subst (IsSoundState (recorded book r.safe.inv p)) (sym read) may.state)

pub nothing_settles : (book : Book) (r : Replica) → IsSettled r → IsSoundReplica book r → ((moved (book, r) Settle).0 ≡ book) × IsSoundReplica book (moved (book, r) Settle).1
nothing_settles book r settled is = (
  ap (λ (o : Option Pending). (moved (book, record r { kept = o }) Settle).0) settled.0,
  record { safe = subst (IsSoundState book) (sym settled.1) is.safe; read = inl (refl, refl) },
)
