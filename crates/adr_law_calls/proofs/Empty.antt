-- A new controller.
use Rattle.std.proofs.Common.{◌≡◌, [], refl, arith}
use Rattle.std.specs.List.Sorted.{IsStrictlySortedBy}
use Rattle.adr_values.proofs.Moments.{no_times}
use Rattle.adr_model.specs.Update.{Identifier}
use Rattle.adr_model.specs.Store.{empty_store, empty_state}
use Rattle.adr_model.specs.Formed.{IsFormedStore}
use Rattle.adr_model.specs.LocalLog.{no_log}
use Rattle.adr_model.specs.Replica.{Book, log_of, begun}
use Rattle.adr_model.specs.Sound.{IsSoundBook, IsSoundStore, IsSoundState}
use Rattle.adr_law_calls.specs.Later.{IsLater}
use Rattle.adr_law_calls.proofs.Beginning.{begun_later, begun_sound}
use Rattle.adr_law_calls.proofs.Woken.{woken_state}

pub empty_is_formed : IsFormedStore (empty_store 1)
unfolding IsStrictlySortedBy
empty_is_formed = record {
  vector = record { rising = tt; from_one = tt; few = omega arith };
  times = no_times [];
  purged = record { rising = tt; from_one = tt; few = omega arith };
  purged_within = refl;
  marks = λ k m. absurd m;
  rising = tt;
  locals = λ h m. absurd m;
  alone = λ h m. absurd m;
  rows = record { none = λ o r m. absurd m; named = λ o h. absurd (h.2); births = λ o r m. absurd m; objects = λ o h. absurd (h.2); links = λ l r m. absurd m };
  limits = record { objects = omega arith; links = omega arith; marks = omega arith };
}

empty_is_sound : (book : Book) → IsSoundBook book → IsSoundStore book (empty_store 1)
empty_is_sound book sound_book = record {
  known = λ u m. absurd m;
  bounded = λ i. omega arith;
  covered = λ u m c. absurd (omega (arith, (sound_book.once u m).0, c));
  formed = empty_is_formed;
  closed = λ l r m. absurd m;
  classes = λ u m. absurd m;
  marks = λ k m. absurd m;
}

pub new_is_sound : (book : Book) (dsa inv : Identifier) → IsSoundBook book → log_of book inv ≡ no_log
    → IsLater book (begun book (empty_state dsa inv)) × (IsSoundBook (begun book (empty_state dsa inv)) × IsSoundState (begun book (empty_state dsa inv)) (empty_state dsa inv))
new_is_sound book dsa inv sound_book fresh = (
  begun_later book (empty_state dsa inv) fresh (λ x m. absurd m),
  (begun_sound book (empty_state dsa inv) fresh (λ x m. absurd m) (λ x m. absurd m) sound_book, woken_state book (empty_store 1) dsa inv sound_book (empty_is_sound book sound_book) fresh refl (omega arith)),
)
