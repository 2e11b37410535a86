-- What a sound world says of the knowledge of each controller.
use Rattle.std.proofs.Common.{◌≡◌, ◌≤◌, sym, ap, ◌∙◌, arith}
use Rattle.adr_values.specs.Vector.{at}
use Rattle.adr_model.specs.Member.{Member, Each}
use Rattle.adr_model.specs.Update.{Update, inv_of, usn_of}
use Rattle.adr_model.specs.Reflects.{Covers, knowledge_of}
use Rattle.adr_model.specs.Store.{Store, State, updates_of}
use Rattle.adr_model.specs.Replica.{Replica, Book}
use Rattle.adr_model.specs.World.{World}
use Rattle.adr_model.specs.Sound.{last_of, IsSoundBook, IsSoundStore, IsSoundState, IsSoundWorld}
use Rattle.adr_model.specs.Convergence.{held_by, HoldsNothingBeyond, CoverTheSame, ShowsWhatIsVisible, OwnIsVisible, EqualCoverageShowsEqual}
use Rattle.adr_law_knowledge.specs.Known.{CoverAlike, IsSoundKnowledge}
use Rattle.adr_law_knowledge.proofs.View.{covered_where_tested, tested_where_covered, covered_is_visible, formed_is_sound, held_shows_visible, equal_coverage}

pub store_is_sound : (book : Book) (s : Store) → IsSoundStore book s → IsSoundKnowledge book.issued (knowledge_of s)
store_is_sound book s is = formed_is_sound book.issued s is.formed is.known is.covered

pub replica_is_sound : (w : World) (r : Replica) → IsSoundWorld w → Member r w.replicas → IsSoundKnowledge w.book.issued (knowledge_of r.safe.store)
replica_is_sound w r sound m = store_is_sound w.book r.safe.store (sound.replicas r m).safe.store

pub shows_what_is_visible : ShowsWhatIsVisible
shows_what_is_visible w sound r m = held_shows_visible w.book.issued r.safe.store sound.book.one_content (replica_is_sound w r sound m)

own_covered : (book : Book) (s : State) (u : Update) → IsSoundBook book → IsSoundState book s → Member u book.issued → inv_of u ≡ s.inv → Covers (at s.store.vector) u
own_covered book s u sound_book is m own =
    let once : usn_of u ≤ last_of book (inv_of u) = (sound_book.once u m).1 in
    let last : last_of book (inv_of u) ≡ last_of book s.inv = ap (last_of book) own in
    let here : at s.store.vector (inv_of u) ≡ at s.store.vector s.inv = ap (at s.store.vector) own in
    omega (arith, once, last, here, is.last, is.formed.own)

pub own_is_visible : OwnIsVisible
own_is_visible w sound r m u n own =
    covered_is_visible w.book.issued r.safe.store.vector (held_by r) u n (own_covered w.book r.safe u sound.book (sound.replicas r m).safe n own)

covers_alike : (w : World) (r q : Replica) → CoverTheSame w r q → CoverAlike w.book.issued (at r.safe.store.vector) (at q.safe.store.vector)
covers_alike w r q same u m = (
  λ c. covered_where_tested q.safe.store.vector u (sym (same u m) ∙ tested_where_covered r.safe.store.vector u c),
  λ c. covered_where_tested r.safe.store.vector u (same u m ∙ tested_where_covered q.safe.store.vector u c),
)

all_covered : (r : Replica) → HoldsNothingBeyond r → Each (λ u. Covers (at r.safe.store.vector) u) (updates_of r.safe.store.rows)
all_covered r none u m = covered_where_tested r.safe.store.vector u (none u m)

pub equal_coverage_shows : EqualCoverageShowsEqual
equal_coverage_shows w sound r m q n none nothing same =
    equal_coverage w.book.issued r.safe.store q.safe.store sound.book.one_content (replica_is_sound w r sound m) (replica_is_sound w q sound n)
    (all_covered r none) (all_covered q nothing) (covers_alike w r q same)
