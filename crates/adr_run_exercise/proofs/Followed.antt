-- The lines of the schedule may follow one another.
use Rattle.std.proofs.Common.{◌≡◌, ℕ, zero, suc, ◌+◌, ◌*◌, ◌/◌, ◌%◌, ◌<◌, ◌≤◌, ◌^◌, Bool, true, false, ◌||◌, List, [], ◌∷◌, ◌++◌, map, append_assoc, Option, None, refl, sym, ap, subst, ◌∙◌, arith}
use Rattle.std.specs.Prelude.{◌==◌, if◌then◌else◌, codes}
use Rattle.std.specs.Fmt.{decimal}
use Rattle.std.specs.List.{range_with_len, flat_map}
use Rattle.std.specs.Bool.{then_some}
use Rattle.std.specs.Str.{bytes_eq}
use Rattle.std.proofs.lemmas.Bool.{false_from_ne_true, eqb-true, eqb-false}
use Rattle.std.proofs.lemmas.Slice.Eq.{bytes_eq-Decides}
use Rattle.adr_values.specs.First.{first_of}
use Rattle.adr_call.specs.declared.event.Event.{Event}
use Rattle.adr_call.specs.declared.call.Call.TheVariants as calls
use Rattle.adr_call.specs.declared.event.Event.TheVariants as kinds
use Rattle.adr_call.specs.declared.event.Coming.TheVariants as comings
use Rattle.adr_call.specs.declared.event.Made.TheVariants as mades
use Rattle.adr_call.specs.declared.event.Exchange.TheVariants as exchanges
use Rattle.adr_call.specs.declared.write.Write.TheVariants.{Delete}
use Rattle.adr_schedule.specs.declared.fault.Cause.{Cause}
use Rattle.adr_schedule.specs.declared.fault.Cause.TheVariants.{IdentifierUsed}
use Rattle.adr_schedule.specs.Grammar.{IsAllowed}
use Rattle.adr_schedule.specs.Seen.{Seen, nothing_seen, is_bound, if_bound, unless_bound, if_inv_given, cause_after, seen_after, IsFollowing}
use Rattle.adr_token.specs.Words.{is_name}
use Rattle.adr_run_exercise.specs.Generated.{controller, identifier, numbered, person, round, rounds, beginning, group_added, groups, backed_up, restored, person_added, person_linked, lost, exchanged, met, exchange, state, person_lines, persons, person_deleted, deletions, collections, schedule}
use Rattle.adr_run_exercise.specs.Laws.{SchedulesFollow}
use Rattle.adr_run_exercise.proofs.Numerals.{IsSmall, decimal_apart}
use Rattle.adr_run_exercise.proofs.Allowed.{controller_named, request_named, reply_named, time_allowed, controller_allowed, cycle_allowed, pull_allowed, collect_allowed, backup_allowed, restore_allowed, ask_allowed, serve_allowed, delete_allowed, group_allowed, person_allowed, link_allowed}

-- ---- lists of lines

-- what is seen behind some lines
abbrev behind : Seen → List Event → Seen
behind seen [] = seen
behind seen (e ∷ es) = behind (seen_after seen e) es

-- lines may follow, and then something holds of what is seen
abbrev Goes : Seen → List Event → (Seen → Type 0) → Type 0
Goes seen es P = IsFollowing seen es × P (behind seen es)

goes_then : (P Q : Seen → Type 0) (xs ys : List Event) (seen : Seen) → Goes seen xs P → ((s : Seen) → P s → Goes s ys Q) → Goes seen (xs ++ ys) Q
goes_then P Q [] ys seen goes next = next seen goes.1
goes_then P Q (x ∷ xs) ys seen goes next =
    let more = goes_then P Q xs ys (seen_after seen x) (goes.0.2, goes.1) next in
    ((goes.0.0, goes.0.1, more.0), more.1)

one_goes : (P : Seen → Type 0) (e : Event) (seen : Seen) → cause_after seen e ≡ None → IsAllowed e → P (seen_after seen e) → Goes seen (e ∷ []) P
one_goes P e seen none allowed after = ((none, allowed, tt), after)

-- ---- the four controllers

abbrev four : List (List ℕ)
four = codes "A" ∷ codes "B" ∷ codes "C" ∷ codes "D" ∷ []

abbrev HasFour : Seen → Type 0
HasFour seen = seen.controllers ≡ four

record IsOne (name : List ℕ) : Type 0 where
  named : is_name name ≡ true
  bound : unless_bound four name ≡ None

one_a : IsOne (codes "A")
one_a = record { named = refl; bound = refl }

one_b : IsOne (codes "B")
one_b = record { named = refl; bound = refl }

one_c : IsOne (codes "C")
one_c = record { named = refl; bound = refl }

one_d : IsOne (codes "D")
one_d = record { named = refl; bound = refl }

controller_bound : (h : ℕ) → unless_bound four (controller h) ≡ None
unfolding controller
controller_bound h = by (h == 0) (h == 1) (h == 2)
  where
    by : (a b c : Bool) → unless_bound four (if a then codes "A" else if b then codes "B" else if c then codes "C" else codes "D") ≡ None
    by true b c = refl
    by false true c = refl
    by false false true = refl
    by false false false = refl

one_of : (h : ℕ) → IsOne (controller h)
one_of h = record { named = controller_named h; bound = controller_bound h }

bound_among : (seen : Seen) (name : List ℕ) → HasFour seen → IsOne name → unless_bound seen.controllers name ≡ None
bound_among seen name has one = ap (λ names. unless_bound names name) has ∙ one.bound

two_none : (a b : Option Cause) → a ≡ None → b ≡ None → first_of (a ∷ b ∷ []) ≡ None
two_none a b p q = rw (p, q) refl

three_none : (a b c : Option Cause) → a ≡ None → b ≡ None → c ≡ None → first_of (a ∷ b ∷ c ∷ []) ≡ None
three_none a b c p q r = rw (p, q, r) refl

-- ---- lines that bind nothing

-- where the four controllers are there, the line may come, and nothing more is seen
record IsQuiet (e : Event) : Type 0 where
  none : (seen : Seen) → HasFour seen → cause_after seen e ≡ None
  allowed : IsAllowed e
  same : (seen : Seen) → seen_after seen e ≡ seen

abbrev AreQuiet : List Event → Type 0
AreQuiet [] = Unit {0}
AreQuiet (e ∷ es) = IsQuiet e × AreQuiet es

quiet_append : (xs ys : List Event) → AreQuiet xs → AreQuiet ys → AreQuiet (xs ++ ys)
quiet_append [] ys q r = r
quiet_append (x ∷ xs) ys q r = (q.0, quiet_append xs ys q.1 r)

quiet_go : (P : Seen → Type 0) (es : List Event) (seen : Seen) → AreQuiet es → HasFour seen → P seen → Goes seen es P
quiet_go P [] seen q has p = (tt, p)
quiet_go P (e ∷ es) seen q has p =
    let back = sym (q.0.same seen) in
    let more = quiet_go P es (seen_after seen e) q.1 (subst HasFour back has) (subst P back p) in
    ((q.0.none seen has, q.0.allowed, more.0), more.1)

quiet_range : (f : ℕ → List Event) (limit : ℕ) → ((k : ℕ) → k < limit → AreQuiet (f k)) → (m a : ℕ) → a + m ≤ limit → AreQuiet (flat_map f (range_with_len a m))
quiet_range f limit each zero a h = tt
quiet_range f limit each (suc m) a h = quiet_append (f a) (flat_map f (range_with_len (a + 1) m)) (each a (omega arith)) (quiet_range f limit each m (a + 1) (omega arith))

time_quiet : (now : ℕ) → now < 2 ^ 64 → IsQuiet (kinds.Time now)
time_quiet now small = record { none = λ seen has. refl; allowed = time_allowed now small; same = λ seen. refl }

cycle_quiet : (name source : List ℕ) → IsOne name → IsOne source → IsQuiet (kinds.Goes name (exchanges.Cycle source 50))
cycle_quiet name source one other = record {
  none = λ seen has. two_none _ _ (bound_among seen name has one) (bound_among seen source has other);
  allowed = cycle_allowed name source one.named other.named;
  same = λ seen. refl;
}

pull_quiet : (name source : List ℕ) → IsOne name → IsOne source → IsQuiet (kinds.Goes name (exchanges.Pull source 3))
pull_quiet name source one other = record {
  none = λ seen has. two_none _ _ (bound_among seen name has one) (bound_among seen source has other);
  allowed = pull_allowed name source one.named other.named;
  same = λ seen. refl;
}

collect_quiet : (name : List ℕ) → IsOne name → IsQuiet (kinds.Calls name (calls.Collect 5000))
collect_quiet name one = record { none = λ seen has. bound_among seen name has one; allowed = collect_allowed name one.named; same = λ seen. refl }

group_quiet : (g : ℕ) → IsSmall g → IsQuiet (group_added g)
unfolding group_added
group_quiet g small = record { none = λ seen has. bound_among seen (codes "A") has one_a; allowed = group_allowed g small; same = λ seen. refl }

person_quiet : (k : ℕ) → IsSmall k → IsQuiet (person_added k)
unfolding person_added
person_quiet k small = record { none = λ seen has. bound_among seen (controller (k % 4)) has (one_of (k % 4)); allowed = person_allowed k small; same = λ seen. refl }

link_quiet : (k : ℕ) → IsQuiet (person_linked k)
unfolding person_linked
link_quiet k = record { none = λ seen has. bound_among seen (controller (k % 4)) has (one_of (k % 4)); allowed = link_allowed k; same = λ seen. refl }

round_quiet : AreQuiet round
unfolding round
round_quiet = (cycle_quiet (codes "B") (codes "A") one_b one_a, (cycle_quiet (codes "C") (codes "B") one_c one_b, (cycle_quiet (codes "D") (codes "C") one_d one_c, (cycle_quiet (codes "A") (codes "D") one_a one_d, tt))))

rounds_quiet : (n : ℕ) → AreQuiet (rounds n)
unfolding rounds
rounds_quiet zero = tt
rounds_quiet (suc n) = quiet_append (rounds n) round (rounds_quiet n) round_quiet

groups_quiet : (m a : ℕ) → a + m ≤ 10 → AreQuiet (map group_added (range_with_len a m))
groups_quiet zero a h = tt
groups_quiet (suc m) a h = (group_quiet a (omega arith), groups_quiet m (a + 1) (omega arith))

deletion_quiet : (k : ℕ) → AreQuiet (person_deleted k)
unfolding person_deleted
deletion_quiet k = by (k % 10 == 9)
  where
    line : IsQuiet (kinds.Calls (codes "A") (calls.Write (Delete (person k))))
    line = record { none = λ seen has. bound_among seen (codes "A") has one_a; allowed = delete_allowed (codes "A") (0x1000 + k) refl; same = λ seen. refl }

    by : (b : Bool) → AreQuiet (if b then kinds.Calls (codes "A") (calls.Write (Delete (person k))) ∷ [] else [])
    by true = (line, tt)
    by false = tt

deletions_quiet : (n : ℕ) → AreQuiet (deletions n)
deletions_quiet n = (time_quiet 2000 (omega arith), quiet_range person_deleted (5 * n) (λ k h. deletion_quiet k) (5 * n) 0 (omega arith))

collections_quiet : AreQuiet collections
unfolding collections
collections_quiet =
    (time_quiet 100000 (omega arith), (collect_quiet (codes "A") one_a, (collect_quiet (codes "B") one_b, (collect_quiet (codes "C") one_c, (collect_quiet (codes "D") one_d, tt)))))

-- ---- names with numbers

-- each of the names is the word with a number below this one
abbrev Earlier : List ℕ → ℕ → List (List ℕ) → Type 0
Earlier word k [] = Unit {0}
Earlier word k (name ∷ names) = ((j : ℕ) × (j < k) × (name ≡ numbered word j)) × Earlier word k names

earlier_more : (word : List ℕ) (k : ℕ) (names : List (List ℕ)) → Earlier word k names → Earlier word (k + 1) names
earlier_more word k [] h = tt
earlier_more word k (name ∷ names) h = ((h.0.0, omega (arith, h.0.1), h.0.2), earlier_more word k names h.1)

earlier_last : (word : List ℕ) (k : ℕ) (names : List (List ℕ)) → Earlier word k names → Earlier word (k + 1) (names ++ numbered word k ∷ [])
earlier_last word k [] h = ((k, omega arith, refl), tt)
earlier_last word k (name ∷ names) h = ((h.0.0, omega (arith, h.0.1), h.0.2), earlier_last word k names h.1)

tail_of : (b : ℕ) (xs ys : List ℕ) → b ∷ xs ≡ b ∷ ys → xs ≡ ys
tail_of b xs ys e = cc

numbered_apart : (letter j k : ℕ) → IsSmall j → IsSmall k → numbered (letter ∷ []) j ≡ numbered (letter ∷ []) k → j ≡ k
unfolding numbered
numbered_apart letter j k hj hk e = decimal_apart j k (omega arith) (omega arith) (tail_of letter (decimal j) (decimal k) e)

earlier_free : (letter k : ℕ) (names : List (List ℕ)) → IsSmall k → Earlier (letter ∷ []) k names → is_bound names (numbered (letter ∷ []) k) ≡ false
earlier_free letter k [] small h = refl
earlier_free letter k (name ∷ names) small h = rw (apart, earlier_free letter k names small h.1) refl
  where
    differs : name ≡ numbered (letter ∷ []) k → ⊥
    differs e =
        let below : h.0.0 < k = h.0.1 in
        let same : h.0.0 ≡ k = numbered_apart letter h.0.0 k (omega arith) small (sym h.0.2 ∙ e) in
        omega arith

    apart : bytes_eq name (numbered (letter ∷ []) k) ≡ false
    apart = false_from_ne_true (bytes_eq name (numbered (letter ∷ []) k)) (λ t. differs ((bytes_eq-Decides name (numbered (letter ∷ []) k)).0 t))

bytes_same : (name : List ℕ) → bytes_eq name name ≡ true
bytes_same name = (bytes_eq-Decides name name).1 refl

bound_last : (names : List (List ℕ)) (name : List ℕ) → is_bound (names ++ name ∷ []) name ≡ true
bound_last [] name = rw (bytes_same name) refl
bound_last (x ∷ names) name = rw (bound_last names name) (or_true (bytes_eq x name))
  where
    or_true : (b : Bool) → (b || true) ≡ true
    or_true true = refl
    or_true false = refl

-- ---- persons

abbrev first_invs : List (List ℕ)
first_invs = identifier 0xa1 ∷ identifier 0xb1 ∷ identifier 0xc1 ∷ identifier 0xd1 ∷ []

-- what is seen where the backup stands before person b, the restored one before person r, and exchanges before person q
record Stands (n b r q : ℕ) (seen : Seen) : Type 0 where
  controllers : HasFour seen
  no_image : b ≤ 2 * n → seen.images ≡ []
  image : 2 * n < b → seen.images ≡ codes "image" ∷ []
  invs : r ≤ 3 * n → seen.invs ≡ first_invs
  requests : Earlier (codes "q") q seen.requests
  replies : Earlier (codes "r") q seen.replies

-- the image of B is made
backup_goes : (n k : ℕ) (seen : Seen) → Stands n k k k seen → Goes seen (backed_up n k) (Stands n (k + 1) k k)
unfolding backed_up
backup_goes n k seen s = by (k == 2 * n) refl
  where
    by : (b : Bool) → (k == 2 * n) ≡ b → Goes seen (if b then kinds.Binds (codes "B") mades.Backup (codes "image") ∷ [] else []) (Stands n (k + 1) k k)
    by true e =
        let is : k ≡ 2 * n = eqb-true k (2 * n) e in
        let none : seen.images ≡ [] = s.no_image (omega arith) in
        one_goes (Stands n (k + 1) k k) (kinds.Binds (codes "B") mades.Backup (codes "image")) seen
        (two_none _ _ (bound_among seen (codes "B") s.controllers one_b) (ap (λ (images : List (List ℕ)). if_bound images (codes "image")) none))
        (backup_allowed (codes "B") (codes "image") refl refl)
        (record {
          controllers = s.controllers;
          no_image = λ (h : k + 1 ≤ 2 * n). absurd (omega arith);
          image = λ (h : 2 * n < k + 1). ap (λ (images : List (List ℕ)). images ++ codes "image" ∷ []) none;
          invs = s.invs;
          requests = s.requests;
          replies = s.replies;
        })
    by false e =
        let other : k ≡ 2 * n → ⊥ = eqb-false k (2 * n) e in (
          tt,
          record {
            controllers = s.controllers;
            no_image = λ (h : k + 1 ≤ 2 * n). s.no_image (omega arith);
            image = λ (h : 2 * n < k + 1). s.image (omega arith);
            invs = s.invs;
            requests = s.requests;
            replies = s.replies;
          },
        )

inv_is_new : (seen : Seen) → seen.invs ≡ first_invs → if_inv_given seen (identifier 0xb2) ≡ None
unfolding identifier
inv_is_new seen e = ap (λ (invs : List (List ℕ)). then_some (is_bound invs (identifier 0xb2)) IdentifierUsed) e

abbrev cycle_before : Event
cycle_before = kinds.Goes (codes "A") (exchanges.Cycle (codes "B") 50)

abbrev restoring : Event
restoring = kinds.Comes (codes "B") (identifier 0xb2) (comings.Restored (codes "image"))

abbrev cycle_behind : Event
cycle_behind = kinds.Goes (codes "B") (exchanges.Cycle (codes "A") 50)

-- B is restored of its image
restore_goes : (n k : ℕ) (seen : Seen) → k ≡ 3 * n → k < 5 * n → Stands n (k + 1) k k seen
    → Goes seen (restoring ∷ []) (Stands n (k + 1) (k + 1) k)
restore_goes n k seen is inside s =
    let made : seen.images ≡ codes "image" ∷ [] = s.image (omega arith) in
    let given : seen.invs ≡ first_invs = s.invs (omega arith) in
    one_goes (Stands n (k + 1) (k + 1) k) restoring seen
    (three_none _ _ _ (bound_among seen (codes "B") s.controllers one_b) (ap (λ (images : List (List ℕ)). unless_bound images (codes "image")) made) (inv_is_new seen given))
    (restore_allowed (codes "B") (codes "image") 0xb2 refl refl)
    (record {
      controllers = s.controllers;
      no_image = s.no_image;
      image = s.image;
      invs = λ (h : k + 1 ≤ 3 * n). absurd (omega arith);
      requests = s.requests;
      replies = s.replies;
    })

restored_goes : (n k : ℕ) (seen : Seen) → k < 5 * n → Stands n (k + 1) k k seen → Goes seen (restored n k) (Stands n (k + 1) (k + 1) k)
unfolding restored
restored_goes n k seen inside s = by (k == 3 * n) refl
  where
    last : (v : Seen) → Stands n (k + 1) (k + 1) k v → Goes v (cycle_behind ∷ []) (Stands n (k + 1) (k + 1) k)
    last v t = quiet_go (Stands n (k + 1) (k + 1) k) (cycle_behind ∷ []) v (cycle_quiet (codes "B") (codes "A") one_b one_a, tt) t.controllers t

    middle : k ≡ 3 * n → (v : Seen) → Stands n (k + 1) k k v → Goes v (restoring ∷ cycle_behind ∷ []) (Stands n (k + 1) (k + 1) k)
    middle is v t =
        goes_then (Stands n (k + 1) (k + 1) k) (Stands n (k + 1) (k + 1) k) (restoring ∷ [])
        (cycle_behind ∷ []) v (restore_goes n k v is inside t) last

    by : (b : Bool) → (k == 3 * n) ≡ b → Goes seen (if b then cycle_before ∷ restoring ∷ cycle_behind ∷ [] else []) (Stands n (k + 1) (k + 1) k)
    by true e =
        goes_then (Stands n (k + 1) k k) (Stands n (k + 1) (k + 1) k) (cycle_before ∷ [])
        (restoring ∷ cycle_behind ∷ []) seen
        (quiet_go (Stands n (k + 1) k k) (cycle_before ∷ []) seen (cycle_quiet (codes "A") (codes "B") one_a one_b, tt) s.controllers s)
        (middle (eqb-true k (3 * n) e))
    by false e = (
      tt,
      record {
        controllers = s.controllers;
        no_image = s.no_image;
        image = s.image;
        invs = λ (h : k + 1 ≤ 3 * n). s.invs (omega arith);
        requests = s.requests;
        replies = s.replies;
      },
    )

-- exchanges, with the names that they bind
later : (n k : ℕ) (seen : Seen) → Stands n (k + 1) (k + 1) k seen → Stands n (k + 1) (k + 1) (k + 1) seen
later n k seen s = record {
  controllers = s.controllers;
  no_image = s.no_image;
  image = s.image;
  invs = s.invs;
  requests = earlier_more (codes "q") k seen.requests s.requests;
  replies = earlier_more (codes "r") k seen.replies s.replies;
}

lost_goes : (n k p q : ℕ) (seen : Seen) → IsSmall k → Stands n (k + 1) (k + 1) k seen → Goes seen (lost k p q) (Stands n (k + 1) (k + 1) (k + 1))
unfolding lost
lost_goes n k p q seen small s = ((may_ask, asking, (may_serve, serving, tt)), after)
  where
    new_request : if_bound seen.requests (numbered (codes "q") k) ≡ None
    new_request = rw (earlier_free 113 k seen.requests small s.requests) refl

    new_reply : if_bound seen.replies (numbered (codes "r") k) ≡ None
    new_reply = rw (earlier_free 114 k seen.replies small s.replies) refl

    asked : unless_bound (seen.requests ++ numbered (codes "q") k ∷ []) (numbered (codes "q") k) ≡ None
    asked = rw (bound_last seen.requests (numbered (codes "q") k)) refl

    may_ask : cause_after seen (kinds.Binds (controller p) (mades.Ask (controller q) 3 2) (numbered (codes "q") k)) ≡ None
    may_ask = three_none _ _ _ (bound_among seen (controller p) s.controllers (one_of p)) (bound_among seen (controller q) s.controllers (one_of q)) new_request

    asking : IsAllowed (kinds.Binds (controller p) (mades.Ask (controller q) 3 2) (numbered (codes "q") k))
    asking = ask_allowed (controller p) (controller q) (numbered (codes "q") k) (controller_named p) (controller_named q) (request_named k small)

    may_serve : cause_after (record seen { requests = seen.requests ++ numbered (codes "q") k ∷ [] }) (kinds.Binds (controller q) (mades.Serve (numbered (codes "q") k)) (numbered (codes "r") k)) ≡ None
    may_serve = three_none _ _ _ (bound_among seen (controller q) s.controllers (one_of q)) asked new_reply

    serving : IsAllowed (kinds.Binds (controller q) (mades.Serve (numbered (codes "q") k)) (numbered (codes "r") k))
    serving = serve_allowed (controller q) (numbered (codes "q") k) (numbered (codes "r") k) (controller_named q) (request_named k small) (reply_named k small)

    after : Stands n (k + 1) (k + 1) (k + 1) (record seen { requests = seen.requests ++ numbered (codes "q") k ∷ []; replies = seen.replies ++ numbered (codes "r") k ∷ [] })
    after = record {
      controllers = s.controllers;
      no_image = s.no_image;
      image = s.image;
      invs = s.invs;
      requests = earlier_last (codes "q") k seen.requests s.requests;
      replies = earlier_last (codes "r") k seen.replies s.replies;
    }

exchanged_goes : (n k p q luck : ℕ) (seen : Seen) → IsSmall k → Stands n (k + 1) (k + 1) k seen → Goes seen (exchanged k p q luck) (Stands n (k + 1) (k + 1) (k + 1))
unfolding exchanged
exchanged_goes n k p q luck seen small s = by (luck == 0)
  where
    by : (b : Bool) → Goes seen (if b then lost k p q else kinds.Goes (controller p) (exchanges.Pull (controller q) 3) ∷ []) (Stands n (k + 1) (k + 1) (k + 1))
    by true = lost_goes n k p q seen small s
    by false = quiet_go (Stands n (k + 1) (k + 1) (k + 1)) (kinds.Goes (controller p) (exchanges.Pull (controller q) 3) ∷ []) seen (pull_quiet (controller p) (controller q) (one_of p) (one_of q), tt) s.controllers (later n k seen s)

met_goes : (n k x : ℕ) (seen : Seen) → IsSmall k → Stands n (k + 1) (k + 1) k seen → Goes seen (met x k) (Stands n (k + 1) (k + 1) (k + 1))
unfolding met
met_goes n k x seen small s = exchanged_goes n k _ _ _ seen small s

exchange_goes : (n k : ℕ) (seen : Seen) → IsSmall k → Stands n (k + 1) (k + 1) k seen → Goes seen (exchange n k) (Stands n (k + 1) (k + 1) (k + 1))
unfolding exchange
exchange_goes n k seen small s = by (k % 7 == 6)
  where
    by : (b : Bool) → Goes seen (if b then met (state n (3 * (k / 7))) k else []) (Stands n (k + 1) (k + 1) (k + 1))
    by true = met_goes n k (state n (3 * (k / 7))) seen small s
    by false = (tt, later n k seen s)

-- all lines of a person, one part behind the other
person_parts : (n k : ℕ) → backed_up n k ++ (restored n k ++ person_added k ∷ person_linked k ∷ exchange n k) ≡ person_lines n k
unfolding person_lines
person_parts n k = sym (append_assoc (backed_up n k) (restored n k) (person_added k ∷ person_linked k ∷ exchange n k))

person_goes : (n k : ℕ) (seen : Seen) → n < 2 ^ 64 → k < 5 * n → Stands n k k k seen → Goes seen (person_lines n k) (Stands n (k + 1) (k + 1) (k + 1))
person_goes n k seen few inside s =
    subst (λ (es : List Event). Goes seen es (Stands n (k + 1) (k + 1) (k + 1))) (person_parts n k)
    (goes_then (Stands n (k + 1) k k) (Stands n (k + 1) (k + 1) (k + 1)) (backed_up n k) (restored n k ++ person_added k ∷ person_linked k ∷ exchange n k) seen (backup_goes n k seen s)
    (λ v t. goes_then (Stands n (k + 1) (k + 1) k) (Stands n (k + 1) (k + 1) (k + 1)) (restored n k) (person_added k ∷ person_linked k ∷ exchange n k) v (restored_goes n k v inside t) rest))
  where
    small : IsSmall k
    small = omega arith

    rest : (v : Seen) → Stands n (k + 1) (k + 1) k v → Goes v (person_added k ∷ person_linked k ∷ exchange n k) (Stands n (k + 1) (k + 1) (k + 1))
    rest v t =
        goes_then (Stands n (k + 1) (k + 1) k) (Stands n (k + 1) (k + 1) (k + 1)) (person_added k ∷ person_linked k ∷ []) (exchange n k) v
        (quiet_go (Stands n (k + 1) (k + 1) k) (person_added k ∷ person_linked k ∷ []) v (person_quiet k small, (link_quiet k, tt)) t.controllers t)
        (λ u f. exchange_goes n k u small f)

persons_go : (n : ℕ) → n < 2 ^ 64 → (m k : ℕ) (seen : Seen) → k + m ≤ 5 * n → Stands n k k k seen → Goes seen (flat_map (person_lines n) (range_with_len k m)) HasFour
persons_go n few zero k seen h s = (tt, s.controllers)
persons_go n few (suc m) k seen h s =
    goes_then (Stands n (k + 1) (k + 1) (k + 1)) HasFour (person_lines n k) (flat_map (person_lines n) (range_with_len (k + 1) m)) seen
    (person_goes n k seen few (omega arith) s)
    (λ v t. persons_go n few m (k + 1) v (omega arith) t)

-- ---- the whole

beginning_goes : (n : ℕ) → Goes nothing_seen beginning (Stands n 0 0 0)
unfolding beginning identifier
beginning_goes n = (
  (
    refl,
    time_allowed 1000 (omega arith),
    (
      refl,
      controller_allowed (codes "A") 0xa0 0xa1 refl,
      (
        refl,
        controller_allowed (codes "B") 0xb0 0xb1 refl,
        (refl, controller_allowed (codes "C") 0xc0 0xc1 refl, (refl, controller_allowed (codes "D") 0xd0 0xd1 refl, tt)),
      ),
    ),
  ),
  record { controllers = refl; no_image = λ h. refl; image = λ (h : 2 * n < 0). absurd (omega arith); invs = λ h. refl; requests = tt; replies = tt },
)

-- the lists of lines from some place on

abbrev from_collections : List Event
from_collections = collections ++ rounds 1

abbrev behind_deletions : List Event
behind_deletions = rounds 6 ++ from_collections

abbrev from_deletions : ℕ → List Event
from_deletions n = deletions n ++ behind_deletions

abbrev behind_persons : ℕ → List Event
behind_persons n = rounds 6 ++ from_deletions n

abbrev from_persons : ℕ → List Event
from_persons n = persons n ++ behind_persons n

abbrev behind_groups : ℕ → List Event
behind_groups n = rounds 1 ++ from_persons n

abbrev from_groups : ℕ → List Event
from_groups n = groups ++ behind_groups n

behind_persons_quiet : (n : ℕ) → AreQuiet (behind_persons n)
behind_persons_quiet n =
    let collecting = quiet_append collections (rounds 1) collections_quiet (rounds_quiet 1) in
    let deleted = quiet_append (rounds 6) from_collections (rounds_quiet 6) collecting in
    quiet_append (rounds 6) (from_deletions n) (rounds_quiet 6) (quiet_append (deletions n) behind_deletions (deletions_quiet n) deleted)

persons_follow : (n : ℕ) → n < 2 ^ 64 → (seen : Seen) → Stands n 0 0 0 seen → Goes seen (from_persons n) HasFour
persons_follow n few seen s =
    goes_then HasFour HasFour (persons n) (behind_persons n) seen (persons_go n few (5 * n) 0 seen (omega arith) s)
    (λ v t. quiet_go HasFour (behind_persons n) v (behind_persons_quiet n) t t)

groups_follow : (n : ℕ) → n < 2 ^ 64 → (seen : Seen) → Stands n 0 0 0 seen → Goes seen (from_groups n) HasFour
groups_follow n few seen s =
    goes_then (Stands n 0 0 0) HasFour groups (behind_groups n) seen (quiet_go (Stands n 0 0 0) groups seen (groups_quiet 10 0 (omega arith)) s.controllers s)
    (λ v t. goes_then (Stands n 0 0 0) HasFour (rounds 1) (from_persons n) v (quiet_go (Stands n 0 0 0) (rounds 1) v (rounds_quiet 1) t.controllers t)
    (persons_follow n few))

-- the schedule, its parts one behind the other
schedule_parts : (n : ℕ) → schedule n ≡ beginning ++ from_groups n
schedule_parts n =
    let to_groups = beginning ++ groups in
    let to_round = to_groups ++ rounds 1 in
    let to_persons = to_round ++ persons n in
    let to_rounds = to_persons ++ rounds 6 in
    let to_deletions = to_rounds ++ deletions n in
    append_assoc (to_deletions ++ rounds 6) collections (rounds 1)
    ∙ (append_assoc to_deletions (rounds 6) from_collections
    ∙ (append_assoc to_rounds (deletions n) behind_deletions
    ∙ (append_assoc to_persons (rounds 6) (from_deletions n)
    ∙ (append_assoc to_round (persons n) (behind_persons n)
    ∙ (append_assoc to_groups (rounds 1) (from_persons n)
    ∙ append_assoc beginning groups (behind_groups n))))))

pub schedules_follow : SchedulesFollow
schedules_follow n few = subst (IsFollowing nothing_seen) (sym (schedule_parts n)) (goes_then (Stands n 0 0 0) HasFour beginning (from_groups n) nothing_seen (beginning_goes n) (groups_follow n few)).0
