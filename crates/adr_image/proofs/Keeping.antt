-- What is kept of the units read so far is all that the next one needs of them.
use Rattle.std.proofs.Common.{◌≡◌, ℕ, ◌+◌, ◌-◌, ◌<◌, ◌≤◌, Bool, true, false, cond, eqb, List, [], ◌∷◌, ◌++◌, map, fold, Option, Some, Result, Ok, Err, refl, sym, ap, ◌∙◌, append_assoc, append-nil, arith}
use Rattle.std.specs.Prelude.{OnOk, not, ◌&&◌, ◌||◌, filter, unwrap_or}
use Rattle.std.specs.List.{flat_map, list_all}
use Rattle.std.specs.Ordering.{nat_cmp}
use Rattle.std.specs.BTreeSet.{insert_key}
use Rattle.std.proofs.lemmas.Grind.{flat_map-append}
use Rattle.std.proofs.lemmas.List.Sums.{fold-append}
use Rattle.std.proofs.lemmas.Map.Lookups.{exact_unsigned}
use Rattle.adr_values.specs.declared.failure.Failure.{Failure}
use Rattle.adr_values.specs.declared.stamp.Oid.{Oid}
use Rattle.adr_values.specs.declared.stamp.LinkKey.{LinkKey}
use Rattle.adr_values.specs.Order.{object_order, link_order}
use Rattle.adr_values.proofs.ExactOrders.{exact_objects}
use Rattle.adr_values.specs.Table.{Table, has, kind_at, is_forward, must_of}
use Rattle.adr_wire.specs.declared.refusal.Malformed.{Malformed}
use Rattle.adr_wire.specs.Reading.{Rest, Read, Reading, Refuses, as_at, where_at, then_at, is_above, passing_at, gathered_at}
use Rattle.adr_wire.specs.Fields.{u16_at, flag_at}
use Rattle.adr_wire.specs.Composites.{oid_at, link_stamp_at}
use Rattle.adr_wire.specs.Gathering.{sooner}
use Rattle.adr_wire.proofs.Loops.{with_front, goes_on, ends, is_done}
use Rattle.adr_model.specs.Update.{same_object}
use Rattle.adr_model.specs.Live.{is_among}
use Rattle.adr_model.specs.Write.{usn_limit}
use Rattle.adr_law_tree.proofs.Kept.{any_folded}
use Rattle.adr_image.specs.declared.gathered.Objects.{Objects}
use Rattle.adr_image.specs.declared.links.Links.{Links}
use Rattle.adr_image.specs.Image.{HeldRow, Rows, HeldLink, local_at, no_rows, with_held, held_row_at, has_attr, told_by, last_of, Earlier, no_objects, with_rows, named_at, object_with, object_at, is_dead, Linked, with_link, key_with, local_and_key, link_behind, link_at}
use Rattle.adr_image.specs.Whole.{dead_of, no_links}
use Rattle.adr_image.specs.Stored.{link_of, rows_of_object}
use Rattle.adr_image.specs.Seen.{IsDeadToo, KeepsObjects, KeepsLinks}

-- ---- readings look at what was used, and at who is dead, by tests alone

abbrev whole_by : Table → (ℕ → Bool) → List HeldRow → Bool
whole_by table used rows =
    has_attr 1 rows && has_attr 2 rows
    && (cond (has_attr 3 rows) true (list_all (λ attr. has_attr attr rows) (must_of table (unwrap_or (told_by rows).class 0))))
    && not (used (last_of rows))

abbrev with_by : Reading ℕ → Table → Option Oid → (ℕ → Bool) → Reading Rows
with_by number table last used rest =
    passing_at rest.place (λ o. whole_by table used o.1)
    (then_at (named_at last)
    (λ o. as_at (λ p. p.1) (then_at u16_at (λ count. gathered_at with_held (held_row_at number rest.place table o) count no_rows)))) rest

abbrev object_by : ℕ → Table → Option Oid → (ℕ → Bool) → Reading Rows
object_by usn table last used = sooner (with_by (local_at usn_limit) table last used) (with_by (local_at usn) table last used)

pub object_same : (usn : ℕ) (table : Table) (last : Option Oid) (u v : List ℕ) → ((n : ℕ) → has u n ≡ has v n) → (rest : Rest) → object_at usn table (record { last = last; used = u }) rest ≡ object_at usn table (record { last = last; used = v }) rest
unfolding object_at object_with
object_same usn table last u v same rest = ap (λ (t : ℕ → Bool). object_by usn table last t rest) (λ i n. same n i)

abbrev key_by : (ℕ → Bool) → ℕ → (Oid → Bool) → Option LinkKey → Reading LinkKey
key_by forward owner dead last =
    passing_at owner (λ k. is_above link_order last k && not (dead k.to))
    (as_at (λ p. record { from = p.0; attr = p.1.0; to = p.1.1 })
    (then_at (passing_at owner (λ o. not (dead o)) oid_at) (λ _. then_at (where_at forward u16_at) (λ _. oid_at))))

abbrev local_by : (ℕ → Bool) → ℕ → (Oid → Bool) → Option LinkKey → (ℕ → Bool) → Reading (ℕ × LinkKey)
local_by forward usn dead last used rest = then_at (where_at (λ n. not (used n)) (local_at usn)) (λ _. key_by forward rest.place dead last) rest

abbrev link_by : Table → ℕ → (Oid → Bool) → Option LinkKey → (ℕ → Bool) → Reading HeldLink
link_by table usn dead last used =
    sooner (local_by (λ _. true) usn dead last used)
    (as_at (λ p. (p.0.0, (p.0.1, p.1.0, p.1.1))) (then_at (local_by (λ attr. is_forward (kind_at table attr)) usn dead last used) (λ _. then_at link_stamp_at (λ _. flag_at))))

pub link_same : (usn : ℕ) (table : Table) (last : Option LinkKey) (a b : List Oid) (u v : List ℕ) → ((o : Oid) → is_among a o ≡ is_among b o) → ((n : ℕ) → has u n ≡ has v n) → (rest : Rest)
    → link_at usn table a (record { last = last; used = u }) rest ≡ link_at usn table b (record { last = last; used = v }) rest
unfolding link_at link_behind local_and_key key_with
link_same usn table last a b u v dead same rest =
    ap (λ (t : ℕ → Bool). link_by table usn (is_among a) last t rest) (λ i n. same n i) ∙ ap (λ (d : Oid → Bool). link_by table usn d last (has v) rest) (λ i o. dead o i)

-- ---- one more unit

or_turn : (a b : Bool) → (a || (b || false)) ≡ (b || a)
or_turn true true = refl
or_turn true false = refl
or_turn false true = refl
or_turn false false = refl

pub used_more : (keys used : List ℕ) (n : ℕ) → ((m : ℕ) → has keys m ≡ has used m) → (m : ℕ) → has (insert_key nat_cmp keys n) m ≡ has (n ∷ used) m
used_more keys used n same m = any_folded nat_cmp exact_unsigned (λ x. eqb x m) (n ∷ []) keys ∙ or_turn (has keys m) (eqb n m) ∙ ap (λ (b : Bool). eqb n m || b) (same m)

or_none : (b : Bool) → (b || false) ≡ b
or_none true = refl
or_none false = refl

pub one_dead : (keys : List Oid) (o : Oid) → IsDeadToo keys (insert_key object_order keys o) true o
one_dead keys o p = any_folded object_order exact_objects (λ x. same_object x p) (o ∷ []) keys ∙ ap (λ (b : Bool). is_among keys p || b) (or_none (same_object o p))

or_assoc : (a b c : Bool) → (a || (b || c)) ≡ ((a || b) || c)
or_assoc true b c = refl
or_assoc false b c = refl

dead_more : (os : List Rows) (o : Rows) → IsDeadToo (dead_of os) (dead_of (os ++ o ∷ [])) (is_dead o) o.0
dead_more [] o p = by (is_dead o)
  where
    by : (b : Bool) → is_among (map (λ (x : Rows). x.0) (cond b (o ∷ []) [])) p ≡ (b && same_object o.0 p)
    by true = or_none (same_object o.0 p)
    by false = refl
dead_more (x ∷ xs) o p = by (is_dead x) (dead_more xs o p)
  where
    by : (b : Bool) → is_among (dead_of (xs ++ o ∷ [])) p ≡ (is_among (dead_of xs) p || (is_dead o && same_object o.0 p))
        → is_among (map (λ (y : Rows). y.0) (cond b (x ∷ filter is_dead (xs ++ o ∷ [])) (filter is_dead (xs ++ o ∷ [])))) p
        ≡ (is_among (map (λ (y : Rows). y.0) (cond b (x ∷ filter is_dead xs) (filter is_dead xs))) p || (is_dead o && same_object o.0 p))
    by true rest = ap (λ (b : Bool). same_object x.0 p || b) rest ∙ or_assoc (same_object x.0 p) (is_among (dead_of xs) p) (is_dead o && same_object o.0 p)
    by false rest = rest

pub keeps_object : (k j : Objects) (os : List Rows) (o : Rows) → KeepsObjects k os → j.rows.items ≡ k.rows.items ++ rows_of_object o → j.last ≡ Some o.0 → j.used.keys ≡ insert_key nat_cmp k.used.keys (last_of o.1)
    → IsDeadToo k.dead.keys j.dead.keys (is_dead o) o.0 → KeepsObjects j (os ++ o ∷ [])
keeps_object k j os o h rows last used dead =
    let known : fold with_rows no_objects (os ++ o ∷ []) ≡ with_rows (fold with_rows no_objects os) o = fold-append with_rows no_objects os (o ∷ []) in
    record {
      rows = rows ∙ ap (λ hs. hs ++ rows_of_object o) h.rows ∙ sym (flat_map-append rows_of_object os (o ∷ []) ∙ ap (λ hs. flat_map rows_of_object os ++ hs) (append-nil (rows_of_object o)));
      last = last ∙ ap (λ (e : Earlier). e.last) (sym known);
      used = λ m. ap (λ (keys : List ℕ). has keys m) used ∙ used_more k.used.keys (fold with_rows no_objects os).used (last_of o.1) h.used m ∙ ap (λ (e : Earlier). has e.used m) (sym known);
      dead = λ p. dead p ∙ ap (λ (b : Bool). b || (is_dead o && same_object o.0 p)) (h.dead p) ∙ sym (dead_more os o p);
    }

pub object_next : (usn : ℕ) (table : Table) (k : Objects) (os : List Rows) → KeepsObjects k os → (rest : Rest)
    → object_at usn table (record { last = k.last; used = k.used.keys }) rest ≡ object_at usn table (fold with_rows no_objects os) rest
object_next usn table k os h rest =
    object_same usn table k.last k.used.keys (fold with_rows no_objects os).used h.used rest
    ∙ ap (λ (last : Option Oid). object_at usn table (record { last = last; used = (fold with_rows no_objects os).used }) rest) h.last

pub keeps_link : (os : List Rows) (k j : Links) (ls : List HeldLink) (l : HeldLink) → KeepsLinks os k ls → j.rows.items ≡ k.rows.items ++ (link_of l ∷ []) → j.last ≡ Some l.1.0 → j.used.keys ≡ insert_key nat_cmp k.used.keys l.0
    → j.dead ≡ k.dead → KeepsLinks os j (ls ++ l ∷ [])
keeps_link os k j ls l h rows last used dead =
    let known : fold with_link (no_links os) (ls ++ l ∷ []) ≡ with_link (fold with_link (no_links os) ls) l = fold-append with_link (no_links os) ls (l ∷ []) in
    record {
      rows = rows ∙ ap (λ hs. hs ++ (link_of l ∷ [])) h.rows ∙ append_assoc (flat_map rows_of_object os) (map link_of ls) (link_of l ∷ []) ∙ ap (λ hs. flat_map rows_of_object os ++ hs) (sym (mapped ls));
      last = last ∙ ap (λ (e : Linked). e.last) (sym known);
      used = λ m. ap (λ (keys : List ℕ). has keys m) used ∙ used_more k.used.keys (fold with_link (no_links os) ls).used l.0 h.used m ∙ ap (λ (e : Linked). has e.used m) (sym known);
      dead = λ p. ap (λ s. is_among s.keys p) dead ∙ h.dead p;
    }
  where
    mapped : (ms : List HeldLink) → map link_of (ms ++ l ∷ []) ≡ map link_of ms ++ (link_of l ∷ [])
    mapped [] = refl
    mapped (m ∷ ms) = ap (λ hs. link_of m ∷ hs) (mapped ms)

pub link_next : (usn : ℕ) (table : Table) (os : List Rows) (k : Links) (ls : List HeldLink) → KeepsLinks os k ls → (rest : Rest)
    → link_at usn table k.dead.keys (record { last = k.last; used = k.used.keys }) rest ≡ link_at usn table (dead_of os) (fold with_link (no_links os) ls) rest
link_next usn table os k ls h rest =
    link_same usn table k.last k.dead.keys (dead_of os) k.used.keys (fold with_link (no_links os) ls).used h.dead h.used rest
    ∙ ap (λ (last : Option LinkKey). link_at usn table (dead_of os) (record { last = last; used = (fold with_link (no_links os) ls).used }) rest) h.last

-- ---- a loop that gathers elements and keeps something of them

module _ {K S E : Type 0} (step : S → E → S) (element : S → Reading E) (start : S) (Keeps : K → List E → Type 0) (count : ℕ) (total : Read (List E)) where
  abbrev pub IsAmid : ℕ → K → Rest → Type 0
  IsAmid i k rest = (front : List E) × Keeps k front × (with_front front (gathered_at step element (count - i) (fold step start front) rest) ≡ total)

  none_in_front : (r : Read (List E)) → with_front [] r ≡ r
  none_in_front (Ok x) = refl
  none_in_front (Err place) = refl

  pub sets_out : (k : K) (rest : Rest) → Keeps k [] → gathered_at step element count start rest ≡ total → IsAmid 0 k rest
  sets_out k rest keeps e =
      let all : count - 0 ≡ count = omega arith in
      ([], keeps, none_in_front (gathered_at step element (count - 0) start rest) ∙ ap (λ (n : ℕ). gathered_at step element n start rest) all ∙ e)

  pub goes_further : (i : ℕ) (k j : K) (rest after : Rest) → i < count → IsAmid i k rest → ((front : List E) → Keeps k front → (e : E) × (element (fold step start front) rest ≡ Ok (e, after)) × Keeps j (front ++ e ∷ []))
      → IsAmid (i + 1) j after
  goes_further i k j rest after lt amid next =
      let one = next amid.0 amid.1 in (
        amid.0 ++ one.0 ∷ [],
        one.2,
        ap (λ (known : S). with_front (amid.0 ++ one.0 ∷ []) (gathered_at step element (count - (i + 1)) known after)) (fold-append step start amid.0 (one.0 ∷ []))
            ∙ goes_on step element amid.0 count i (fold step start amid.0) rest total one.0 after lt one.1 amid.2,
      )

  pub breaks_off : (e : Failure Malformed) (i : ℕ) (k : K) (rest : Rest) → i < count → IsAmid i k rest → ((front : List E) → Keeps k front → Refuses e (element (fold step start front) rest)) → Refuses e total
  breaks_off e i k rest lt amid refused = ends step element amid.0 count i (fold step start amid.0) rest total e lt (refused amid.0 amid.1) amid.2

  pub arrives : (i : ℕ) (k : K) (rest : Rest) → count ≤ i → IsAmid i k rest → (es : List E) × (total ≡ Ok (es, rest)) × Keeps k es
  arrives i k rest le amid = (amid.0, is_done step element amid.0 count i (fold step start amid.0) rest total le amid.2, amid.1)

pub on_ok_then : {T E : Type 0} {A B : Type 0} (r : Result T E) → OnOk r A → (A → B) → OnOk r B
on_ok_then (Ok x) a to = to a
on_ok_then (Err e) a to = a
