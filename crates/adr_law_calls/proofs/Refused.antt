-- By what a sound reply isn't refused.
use Rattle.std.proofs.Common.{◌≡◌, ◌≢◌, inl, inr, ℕ, ◌≤◌, List, [], ◌∷◌, Bool, true, false, Option, Some, None, refl, sym, ◌∙◌, subst, arith, not, length, fold, Err}
use Rattle.std.specs.Prelude.{nat_lt}
use Rattle.std.specs.Bool.{then_some}
use Rattle.std.specs.Option.{option_map, option_map_or, IfSome}
use Rattle.std.proofs.lemmas.Bool.{true≢false, le-ltb}
use Rattle.adr_values.specs.declared.stamp.Oid.{Oid}
use Rattle.adr_values.specs.declared.stamp.Unit.{Unit as Named}
use Rattle.adr_values.specs.declared.stamp.Unit.TheVariants.{Object, Link}
use Rattle.adr_values.specs.Numbered.{numbered}
use Rattle.adr_values.specs.Table.{Table as Schema}
use Rattle.adr_values.specs.Vector.{Cursors, at, first_gap, cursor_limit}
use Rattle.adr_values.specs.declared.mark.Mark.{Mark}
use Rattle.adr_call.specs.declared.refusal.Table.{Table}
use Rattle.adr_call.specs.declared.refusal.Table.TheVariants.{Objects, Links, Cursors as CursorTable, Marks}
use Rattle.adr_call.specs.declared.refusal.ItemFault.{ItemFault}
use Rattle.adr_call.specs.declared.refusal.TakeRefusal.{TakeRefusal}
use Rattle.adr_call.specs.declared.refusal.TakeRefusal.TheVariants.{Quarantined, NotMine, Stale, VectorBehind, SchemaMismatch, RolledBack, BadItem, Incomplete, UsnLimit, Full}
use Rattle.adr_model.specs.Member.{Member, Each}
use Rattle.adr_values.specs.First.{first_of}
use Rattle.adr_model.specs.Update.{Identifier, Update, same_identifier}
use Rattle.adr_model.specs.Store.{Held, State}
use Rattle.adr_model.specs.Change.{Item, after}
use Rattle.adr_model.specs.Serve.{Reply, is_quarantined}
use Rattle.adr_model.specs.Write.{object_limit, link_limit, usn_limit}
use Rattle.adr_model.specs.Take.{Taking, begin, lacks, Presence, object_lacks, incomplete, item_fault, item_refusal, take_item, kept_mark, shown_by_last, over_limit, mark_limit, take_items, taken_change, take_refusal, take}
use Rattle.adr_model.specs.Replica.{Book}
use Rattle.adr_model.specs.Sound.{IsSoundBook, IsSoundState, IsSoundLast, IsSoundReply}
use Rattle.adr_law_knowledge.proofs.Refusing.{unmet, where_it_is, none_is, first_is, tested_is, refused_by, mapped_is}
use Rattle.adr_law_calls.specs.OnTheWay.{IsTakeable, IsTakenSoFar, stale, lags, other_schema, put_back}
use Rattle.adr_law_calls.proofs.Standings.{each_presence}
use Rattle.adr_law_calls.proofs.Granted.{takeable}
use Rattle.adr_law_calls.proofs.Items.{starts, on_the_way}
use Rattle.adr_law_calls.proofs.ItemWhole.{item_is_sound, item_is_whole}

module _ (harm : TakeRefusal → Bool) where
  -- a refusal that is none of the harmful ones
  abbrev pub IsCalm : TakeRefusal → Type 0
  IsCalm x = harm x ≡ false

  abbrev pub IsHarmless : Option TakeRefusal → Type 0
  IsHarmless o = IfSome o IsCalm

  twelve_are_harmless : (a b c d e f g h i j k l : Option TakeRefusal) → IsHarmless a → IsHarmless b → IsHarmless c → IsHarmless d → IsHarmless e → IsHarmless f
      → (c ≡ None → d ≡ None → e ≡ None → IsHarmless g) → IsHarmless h → IsHarmless i → IsHarmless j → IsHarmless k → IsHarmless l
      → IsHarmless (first_of (a ∷ b ∷ c ∷ d ∷ e ∷ f ∷ g ∷ h ∷ i ∷ j ∷ k ∷ l ∷ []))
  twelve_are_harmless a b c d e f g h i j k l pa pb pc pd pe pf pg ph pi pj pk pl =
      first_is IsCalm a _ pa (λ na. first_is IsCalm b _ pb (λ nb. first_is IsCalm c _ pc (λ nc. first_is IsCalm d _ pd (λ nd. first_is IsCalm e _ pe (λ ne.
      first_is IsCalm f _ pf (λ nf. first_is IsCalm g _ (pg nc nd ne) (λ ng. first_is IsCalm h _ ph (λ nh. first_is IsCalm i _ pi (λ ni. first_is IsCalm j _ pj (λ nj.
      first_is IsCalm k _ pk (λ nk. first_is IsCalm l [] pl (λ nl. tt))))))))))))

-- a test that is met by refusals of items and by a rollback alone
pub record IsOfItems (harm : TakeRefusal → Bool) : Type 0 where
  pub quarantined : harm Quarantined ≡ false
  pub not_mine : (dest : Identifier) → harm (NotMine dest) ≡ false
  pub stale : (mark from : Mark) → harm (Stale mark from) ≡ false
  pub behind : (inv : Identifier) (has needs : ℕ) → harm (VectorBehind inv has needs) ≡ false
  pub schema : (mine theirs : ℕ) → harm (SchemaMismatch mine theirs) ≡ false
  pub usn : harm UsnLimit ≡ false
  pub full : (table : Table) (limit : ℕ) → harm (Full table limit) ≡ false

module _ (harm : TakeRefusal → Bool) (book : Book) (s : State) (r : Reply) (may : IsTakeable book s r)
    (item : (t : Taking) → IsTakenSoFar book s r t → (i : Item) → Member i r.items → IsHarmless harm (item_refusal (numbered s.store.schema) s.store.vector t.rows t.place i)) where
  items_are_harmless : (is : List Item) (t : Taking) → IsTakenSoFar book s r t → Each (λ i. Member i r.items) is → IsHarmless harm t.refusal → IsHarmless harm (fold (take_item (numbered s.store.schema) s.store.vector) t is).refusal
  items_are_harmless [] t way among h = h
  items_are_harmless (i ∷ is) t way among h =
      items_are_harmless is (take_item (numbered s.store.schema) s.store.vector t i) (on_the_way book s r may t way i (among i (inl refl))) (λ j m. among j (inr m))
      (first_is (IsCalm harm) t.refusal (item_refusal (numbered s.store.schema) s.store.vector t.rows t.place i ∷ []) h
      (λ _. first_is (IsCalm harm) (item_refusal (numbered s.store.schema) s.store.vector t.rows t.place i) [] (item t way i (among i (inl refl))) (λ _. tt)))

  all_are_harmless : IsHarmless harm (take_items s r.items).refusal
  all_are_harmless = items_are_harmless r.items (begin s) (starts book s r may) (λ i m. m) (none_is (IsCalm harm) None refl)

module _ (harm : TakeRefusal → Bool) (of_items : IsOfItems harm) (book : Book) (s : State) (r : Reply) (sound_book : IsSoundBook book) (state : IsSoundState book s) (reply : IsSoundReply book r)
    (rolled : IsHarmless harm (put_back s r)) (items : IsTakeable book s r → IsHarmless harm (take_items s r.items).refusal) where
  full_is_harmless : (table : Table) (limit count : ℕ) → IsHarmless harm (over_limit table limit count)
  full_is_harmless table limit count = tested_is (IsCalm harm) (nat_lt limit count) (Full table limit) (of_items.full table limit)

  pub not_refused : (x : TakeRefusal) → take s r ≡ Err x → harm x ≡ false
  not_refused x e = where_it_is (IsCalm harm) (take_refusal s r (take_items s r.items) (after s (taken_change s r (take_items s r.items)))) x (judged (take_items s r.items) (after s (taken_change s r (take_items s r.items))) items) (refused_by (take_refusal s r (take_items s r.items) (after s (taken_change s r (take_items s r.items)))) (taken_change s r (take_items s r.items)) x e)
    where
      judged : (t : Taking) (d : State) → (IsTakeable book s r → IsHarmless harm t.refusal) → IsHarmless harm (take_refusal s r t d)
      judged t d found = twelve_are_harmless harm
          (then_some (is_quarantined s.mode) Quarantined) (then_some (not (same_identifier r.dest s.dsa)) (NotMine r.dest)) (stale s r) (lags s r) (other_schema s r) (put_back s r)
          t.refusal (then_some (nat_lt usn_limit t.usn) UsnLimit) (over_limit Objects object_limit t.objects) (over_limit Links link_limit t.links)
          (over_limit CursorTable cursor_limit (length d.store.vector)) (over_limit Marks mark_limit (length d.store.marks))
          (tested_is (IsCalm harm) _ Quarantined of_items.quarantined) (tested_is (IsCalm harm) _ (NotMine r.dest) (of_items.not_mine r.dest)) (tested_is (IsCalm harm) _ (Stale (kept_mark s r) r.from) (of_items.stale (kept_mark s r) r.from)) (mapped_is (λ g. VectorBehind g.0 g.1 g.2) (IsCalm harm) (λ g. of_items.behind g.0 g.1 g.2) (first_gap r.asked s.store.vector)) (tested_is (IsCalm harm) _ (SchemaMismatch s.store.schema r.schema) (of_items.schema s.store.schema r.schema)) rolled
          (λ nc nd ne. found (takeable book s r sound_book state reply nc nd ne)) (tested_is (IsCalm harm) _ UsnLimit of_items.usn)
          (full_is_harmless Objects object_limit t.objects) (full_is_harmless Links link_limit t.links) (full_is_harmless CursorTable cursor_limit (length d.store.vector)) (full_is_harmless Marks mark_limit (length d.store.marks))

-- ---- no item is broken, and no rollback is found

abbrev is_broken : TakeRefusal → Bool
is_broken (BadItem place cause) = true
is_broken (RolledBack inv mine shown) = true
is_broken _ = false

abbrev is_incomplete : TakeRefusal → Bool
is_incomplete (Incomplete o) = true
is_incomplete _ = false

breaks : IsOfItems is_broken
breaks = record { quarantined = refl; not_mine = λ d. refl; stale = λ m f. refl; behind = λ i h n. refl; schema = λ m t. refl; usn = refl; full = λ t l. refl }

lack : IsOfItems is_incomplete
lack = record { quarantined = refl; not_mine = λ d. refl; stale = λ m f. refl; behind = λ i h n. refl; schema = λ m t. refl; usn = refl; full = λ t l. refl }

incomplete_alone : (table : Schema) (vector : Cursors) (rows : List Held) (unit : Named) (xs : List Update) → IsHarmless is_broken (incomplete table vector rows (record { unit = unit; rows = xs }))
incomplete_alone table vector rows (Object o) xs = each_presence vector rows o (λ (p : Presence). IsHarmless is_broken (then_some (object_lacks table xs p) (Incomplete o)))
    (λ tombstone. none_is (IsCalm is_broken) None refl) (λ alive holds. none_is (IsCalm is_broken) None refl) (λ absent covers. none_is (IsCalm is_broken) None refl) (λ absent missed. tested_is (IsCalm is_broken) (lacks table xs) (Incomplete o) refl)
incomplete_alone table vector rows (Link l) xs = none_is (IsCalm is_broken) None refl

faultless : (fault : Option ItemFault) (place : ℕ) → fault ≡ None → (other : Option TakeRefusal) → first_of (option_map (BadItem place) fault ∷ other ∷ []) ≡ other
faultless None place e None = refl
faultless None place e (Some x) = refl
faultless (Some x) place e other = absurd (cc)

shown_within : (book : Book) (s : State) (r : Reply) → IsSoundState book s → (last : Option Cursors) → IfSome last (IsSoundLast book r) → option_map_or (λ v. at v s.inv) last 0 ≤ s.store.usn
shown_within book s r state None h = omega arith
shown_within book s r state (Some w) h = omega (arith, h.bounded s.inv, state.last)

module _ (book : Book) (s : State) (r : Reply) (sound_book : IsSoundBook book) (state : IsSoundState book s) (reply : IsSoundReply book r) where
  sound_item : (may : IsTakeable book s r) (t : Taking) → IsTakenSoFar book s r t → (i : Item) → Member i r.items
      → item_refusal (numbered s.store.schema) s.store.vector t.rows t.place i ≡ incomplete (numbered s.store.schema) s.store.vector t.rows i
  sound_item may t way i m = faultless (item_fault (numbered s.store.schema) s.store.vector t.rows i) t.place (item_is_sound book s r may t.rows way.rows i.unit i.rows (reply.exact i m)) (incomplete (numbered s.store.schema) s.store.vector t.rows i)

  pub not_broken : (x : TakeRefusal) → take s r ≡ Err x → is_broken x ≡ false
  not_broken = not_refused is_broken breaks book s r sound_book state reply
      (none_is (IsCalm is_broken) (put_back s r) (unmet _ _ (le-ltb s.store.usn (shown_by_last s r) (shown_within book s r state r.last reply.last))))
      (λ may. all_are_harmless is_broken book s r may (λ t way i m. subst (IsHarmless is_broken) (sym (sound_item may t way i m)) (incomplete_alone (numbered s.store.schema) s.store.vector t.rows i.unit i.rows)))

  whole_item : (may : IsTakeable book s r) (t : Taking) → IsTakenSoFar book s r t → (i : Item) → Member i r.items → item_refusal (numbered s.store.schema) s.store.vector t.rows t.place i ≡ None
  whole_item may t way i m = let first = (reply.exact i m).some in sound_item may t way i m ∙ item_is_whole book s r may t.rows way.rows i.unit i.rows (reply.exact i m) first.0 first.1

  pub not_incomplete : (x : TakeRefusal) → take s r ≡ Err x → is_incomplete x ≡ false
  not_incomplete = not_refused is_incomplete lack book s r sound_book state reply
      (tested_is (IsCalm is_incomplete) (nat_lt s.store.usn (shown_by_last s r)) (RolledBack s.inv s.store.usn (shown_by_last s r)) refl)
      (λ may. all_are_harmless is_incomplete book s r may (λ t way i m. none_is (IsCalm is_incomplete) (item_refusal (numbered s.store.schema) s.store.vector t.rows t.place i) (whole_item may t way i m)))

pub no_broken_item : (book : Book) (s : State) (r : Reply) (place : ℕ) (cause : ItemFault) → IsSoundBook book → IsSoundState book s → IsSoundReply book r → take s r ≢ Err (BadItem place cause)
no_broken_item book s r place cause sound_book state reply e = true≢false (not_broken book s r sound_book state reply (BadItem place cause) e)

pub no_rollback : (book : Book) (s : State) (r : Reply) (inv : Identifier) (mine shown : ℕ) → IsSoundBook book → IsSoundState book s → IsSoundReply book r → take s r ≢ Err (RolledBack inv mine shown)
no_rollback book s r inv mine shown sound_book state reply e = true≢false (not_broken book s r sound_book state reply (RolledBack inv mine shown) e)

pub no_incomplete_item : (book : Book) (s : State) (r : Reply) (o : Oid) → IsSoundBook book → IsSoundState book s → IsSoundReply book r → take s r ≢ Err (Incomplete o)
no_incomplete_item book s r o sound_book state reply e = true≢false (not_incomplete book s r sound_book state reply (Incomplete o) e)

-- no item of a reply that may be taken is refused
pub items_are_whole : (book : Book) (s : State) (r : Reply) → IsSoundState book s → IsTakeable book s r → (take_items s r.items).refusal ≡ None
items_are_whole book s r state may = by (take_items s r.items).refusal refl
  where
    harmless : IsHarmless (λ x. true) (take_items s r.items).refusal
    harmless = all_are_harmless (λ x. true) book s r may
        (λ t way i m. none_is (IsCalm (λ x. true)) (item_refusal (numbered s.store.schema) s.store.vector t.rows t.place i) (whole_item book s r may.book state may.reply may t way i m))

    by : (o : Option TakeRefusal) → (take_items s r.items).refusal ≡ o → o ≡ None
    by None e = refl
    by (Some x) e = absurd (true≢false (where_it_is (IsCalm (λ x. true)) (take_items s r.items).refusal x harmless e))
