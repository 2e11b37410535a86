-- What one controller asks, another answers and the first takes, where nothing is in the way.
use Rattle.std.proofs.Common.{◌≡◌, ◌⊎◌, inl, inr, ℕ, ◌≤◌, ◌+◌, List, [], ◌∷◌, Bool, true, false, Option, Some, None, Ok, Err, refl, sym, ap, ◌∙◌, subst, arith, not, ◌&&◌, ◌==◌, nat_le, if◌then◌else◌}
use Rattle.std.specs.Bool.{then_some}
use Rattle.std.specs.Option.{option_map, option_map_or}
use Rattle.std.proofs.lemmas.Map.Lookups.{exact_bytes}
use Rattle.std.specs.Prelude.{nat_lt, length}
use Rattle.std.proofs.lemmas.Bool.{and_parts, not-true, le-ltb, eq-eqb}
use Rattle.std.proofs.lemmas.Bool.Decides.{nat_tests}
use Rattle.adr_values.specs.Order.{identifier_order}
use Rattle.adr_values.specs.Vector.{at, at_most, first_gap, cursor_limit}
use Rattle.adr_values.specs.declared.mark.Mark.{Mark}
use Rattle.adr_values.proofs.Cursors.{test_itself}
use Rattle.adr_values.proofs.Comparing.{at_most_from_everywhere}
use Rattle.adr_call.specs.declared.refusal.ServeRefusal.TheVariants as serves
use Rattle.adr_call.specs.declared.refusal.Table.{Table}
use Rattle.adr_call.specs.declared.refusal.Table.TheVariants.{Objects, Links, Marks, Cursors as CursorTable}
use Rattle.adr_call.specs.declared.refusal.TakeRefusal.{TakeRefusal}
use Rattle.adr_call.specs.declared.refusal.TakeRefusal.TheVariants as takes
use Rattle.adr_model.specs.Cycles.{pull_version}
use Rattle.adr_model.specs.Member.{Member}
use Rattle.adr_values.specs.First.{first_of}
use Rattle.adr_model.specs.Refusing.{unless}
use Rattle.adr_model.specs.Update.{Update, unit_of, same_identifier}
use Rattle.adr_model.specs.Reflects.{Covers}
use Rattle.adr_model.specs.Visible.{covers_update}
use Rattle.adr_model.specs.Place.{identifier}
use Rattle.adr_model.specs.Store.{Held, Normal, Mode, State, updates_of, no_mark, kept_of, mark_of}
use Rattle.adr_model.specs.Change.{Item, Change, after}
use Rattle.adr_model.specs.Serve.{Request, Reply, is_quarantined, is_above_mark, is_unseen, sendable, item_of, candidates, byte_limit, first_items, ask, shown_by, serve_refusal, begins_at, reply_to, serve}
use Rattle.adr_model.specs.Write.{usn_limit, object_limit, link_limit}
use Rattle.adr_model.specs.Take.{Taking, same_mark, kept_mark, shown_by_last, mark_limit, over_limit, take_refusal, take_items, taken_change, take}
use Rattle.adr_model.specs.Replica.{Book}
use Rattle.adr_model.specs.Convergence.{units_beyond}
use Rattle.adr_model.specs.Sound.{IsSoundBook, IsSoundState, IsSoundRequest, IsSoundReply, IsSent}
use Rattle.adr_model.proofs.Members.{of_filter}
use Rattle.adr_law_knowledge.proofs.Refusing.{none_comes, unmet, where_it_is, all_is, tested_is, all_covered}
use Rattle.adr_law_knowledge.proofs.View.{tested_where_covered}
use Rattle.adr_law_calls.proofs.Rows.{updated}
use Rattle.adr_law_calls.proofs.Asked.{asked_is_sound}
use Rattle.adr_law_calls.proofs.GrantedSoundly.{served_is_sound, shown_within}
use Rattle.adr_law_calls.proofs.ServedSoundly.{item_is, row_is}
use Rattle.adr_law_calls.proofs.Tables.{entry_there, entry_itself}
use Rattle.adr_law_calls.proofs.Granted.{base_of, kept_is_sound}
use Rattle.adr_law_calls.proofs.Refused.{items_are_whole}
use Rattle.adr_law_convergence.proofs.Progress.{beyond, progress}

normal : (m : Mode) → m ≡ Normal → is_quarantined m ≡ false
normal m e = ap is_quarantined e

in_order : (a b c : ℕ) → a ≤ b → b ≤ c → not (nat_le a b && nat_le b c) ≡ false
in_order a b c le next = grind (arith, nat_tests)

same_mark_itself : (m : Mark) → not (same_mark m m) ≡ false
same_mark_itself m = grind (arith, nat_tests)

-- a refusal that says that a limit is met
abbrev pub IsLimit : TakeRefusal → Type 0
IsLimit x = (x ≡ takes.UsnLimit) ⊎ ((table : Table) × (limit : ℕ) × (x ≡ takes.Full table limit))

module _ (book : Book) (d s : State) (most now : ℕ) (sound_book : IsSoundBook book) (dest : IsSoundState book d) (source : IsSoundState book s) (d_normal : d.mode ≡ Normal) (s_normal : s.mode ≡ Normal)
    (schema : d.store.schema ≡ s.store.schema) (purged : at_most s.store.purged d.store.vector ≡ true) where
  abbrev pub q : Request
  q = ask d s.dsa most pull_version

  abbrev pub r : Reply
  r = reply_to s q now

  pub request_sound : IsSoundRequest book q
  request_sound = asked_is_sound book d s.dsa most pull_version dest.store

  pub serves_it : serve s q now ≡ Ok r
  serves_it = ap (λ o. unless o r) none
    where
      none : serve_refusal s q ≡ None
      none =
          none_comes (then_some (is_quarantined s.mode) serves.Quarantined) _ (unmet _ _ (normal s.mode s_normal))
          ∙ (none_comes (then_some (not (same_identifier q.source s.dsa)) (serves.WrongController s.dsa q.source)) _ (unmet _ _ (ap not (test_itself s.dsa)))
          ∙ (none_comes (then_some (not (nat_le q.mark.prop q.mark.obj && nat_le q.mark.obj q.mark.seen)) (serves.BadMark q.mark.prop q.mark.obj q.mark.seen)) _ (unmet _ _ (in_order q.mark.prop q.mark.obj q.mark.seen request_sound.ordered.prop request_sound.ordered.obj))
          ∙ (none_comes (then_some (nat_lt s.store.usn (shown_by s q)) (serves.RolledBack s.inv s.store.usn (shown_by s q))) _ (unmet _ _ (le-ltb s.store.usn (shown_by s q) (shown_within book s q source request_sound)))
          ∙ (none_comes (then_some (not (q.schema == s.store.schema)) (serves.SchemaMismatch s.store.schema q.schema)) _ (unmet _ _ (ap not (eq-eqb q.schema s.store.schema schema)))
          ∙ none_comes (option_map (λ gap. serves.TooOld gap.0 gap.2 gap.1) (first_gap s.store.purged q.vector)) [] (all_covered (λ gap. serves.TooOld gap.0 gap.2 gap.1) s.store.purged q.vector purged)))))

  pub reply_sound : IsSoundReply book r
  reply_sound = served_is_sound book s q now r sound_book source request_sound serves_it

  -- ---- taking it

  abbrev t : Taking
  t = take_items d r.items

  abbrev pub c : Change
  c = taken_change d r t

  whole : t.refusal ≡ None
  whole = items_are_whole book d r dest (record { book = sound_book; base = base_of book d dest; reply = reply_sound; mark = kept_is_sound book d r sound_book dest; asked = λ i. omega arith; schema = sym schema })

  abbrev limits : List (Option TakeRefusal)
  limits =
      then_some (nat_lt usn_limit t.usn) takes.UsnLimit
      ∷ over_limit Objects object_limit t.objects
      ∷ over_limit Links link_limit t.links
      ∷ over_limit CursorTable cursor_limit (length (after d c).store.vector)
      ∷ over_limit Marks mark_limit (length (after d c).store.marks)
      ∷ []

  shown_within_usn : shown_by_last d r ≤ d.store.usn
  shown_within_usn = by (length (first_items q.max byte_limit (candidates s.store.rows (begins_at s q) q.vector)) == length (candidates s.store.rows (begins_at s q) q.vector))
    where
      by : (b : Bool) → option_map_or (λ v. at v d.inv) (then_some b s.store.vector) 0 ≤ d.store.usn
      by true = omega (arith, source.store.bounded d.inv, dest.last)
      by false = omega arith

  at_most_itself : at_most d.store.vector d.store.vector ≡ true
  at_most_itself = at_most_from_everywhere d.store.vector d.store.vector dest.store.formed.vector.rising (λ i. omega arith)

  refusal_is : take_refusal d r t (after d c) ≡ first_of limits
  refusal_is =
      none_comes (then_some (is_quarantined d.mode) takes.Quarantined) _ (unmet _ _ (normal d.mode d_normal))
      ∙ (none_comes (then_some (not (same_identifier r.dest d.dsa)) (takes.NotMine r.dest)) _ (unmet _ _ (ap not (test_itself d.dsa)))
      ∙ (none_comes (then_some (not (same_mark r.from (kept_mark d r))) (takes.Stale (kept_mark d r) r.from)) _ (unmet _ _ (same_mark_itself r.from))
      ∙ (none_comes (option_map (λ gap. takes.VectorBehind gap.0 gap.1 gap.2) (first_gap r.asked d.store.vector)) _ (all_covered (λ gap. takes.VectorBehind gap.0 gap.1 gap.2) r.asked d.store.vector at_most_itself)
      ∙ (none_comes (then_some (not (r.schema == d.store.schema)) (takes.SchemaMismatch d.store.schema r.schema)) _ (unmet _ _ (ap not (eq-eqb r.schema d.store.schema (sym schema))))
      ∙ (none_comes (then_some (nat_lt d.store.usn (shown_by_last d r)) (takes.RolledBack d.inv d.store.usn (shown_by_last d r))) _ (unmet _ _ (le-ltb d.store.usn (shown_by_last d r) shown_within_usn))
      ∙ none_comes t.refusal limits whole)))))

  limit_is : (x : TakeRefusal) → first_of limits ≡ Some x → IsLimit x
  limit_is x = where_it_is IsLimit (first_of limits) x (all_is IsLimit limits (
    tested_is IsLimit _ takes.UsnLimit (inl refl),
    (
      tested_is IsLimit _ (takes.Full Objects object_limit) (inr (Objects, object_limit, refl)),
      (
        tested_is IsLimit _ (takes.Full Links link_limit) (inr (Links, link_limit, refl)),
        (
          tested_is IsLimit _ (takes.Full CursorTable cursor_limit) (inr (CursorTable, cursor_limit, refl)),
          (tested_is IsLimit _ (takes.Full Marks mark_limit) (inr (Marks, mark_limit, refl)), tt),
        ),
      ),
    ),
  ))

  -- the reply is taken, or a limit is met
  pub taken_or_limited : (take d r ≡ Ok c) ⊎ ((x : TakeRefusal) × (take d r ≡ Err x) × IsLimit x)
  taken_or_limited = by (first_of limits) refl
    where
      by : (o : Option TakeRefusal) → first_of limits ≡ o → (take d r ≡ Ok c) ⊎ ((x : TakeRefusal) × (take d r ≡ Err x) × IsLimit x)
      by None e = inl (ap (λ p. unless p c) (refusal_is ∙ e))
      by (Some x) e = inr (x, ap (λ p. unless p c) (refusal_is ∙ e), limit_is x e)

  -- ---- what was sent

  sent_row : (u : Update) → IsSent r u → (h : Held) × Member h s.store.rows × (h.update ≡ u) × (covers_update d.store.vector h.update ≡ false)
  sent_row u (i, m, n) = let x = item_is book s q now sound_book source request_sound purged i m in let h = row_is book s q now sound_book source request_sound purged i.unit u (subst (λ (j : Item). Member u j.rows) (is x.0 x.2) n) in
      let k = of_filter (λ (y : Held). is_above_mark (begins_at s q) s.store.rows y && is_unseen (begins_at s q) q.vector y) s.store.rows h.0 h.1 in (h.0, k.0, h.2, uncovered h.0 k.1)
    where
      is : (x : Held) → i ≡ item_of (sendable s.store.rows (begins_at s q) q.vector) (unit_of x.update.key) → i ≡ item_of (sendable s.store.rows (begins_at s q) q.vector) i.unit
      is x e = e ∙ ap (item_of (sendable s.store.rows (begins_at s q) q.vector)) (sym (ap (λ (j : Item). j.unit) e))

      uncovered : (x : Held) → (is_above_mark (begins_at s q) s.store.rows x && is_unseen (begins_at s q) q.vector x) ≡ true → covers_update d.store.vector x.update ≡ false
      uncovered x h = not-true (covers_update d.store.vector x.update) (and_parts (nat_lt (begins_at s q).prop x.local) (not (covers_update d.store.vector x.update)) (and_parts (is_above_mark (begins_at s q) s.store.rows x) (is_unseen (begins_at s q) q.vector x) h).1).1

  pub sent_is_held : (u : Update) → IsSent r u → Member u (updates_of s.store.rows)
  sent_is_held u m = let h = sent_row u m in subst (λ v. Member v (updates_of s.store.rows)) h.2 (updated s.store.rows h.0 h.1)

  pub sent_is_new : (u : Update) → IsSent r u → Covers (at d.store.vector) u → ⊥
  sent_is_new u m covered = let h = sent_row u m in let t : covers_update d.store.vector h.0.update ≡ true = tested_where_covered d.store.vector h.0.update (subst (Covers (at d.store.vector)) (sym h.2) covered) in absurd (cc)

  -- ---- the mark that is kept then

  pub kept_so : kept_of (after d c).store s.dsa ≡ record { inv = s.inv; mark = r.to }
  kept_so = entry_itself d.store.marks (record { inv = identifier 0; mark = no_mark }) s.dsa (record { inv = s.inv; mark = r.to })

  kept_is : mark_of (kept_of (after d c).store s.dsa) s.inv ≡ r.to
  kept_is = ap (λ k. mark_of k s.inv) kept_so ∙ ap (λ b. if b then r.to else no_mark) (test_itself s.inv)

  pub kept_there : Member (s.dsa, record { inv = s.inv; mark = r.to }) (after d c).store.marks
  kept_there = entry_there identifier_order exact_bytes d.store.marks s.dsa (record { inv = s.inv; mark = r.to })

  -- a reply that isn't the last brings nearer to the end
  pub nearer : 1 ≤ most → r.last ≡ None → (units_beyond (after d c) s + 1 ≤ units_beyond d s) × (1 ≤ units_beyond (after d c) s)
  nearer le none = let p = progress s q now le none in let same : units_beyond (after d c) s ≡ beyond s.store.rows r.to.obj = ap (λ (m : Mark). beyond s.store.rows m.obj) kept_is in (omega (arith, p.1, same), omega (arith, p.2, same))
