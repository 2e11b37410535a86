-- A request or a reply that shows more of a controller's incarnation than there is finds that its database was put back.
use Rattle.std.proofs.Common.{◌≡◌, inl, inr, ℕ, ◌≤◌, ◌<◌, max, List, [], ◌∷◌, Bool, true, false, cond, not, ◌&&◌, ◌==◌, nat_le, nat_lt, Some, unwrap_or, Err, refl, sym, ap, ◌∙◌, subst, arith}
use Rattle.std.specs.Bool.{then_some}
use Rattle.std.specs.Map.{lookup}
use Rattle.std.specs.Option.{option_map, option_map_or}
use Rattle.std.specs.BTreeMap.{is_at}
use Rattle.std.proofs.lemmas.Bool.{lt-ltb, eq-eqb}
use Rattle.std.proofs.lemmas.Bool.Decides.{nat_tests}
use Rattle.adr_values.specs.Order.{identifier_order}
use Rattle.adr_values.specs.Vector.{at, first_gap}
use Rattle.adr_values.specs.declared.mark.Mark.{Mark}
use Rattle.adr_values.proofs.Cursors.{test_itself}
use Rattle.adr_call.specs.declared.refusal.ServeRefusal.TheVariants as serves
use Rattle.adr_call.specs.declared.refusal.TakeRefusal.TheVariants as takes
use Rattle.adr_model.specs.Member.{Each}
use Rattle.adr_model.specs.Refusing.{unless}
use Rattle.adr_model.specs.Update.{Identifier, same_identifier}
use Rattle.adr_model.specs.Place.{identifier}
use Rattle.adr_model.specs.Store.{PartnerMark, Normal, State, no_mark}
use Rattle.adr_model.specs.Change.{Change, after}
use Rattle.adr_model.specs.LocalLog.{IsOrdered}
use Rattle.adr_model.specs.Formed.{IsFormed}
use Rattle.adr_model.specs.Serve.{Request, is_quarantined, ask, begins_at, shown_by, serve_refusal, reply_to}
use Rattle.adr_model.specs.Take.{same_mark, kept_mark, shown_by_last, take_refusal, take_items, taken_change}
use Rattle.adr_law_knowledge.proofs.Refusing.{none_comes, unmet, all_covered}
use Rattle.adr_law_rollback.specs.Found.{IsWellAsked, IsFoundByServing, FoundByServing, FoundByWhoCoversMore, FoundByWhoReadMore, FoundByTaking}
use Rattle.adr_law_rollback.proofs.Refusing.{first_met}

in_order : (a b c : ℕ) → a ≤ b → b ≤ c → not (nat_le a b && nat_le b c) ≡ false
in_order a b c le next = grind (arith, nat_tests)

mark_itself : (m : Mark) → not (same_mark m m) ≡ false
mark_itself m = grind (arith, nat_tests)

same_tests : (a b : Identifier) → a ≡ b → not (same_identifier a b) ≡ false
same_tests a b e = ap not (ap (λ i. same_identifier i b) e ∙ test_itself b)

at_least : (a b : ℕ) → (a ≤ max a b) × (b ≤ max a b)
at_least a b = (omega arith, omega arith)

-- ---- serving

pub found_by_serving : FoundByServing
found_by_serving s q is more now = ap (λ o. unless o (reply_to s q now)) some
  where
    some : serve_refusal s q ≡ Some (serves.RolledBack s.inv s.store.usn (shown_by s q))
    some =
        none_comes (then_some (is_quarantined s.mode) serves.Quarantined) _ (unmet _ _ (ap is_quarantined is.normal))
        ∙ (none_comes (then_some (not (same_identifier q.source s.dsa)) (serves.WrongController s.dsa q.source)) _ (unmet _ _ (same_tests q.source s.dsa is.source))
        ∙ (none_comes (then_some (not (nat_le q.mark.prop q.mark.obj && nat_le q.mark.obj q.mark.seen)) (serves.BadMark q.mark.prop q.mark.obj q.mark.seen)) _
        (unmet _ _ (in_order q.mark.prop q.mark.obj q.mark.seen is.ordered.prop is.ordered.obj))
        ∙ first_met (nat_lt s.store.usn (shown_by s q)) (serves.RolledBack s.inv s.store.usn (shown_by s q)) _ (lt-ltb s.store.usn (shown_by s q) more)))

-- the mark that is kept of a partner, or the first one
kept_ordered : (partner : Identifier) (ks : List (Identifier × PartnerMark)) → Each (λ (k : Identifier × PartnerMark). IsOrdered k.1.mark) ks
    → IsOrdered (unwrap_or (lookup (is_at (identifier_order partner)) ks) (record { inv = identifier 0; mark = no_mark })).mark
kept_ordered partner [] all = record { prop = omega arith; obj = omega arith }
kept_ordered partner (k ∷ ks) all = by (is_at (identifier_order partner) k.0) (kept_ordered partner ks (λ j m. all j (inr m)))
  where
    none : PartnerMark
    none = record { inv = identifier 0; mark = no_mark }

    by : (b : Bool) → IsOrdered (unwrap_or (lookup (is_at (identifier_order partner)) ks) none).mark
        → IsOrdered (unwrap_or (cond b (Some k.1) (lookup (is_at (identifier_order partner)) ks)) none).mark
    by true rest = all k (inl refl)
    by false rest = rest

module _ (s t : State) (most version : ℕ) (normal : s.mode ≡ Normal) (formed : IsFormed t) where
  abbrev q : Request
  q = ask t s.dsa most version

  well_asked : IsWellAsked s q
  well_asked = record { normal = normal; source = refl; ordered = kept_ordered s.dsa t.store.marks formed.store.marks }

  shows_more : (n : ℕ) → n ≤ shown_by s q → s.store.usn < n → IsFoundByServing s q
  shows_more n shown more = found_by_serving s q well_asked (omega (arith, shown, more))

pub found_by_who_covers_more : FoundByWhoCoversMore
found_by_who_covers_more s t most version normal formed more =
    shows_more s t most version normal formed (at t.store.vector s.inv) (at_least (at t.store.vector s.inv) (begins_at s (ask t s.dsa most version)).seen).0 more

pub found_by_who_read_more : FoundByWhoReadMore
found_by_who_read_more s t most version normal formed more =
    shows_more s t most version normal formed (begins_at s (ask t s.dsa most version)).seen (at_least (at t.store.vector s.inv) (begins_at s (ask t s.dsa most version)).seen).1 more

-- ---- taking

pub found_by_taking : FoundByTaking
found_by_taking s r theirs is more = ap (λ o. unless o change) some ∙ ap (λ n. Err (takes.RolledBack s.inv s.store.usn n)) shown
  where
    change : Change
    change = taken_change s r (take_items s r.items)

    shown : shown_by_last s r ≡ at theirs s.inv
    shown = ap (λ o. option_map_or (λ v. at v s.inv) o 0) is.last

    some : take_refusal s r (take_items s r.items) (after s change) ≡ Some (takes.RolledBack s.inv s.store.usn (shown_by_last s r))
    some =
        none_comes (then_some (is_quarantined s.mode) takes.Quarantined) _ (unmet _ _ (ap is_quarantined is.normal))
        ∙ (none_comes (then_some (not (same_identifier r.dest s.dsa)) (takes.NotMine r.dest)) _ (unmet _ _ (same_tests r.dest s.dsa is.dest))
        ∙ (none_comes (then_some (not (same_mark r.from (kept_mark s r))) (takes.Stale (kept_mark s r) r.from)) _
        (unmet _ _ (ap (λ m. not (same_mark m (kept_mark s r))) is.from ∙ mark_itself (kept_mark s r)))
        ∙ (none_comes (option_map (λ gap. takes.VectorBehind gap.0 gap.1 gap.2) (first_gap r.asked s.store.vector)) _
        (all_covered (λ gap. takes.VectorBehind gap.0 gap.1 gap.2) r.asked s.store.vector is.asked)
        ∙ (none_comes (then_some (not (r.schema == s.store.schema)) (takes.SchemaMismatch s.store.schema r.schema)) _
        (unmet _ _ (ap not (eq-eqb r.schema s.store.schema is.schema)))
        ∙ first_met (nat_lt s.store.usn (shown_by_last s r)) (takes.RolledBack s.inv s.store.usn (shown_by_last s r)) _
        (lt-ltb s.store.usn (shown_by_last s r) (subst (λ n. s.store.usn < n) (sym shown) more))))))
