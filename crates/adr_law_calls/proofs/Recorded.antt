-- A book with a change that becomes safe.
use Rattle.std.proofs.Common.{◌≡◌, ◌⊎◌, inl, inr, ⊎_elim, ℕ, ◌≤◌, ◌<◌, List, ◌++◌, refl, sym, ◌∙◌, subst, ap, arith}
use Rattle.std.proofs.lemmas.Bool.Decides.{leb_tells}
use Rattle.adr_values.specs.declared.stamp.Oid.{Oid}
use Rattle.adr_model.specs.Member.{Member, Each}
use Rattle.adr_model.specs.Update.{Identifier, Update, ends, inv_of, usn_of}
use Rattle.adr_model.specs.Store.{Held}
use Rattle.adr_model.specs.Change.{Change, updates_written, held_of}
use Rattle.adr_model.specs.LocalLog.{LocalLog, no_log, last_usn, where_made, rows_at, IsBoundary, IsKept, Follows}
use Rattle.adr_model.specs.Replica.{Call, ToWrite, ToTake, ToCollect, ToUpgrade, ToQuarantine, Pending, issued_by, Book, log_of, with_change, recorded}
use Rattle.adr_model.specs.Sound.{last_of, IsBirthOf, IsOfOneChange, IsSoundBook}
use Rattle.adr_model.proofs.Members.{member_left, member_of_either}
use Rattle.adr_law_calls.specs.Later.{IsLater, AreIssuedBy, MayIssue}
use Rattle.adr_law_calls.proofs.Units.{change_from}
use Rattle.adr_law_calls.proofs.Past.{Tells}
use Rattle.adr_law_calls.proofs.Extended.{log_goes_on, past_rows_stay, past_boundaries_stay}
use Rattle.adr_law_calls.proofs.Tables.{each_entry, entry_itself}

issues_are_written : (call : Call) (c : Change) → Each (λ u. Member u (updates_written c)) (issued_by call c)
issues_are_written (ToWrite w now) c u m = m
issues_are_written (ToTake reply) c u m = absurd m
issues_are_written (ToCollect now lifetime) c u m = absurd m
issues_are_written ToUpgrade c u m = absurd m
issues_are_written ToQuarantine c u m = absurd m

module _ (s : Book) (inv : Identifier) (p : Pending) (next : Follows (last_of s inv) p.change) (own : AreIssuedBy s inv p.change (issued_by p.call p.change)) where
  abbrev issues : List Update
  issues = issued_by p.call p.change

  abbrev log : LocalLog
  log = with_change (log_of s inv) p.change

  each_log : (P : Identifier → LocalLog → Type 0) → P inv log → ((j : Identifier) → P j (log_of s j)) → (j : Identifier) → P j (log_of (recorded s inv p) j)
  each_log P here others = each_entry s.logs no_log inv log P here others

  pub recorded_later : IsLater s (recorded s inv p)
  recorded_later = record {
    kept = λ u m. member_left s.issued issues u m;
    newer = λ u m. ⊎_elim (λ old. inl old) (λ new. inr (subst (λ j. last_of s j < usn_of u) (sym (own u new).0) (own u new).1)) (member_of_either s.issued issues u m);
    rising = each_log (λ j h. last_of s j ≤ last_usn h) next.rises (λ j. omega arith);
    stable = λ j usn le. each_log (λ i h. usn ≤ last_of s i → rows_at h usn ≡ rows_at (log_of s i) usn) (λ l. past_rows_stay (log_of s inv) p.change usn next l) (λ i l. refl) j le;
    boundaries = λ j usn le boundary. each_log (λ i h. usn ≤ last_of s i → IsBoundary (log_of s i) usn → IsBoundary h usn) (λ l c. past_boundaries_stay (log_of s inv) p.change usn next l c) (λ i l c. c) j le boundary;
  }

  module _ (may : MayIssue s p.change issues) (is : IsSoundBook s) where
    abbrev Alike : Update → Update → Type 0
    Alike u v = u.key ≡ v.key → inv_of u ≡ inv_of v → usn_of u ≡ usn_of v → u ≡ v

    -- an update that was issued lies at or before the last USN, and a new one behind it
    apart : (u v : Update) → Member u s.issued → Member v issues → inv_of u ≡ inv_of v → usn_of u ≡ usn_of v → ⊥
    apart u v m n i e = omega (arith, le, (own v n).1, e)
      where
        le : usn_of u ≤ last_of s inv
        le = subst (λ j. usn_of u ≤ last_of s j) (i ∙ (own v n).0) (is.once u m).1

    alike : (u v : Update) → Member u s.issued ⊎ Member u issues → Member v s.issued ⊎ Member v issues → Alike u v
    alike u v (inl m) (inl n) k i e = is.one_content u m v n k i e
    alike u v (inl m) (inr n) k i e = absurd (apart u v m n i e)
    alike u v (inr m) (inl n) k i e = absurd (apart v u n m (sym i) (sym e))
    alike u v (inr m) (inr n) k i e = may.alone u m v n k e

    changes_stay : (j : Identifier) (u v : Update) → IsOfOneChange (log_of s j) u v → IsOfOneChange (log_of (recorded s inv p) j) u v
    changes_stay = each_log (λ j h. (u v : Update) → IsOfOneChange (log_of s j) u v → IsOfOneChange h u v) (λ u v one. (one.0, inr one.1, one.2, one.3)) (λ j u v one. one)

    -- updates of one USN were both issued before, or by this change
    of_one_change : (u v : Update) → Member u s.issued ⊎ Member u issues → Member v s.issued ⊎ Member v issues → inv_of u ≡ inv_of v → usn_of u ≡ usn_of v → IsOfOneChange (log_of (recorded s inv p) (inv_of u)) u v
    of_one_change u v (inl m) (inl n) i e = changes_stay (inv_of u) u v (is.one_change u m v n i e)
    of_one_change u v (inl m) (inr n) i e = absurd (apart u v m n i e)
    of_one_change u v (inr m) (inl n) i e = absurd (apart v u n m (sym i) (sym e))
    of_one_change u v (inr m) (inr n) i e = subst (λ j. IsOfOneChange (log_of (recorded s inv p) j) u v) (sym (own u m).0)
        (subst (λ (h : LocalLog). IsOfOneChange h u v) (sym (entry_itself s.logs no_log inv log)) (p.change, inl refl, issues_are_written p.call p.change u m, issues_are_written p.call p.change v n))

    last_now : last_of (recorded s inv p) inv ≡ p.change.usn
    last_now = ap last_usn (entry_itself s.logs no_log inv log)

    once : (u : Update) → Member u s.issued ⊎ Member u issues → (1 ≤ usn_of u) × (usn_of u ≤ last_of (recorded s inv p) (inv_of u))
    once u (inl m) = ((is.once u m).0, omega (arith, (is.once u m).1, recorded_later.rising (inv_of u)))
    once u (inr m) = (omega (arith, (own u m).1), subst (λ j. usn_of u ≤ last_of (recorded s inv p) j) (sym (own u m).0) (subst (λ n. usn_of u ≤ n) (sym last_now) (own u m).2))

    born : (u : Update) → Member u s.issued ⊎ Member u issues → (o : Oid) → Member o (ends u.key) → (b : Update) × Member b (s.issued ++ issues) × IsBirthOf o b
    born u (inl m) o e = let t = is.born u m o e in (t.0, member_left s.issued issues t.0 t.1, t.2)
    born u (inr m) o e = may.born u m o e

    logged : (usn : ℕ) (x : Held) → Member x (rows_at log usn) → Member x.update (s.issued ++ issues)
    logged usn x m = by (leb_tells p.change.usn usn)
      where
        rows : List Held
        rows = rows_at (log_of s inv) usn

        old : Member x rows → Member x.update (s.issued ++ issues)
        old i = member_left s.issued issues x.update (is.logged inv usn x i)

        by : Tells p.change.usn usn → Member x.update (s.issued ++ issues)
        by (inr skip) = old (subst (λ b. Member x (where_made b p.change rows)) skip.0 m)
        by (inl taken) = ⊎_elim (λ w. may.logged x w) old (change_from p.change.removed (held_of p.change.writes) rows x (subst (λ b. Member x (where_made b p.change rows)) taken.0 m))

    pub recorded_sound : IsSoundBook (recorded s inv p)
    recorded_sound = record {
      one_content = λ u m v n. alike u v (member_of_either s.issued issues u m) (member_of_either s.issued issues v n);
      once = λ u m. once u (member_of_either s.issued issues u m);
      one_change = λ u m v n. of_one_change u v (member_of_either s.issued issues u m) (member_of_either s.issued issues v n);
      born = λ u m. born u (member_of_either s.issued issues u m);
      births = λ u m. ⊎_elim (λ old. is.births u old) (λ new. may.births u new) (member_of_either s.issued issues u m);
      kept = each_log (λ j h. IsKept h) (log_goes_on (log_of s inv) p.change (is.kept inv) next) is.kept;
      logged = λ j usn. each_log (λ i h. Each (λ (x : Held). Member x.update (s.issued ++ issues)) (rows_at h usn)) (logged usn) (λ i x m. member_left s.issued issues x.update (is.logged i usn x m)) j;
    }
