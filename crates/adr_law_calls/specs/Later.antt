-- How a book may grow, and what a change may issue.
use Rattle.std.specs.Prelude.{◌≡◌, ◌⊎◌, ◌≤◌, ◌<◌, ℕ, List, true, ◌++◌}
use Rattle.adr_values.specs.declared.stamp.Oid.{Oid}
use Rattle.adr_model.specs.Member.{Member, Each}
use Rattle.adr_model.specs.Update.{Identifier, Update, RowOf, ends, inv_of, usn_of, class_attr}
use Rattle.adr_model.specs.Change.{Change, held_of}
use Rattle.adr_model.specs.LocalLog.{rows_at, IsBoundary}
use Rattle.adr_model.specs.Take.{is_birth}
use Rattle.adr_model.specs.Replica.{Book, log_of}
use Rattle.adr_model.specs.Sound.{last_of, IsBirthOf}

-- what was issued stays so, what is issued later has a USN that wasn't used, and logs say of earlier USNs what they said
pub record IsLater (s s' : Book) : Type 0 where
  pub kept : Each (λ u. Member u s'.issued) s.issued
  pub newer : Each (λ u. Member u s.issued ⊎ (last_of s (inv_of u) < usn_of u)) s'.issued
  pub rising : (i : Identifier) → last_of s i ≤ last_of s' i
  pub stable : (i : Identifier) (usn : ℕ) → usn ≤ last_of s i → rows_at (log_of s' i) usn ≡ rows_at (log_of s i) usn
  pub boundaries : (i : Identifier) (usn : ℕ) → usn ≤ last_of s i → IsBoundary (log_of s i) usn → IsBoundary (log_of s' i) usn

-- updates of one incarnation, under USNs that a change takes
abbrev pub AreIssuedBy : Book → Identifier → Change → List Update → Type 0
AreIssuedBy s inv c issues = Each (λ u. (inv_of u ≡ inv) × (last_of s inv < usn_of u) × (usn_of u ≤ c.usn)) issues

-- what a change issues and writes keeps a book sound
pub record MayIssue (s : Book) (c : Change) (issues : List Update) : Type 0 where
  pub alone : Each (λ u. Each (λ v. u.key ≡ v.key → usn_of u ≡ usn_of v → u ≡ v) issues) issues
  pub born : Each (λ u. Each (λ o. (b : Update) × Member b (s.issued ++ issues) × IsBirthOf o b) (ends u.key)) issues
  pub births : Each (λ u. (o : Oid) → u.key ≡ RowOf o class_attr → is_birth o u ≡ true) issues
  pub logged : Each (λ h. Member h.update (s.issued ++ issues)) (held_of c.writes)
