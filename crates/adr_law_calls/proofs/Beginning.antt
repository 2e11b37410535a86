-- A book in which an incarnation begins.
use Rattle.std.proofs.Common.{◌≡◌, inl, inr, ℕ, ◌≤◌, List, [], Bool, true, false, refl, sym, ◌∙◌, subst, ap, arith, nat_le, if◌then◌else◌}
use Rattle.adr_model.specs.Member.{Member, Each}
use Rattle.adr_model.specs.Update.{Identifier, Update, inv_of}
use Rattle.adr_model.specs.Store.{Held, State}
use Rattle.adr_model.specs.LocalLog.{LocalLog, no_log, last_usn, rows_at, IsBoundary, IsKept}
use Rattle.adr_model.specs.Replica.{Book, log_of, begun}
use Rattle.adr_model.specs.Sound.{last_of, IsOfOneChange, IsSoundBook}
use Rattle.adr_law_knowledge.proofs.Lists.{no_members}
use Rattle.adr_model.specs.LocalLog.{first_log}
use Rattle.adr_law_calls.specs.Later.{IsLater}
use Rattle.adr_law_calls.proofs.Bounds.{IsIn, start_from}
use Rattle.adr_law_calls.proofs.Extended.{log_begins}
use Rattle.adr_law_calls.proofs.Tables.{each_entry}

pub nothing_stood : (usn : ℕ) → rows_at no_log usn ≡ []
nothing_stood usn = by (nat_le 0 usn)
  where
    by : (b : Bool) → (let none : List Held = [] in if b then none else none) ≡ []
    by true = refl
    by false = refl

nothing_stands_at_0 : (n : ℕ) (rows : List Held) (usn : ℕ) → Each (IsIn n) rows → usn ≤ 0 → rows_at (first_log n rows) usn ≡ []
nothing_stands_at_0 n rows usn all le = no_members (rows_at (first_log n rows) usn) none
  where
    none : (x : Held) → Member x (rows_at (first_log n rows) usn) → ⊥
    none x m = let s = start_from n rows usn x m in let l = all x s.1 in absurd (omega (arith, l.0, l.1, s.0, le))

module _ (s : Book) (d : State) (fresh : log_of s d.inv ≡ no_log) (all : Each (IsIn d.store.usn) d.store.rows) where
  began_at_0 : (usn : ℕ) → usn ≤ last_of s d.inv → usn ≤ 0
  began_at_0 usn le = subst (λ n. usn ≤ n) (ap last_usn fresh) le

  pub begun_later : IsLater s (begun s d)
  begun_later = record {
    kept = λ u m. m;
    newer = λ u m. inl m;
    rising = each_entry s.logs no_log d.inv log (λ j h. last_of s j ≤ last_usn h) (subst (λ n. n ≤ d.store.usn) (sym (ap last_usn fresh)) (omega arith)) (λ j. omega arith);
    stable = λ j usn le. each_entry s.logs no_log d.inv log (λ i h. usn ≤ last_of s i → rows_at h usn ≡ rows_at (log_of s i) usn) (λ l. rows usn l) (λ i l. refl) j le;
    boundaries = λ j usn le boundary. each_entry s.logs no_log d.inv log (λ i h. usn ≤ last_of s i → IsBoundary (log_of s i) usn → IsBoundary h usn) (λ l c. boundaries usn l) (λ i l c. c) j le boundary;
  }
    where
      log : LocalLog
      log = first_log d.store.usn d.store.rows

      rows : (usn : ℕ) → usn ≤ last_of s d.inv → rows_at log usn ≡ rows_at (log_of s d.inv) usn
      rows usn le = nothing_stands_at_0 d.store.usn d.store.rows usn all (began_at_0 usn le) ∙ sym (ap (λ (h : LocalLog). rows_at h usn) fresh ∙ nothing_stood usn)

      boundaries : (usn : ℕ) → usn ≤ last_of s d.inv → IsBoundary log usn
      boundaries usn le = record { start = inr (λ x m. omega (arith, (all x m).0, began_at_0 usn le)); changes = λ c m. absurd m }

  -- the log that begins had no change before
  changes_stay : (j : Identifier) (u v : Update) → IsOfOneChange (log_of s j) u v → IsOfOneChange (log_of (begun s d) j) u v
  changes_stay = each_entry s.logs no_log d.inv (first_log d.store.usn d.store.rows) (λ j h. (u v : Update) → IsOfOneChange (log_of s j) u v → IsOfOneChange h u v)
      (λ u v one. absurd (subst (λ (h : LocalLog). Member one.0 h.changes) fresh one.1)) (λ j u v one. one)

  pub begun_sound : Each (λ (x : Held). Member x.update s.issued) d.store.rows → IsSoundBook s → IsSoundBook (begun s d)
  begun_sound known is = record {
    one_content = is.one_content;
    once = λ u m. ((is.once u m).0, omega (arith, (is.once u m).1, begun_later.rising (inv_of u)));
    one_change = λ u m v n i e. changes_stay (inv_of u) u v (is.one_change u m v n i e);
    born = is.born;
    births = is.births;
    kept = each_entry s.logs no_log d.inv (first_log d.store.usn d.store.rows) (λ j h. IsKept h) (log_begins d.store.usn d.store.rows all) is.kept;
    logged = λ j usn. each_entry s.logs no_log d.inv (first_log d.store.usn d.store.rows) (λ i h. Each (λ (x : Held). Member x.update s.issued) (rows_at h usn)) (λ x m. known x (start_from d.store.usn d.store.rows usn x m).1) (λ i. is.logged i usn) j;
  }
