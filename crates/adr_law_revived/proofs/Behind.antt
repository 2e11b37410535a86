-- Which rows stand behind a revival: those that were held, those of the object and those of its links.
use Rattle.std.proofs.Common.{◌≡◌, ◌⊎◌, inl, inr, ⊎_elim, ℕ, ◌+◌, List, [], ◌∷◌, true, None, refl, sym, ap, ◌∙◌, subst, arith}
use Rattle.adr_values.specs.declared.stamp.Oid.{Oid}
use Rattle.adr_values.specs.declared.stamp.LinkKey.{LinkKey}
use Rattle.adr_model.specs.Member.{Member, Each}
use Rattle.adr_model.specs.Update.{Identifier, RowOf, LinkOf, IsPresent, Update, deleted_attr}
use Rattle.adr_model.specs.Store.{Held, Store, State, updates_of}
use Rattle.adr_model.specs.Change.{held_of, rows_after}
use Rattle.adr_model.specs.Formed.{IsFormedStore, IsFormed}
use Rattle.adr_model.specs.Write.{Revive, revive_refusal, link_row as row_of_link, new_links, rows_written, more_written}
use Rattle.adr_law_calls.specs.Puts.{held_at, IsReplaced, IsStripped}
use Rattle.adr_law_calls.proofs.Rows.{held_as, updated}
use Rattle.adr_law_calls.proofs.InTurn.{rows_in_turn}
use Rattle.adr_law_calls.proofs.PutForms.{whence_update}
use Rattle.adr_law_calls.proofs.Reviving.{MayRelink, AreApart, item, next, are, rest, absent, apart, one, placed, of_new, no_new_death, may_relink_all}
use Rattle.adr_law_revived.proofs.Revival.{revival}

-- ---- links, one after the other

-- a row that says that one of the links is present
pub record IsOfLinks (ls : List LinkKey) (u : Update) : Type 0 where
  pub link : LinkKey
  pub of : Member link ls
  pub key : u.key ≡ LinkOf link
  pub present : u.said ≡ IsPresent true

abbrev pub SaysLink : List Update → LinkKey → Type 0
SaysLink rows l = (u : Update) × Member u rows × (u.key ≡ LinkOf l) × (u.said ≡ IsPresent true)

-- rows, and the same with those of links
record AreWith (ls : List LinkKey) (before behind : List Update) : Type 0 where
  from : Each (λ u. IsOfLinks ls u ⊎ Member u before) behind
  kept : Each (λ u. Member u behind) before
  come : Each (SaysLink behind) ls

module _ (s : State) (now : ℕ) where
  module _ (t : State) (l : LinkKey) (ls : List LinkKey) (usn : ℕ) (may : MayRelink t (l ∷ ls)) where
    abbrev rows : List Update
    rows = updates_of (next s now t l ls usn may).store.rows

    abbrev written : Update
    written = record { key = LinkOf l; stamp = record { created = now; stamp = record { version = 1; time = now; inv = s.inv; usn = usn } }; said = IsPresent true }

    only : (u : Update) → Member u (item s now t l ls usn may).rows → u ≡ written
    only u (inl e) = e
    only u (inr none) = absurd none

    one_with : AreWith (l ∷ []) (updates_of t.store.rows) rows
    one_with = record {
      from = λ u m. ⊎_elim (λ new. inl (record { link = l; of = inl refl; key = ap (λ (v : Update). v.key) (only u new); present = ap (λ (v : Update). v.said) (only u new) })) (λ old. inr old)
          (whence_update (t.store.usn + 1) (item s now t l ls usn may).rows t.store.rows (next s now t l ls usn may).store.rows (are s now t l ls usn may) u m);
      kept = λ u m. let h = held_as t.store.rows u m in kept u m h.0 h.2 ((are s now t l ls usn may).kept h.0 h.1);
      come = come;
    }
      where
        kept : (u : Update) → Member u (updates_of t.store.rows) → (h : Held) → u ≡ h.update
            → IsReplaced (item s now t l ls usn may).rows h ⊎ (IsStripped (item s now t l ls usn may).rows h ⊎ Member h (next s now t l ls usn may).store.rows) → Member u rows
        kept u m h e (inl (v, n, k)) = absurd (may.none l (inl refl) u m (ap (λ (w : Update). w.key) e ∙ sym k ∙ ap (λ (w : Update). w.key) (only v n)))
        kept u m h e (inr (inl (d, p, n, dies, goes))) = let no : LinkOf l ≡ RowOf p deleted_attr = sym (ap (λ (w : Update). w.key) (only d n)) ∙ dies in absurd (cc)
        kept u m h e (inr (inr n)) = subst (λ v. Member v rows) (sym e) (updated (next s now t l ls usn may).store.rows h n)

        come : Each (SaysLink rows) (l ∷ [])
        come k (inl e) = (written, updated (next s now t l ls usn may).store.rows (held_at (t.store.usn + 1) written) ((are s now t l ls usn may).written written (inl refl)), ap LinkOf (sym e), refl)
        come k (inr none) = absurd none

  then_more : (l : LinkKey) (ls : List LinkKey) (before between behind : List Update) → AreWith (l ∷ []) before between → AreWith ls between behind → AreWith (l ∷ ls) before behind
  then_more l ls before between behind a b = record {
    from = λ u m. ⊎_elim (λ new. inl (record { link = new.link; of = inr new.of; key = new.key; present = new.present })) (λ old. ⊎_elim (λ new. inl (of_first u new)) (λ older. inr older) (a.from u old)) (b.from u m);
    kept = λ u m. b.kept u (a.kept u m);
    come = come;
  }
    where
      of_first : (u : Update) → IsOfLinks (l ∷ []) u → IsOfLinks (l ∷ ls) u
      of_first u new = record { link = new.link; of = ⊎_elim (λ e. inl e) (λ none. absurd none) new.of; key = new.key; present = new.present }

      come : Each (SaysLink behind) (l ∷ ls)
      come k (inl e) = let u = a.come k (inl e) in (u.0, b.kept u.0 u.1, u.2, u.3)
      come k (inr m) = b.come k m

  links_with : (t : State) (ls : List LinkKey) (usn : ℕ) → usn ≡ t.store.usn + 1 → AreApart ls → MayRelink t ls → AreWith ls (updates_of t.store.rows) (updates_of (rows_after [] (held_of (new_links s now usn ls)) t.store.rows))
  links_with t [] usn e distinct may = record { from = λ u m. inr m; kept = λ u m. m; come = λ k m. absurd m }
  links_with t (l ∷ ls) usn e distinct may =
      subst (λ (hs : List Held). AreWith (l ∷ ls) (updates_of t.store.rows) (updates_of hs)) (sym (rows_in_turn t may.formed (row_of_link s now usn l) (new_links s now (usn + 1) ls) e))
      (then_more l ls (updates_of t.store.rows) (rows t l ls usn may) (updates_of (rows_after [] (held_of (new_links s now (usn + 1) ls)) (next s now t l ls usn may).store.rows)) (one_with t l ls usn may)
      (links_with (next s now t l ls usn may) ls (usn + 1) (ap (λ (n : ℕ). n + 1) e) distinct.1 (rest s now t l ls usn may distinct.0)))

-- ---- a revival

module _ (s : State) (formed : IsFormed s) (image : Store) (guid parent : Identifier) (text : List ℕ) (given : IsFormedStore image) (none : revive_refusal s image guid parent text ≡ None) (now : ℕ) where
  open (revival s formed image guid parent text given none now) use {held, o, come, new_rows, behind}

  abbrev t : State
  t = one s formed image guid parent text given none now

  abbrev all : List Update
  all = updates_of behind.store.rows

  -- all that was held stays behind the rows of the object
  pub held_first : Each (λ u. Member u (updates_of t.store.rows)) held
  held_first u m = let h = held_as s.store.rows u m in by h.0 h.2 ((placed s formed image guid parent text given none now).kept h.0 h.1)
    where
      by : (h : Held) → u ≡ h.update → IsReplaced new_rows h ⊎ (IsStripped new_rows h ⊎ Member h t.store.rows) → Member u (updates_of t.store.rows)
      by h e (inl (v, n, k)) = let a = of_new s formed image guid parent text given none now v n in absurd (absent s formed image guid parent text given none (u, a.0, m, ap (λ (w : Update). w.key) e ∙ (sym k ∙ a.1)))
      by h e (inr (inl (x, q, n, dead, goes))) = absurd (no_new_death s formed image guid parent text given none now x n (q, dead))
      by h e (inr (inr n)) = subst (λ v. Member v (updates_of t.store.rows)) (sym e) (updated t.store.rows h n)

  with_links : AreWith come (updates_of t.store.rows) all
  with_links = subst (λ (hs : List Held). AreWith come (updates_of t.store.rows) (updates_of hs))
      (sym (rows_in_turn s formed (record { local = s.store.usn + 1; item = rows_written s (Revive image guid parent text) now }) (more_written s (Revive image guid parent text) now) refl))
      (links_with s now t come (s.store.usn + 2) (omega arith) (apart s formed image guid parent text given none) (may_relink_all s formed image guid parent text given none now))

  pub held_stays : Each (λ u. Member u all) held
  held_stays u m = with_links.kept u (held_first u m)

  pub new_stays : Each (λ u. Member u all) new_rows
  new_stays u m = with_links.kept u (updated t.store.rows (held_at (s.store.usn + 1) u) ((placed s formed image guid parent text given none now).written u m))

  pub link_comes : Each (SaysLink all) come
  link_comes = with_links.come

  -- and there is nothing else
  of_first : (u : Update) → Member u (updates_of t.store.rows) → Member u new_rows ⊎ Member u held
  of_first = whence_update (s.store.usn + 1) new_rows s.store.rows t.store.rows (placed s formed image guid parent text given none now)

  pub object_row : (u : Update) → Member u all → (p : Oid) (attr : ℕ) → u.key ≡ RowOf p attr → Member u new_rows ⊎ Member u held
  object_row u m p attr key = ⊎_elim (λ new. let no : LinkOf new.link ≡ RowOf p attr = sym new.key ∙ key in absurd (cc)) (of_first u) (with_links.from u m)

  pub link_row : (u : Update) → Member u all → (l : LinkKey) → u.key ≡ LinkOf l → IsOfLinks come u ⊎ Member u held
  link_row u m l key = ⊎_elim (λ new. inl new) (λ n. ⊎_elim no_row (λ old. inr old) (of_first u n)) (with_links.from u m)
    where
      no_row : Member u new_rows → IsOfLinks come u ⊎ Member u held
      no_row n = let k = of_new s formed image guid parent text given none now u n in let no : RowOf o k.0 ≡ LinkOf l = sym k.1 ∙ key in absurd (cc)
