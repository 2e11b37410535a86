-- Writes that follow, one after the other: order, local USNs and live ends stay, and objects that aren't
-- written to stay as they were.
use Rattle.std.proofs.Common.{◌≡◌, inl, inr, ⊎_elim, ℕ, ◌≤◌, ◌<◌, List, [], ◌∷◌, refl, sym, ap, ◌∙◌, subst, fold, arith, append-nil}
use Rattle.adr_values.specs.declared.stamp.Oid.{Oid}
use Rattle.adr_values.specs.declared.stamp.LinkKey.{LinkKey}
use Rattle.adr_values.specs.declared.stamp.Unit.{Unit as Named}
use Rattle.adr_values.specs.declared.stamp.Unit.TheVariants.{Object, Link}
use Rattle.adr_values.specs.Table.{Table}
use Rattle.adr_values.specs.Vector.{Cursors}
use Rattle.adr_model.specs.Member.{Member, Each}
use Rattle.adr_model.specs.Update.{Update, RowOf, LinkOf}
use Rattle.adr_model.specs.Reflects.{IsTombstoned}
use Rattle.adr_model.specs.Store.{Held, updates_of}
use Rattle.adr_model.specs.Change.{Written, put, held_of, rows_after}
use Rattle.adr_model.specs.Formed.{AreRising, AreAlone}
use Rattle.adr_law_calls.specs.Puts.{under, ArePut}
use Rattle.adr_law_calls.proofs.Rows.{no_link_row, same_link}
use Rattle.adr_law_calls.proofs.Putting.{rising_are_put}
use Rattle.adr_law_calls.proofs.Order.{puts_rise, stay_alone, puts_stay_within}
use Rattle.adr_law_calls.proofs.FormedRows.{stood, link_goes_from, link_goes_to}
use Rattle.adr_law_calls.proofs.FormedOther.{other_back, other_to, end_lives}
use Rattle.adr_model.specs.Spelled.{IsSpelledItem, AreLocalsRising}
use Rattle.adr_law_calls.specs.Follow.{MayWriteUnit, MayFollow, AreWithinLimits, MayFollowInTurn, after_write}
use Rattle.adr_law_calls.proofs.WritesFollow.{in_turn}

-- no link has a dead end
abbrev pub AreLinksLive : List Update → Type 0
AreLinksLive rows = Each
    (λ r. (l : LinkKey) → r.key ≡ LinkOf l → (IsTombstoned rows l.from → ⊥) × (IsTombstoned rows l.to → ⊥)) rows

-- an object has the same rows
pub record HasSame (before after : List Update) (q : Oid) : Type 0 where
  pub to : (r : Update) (attr : ℕ) → r.key ≡ RowOf q attr → Member r before → Member r after
  pub back : (r : Update) (attr : ℕ) → r.key ≡ RowOf q attr → Member r after → Member r before

abbrev pub IsUntouched : List Written → Oid → Type 0
IsUntouched ws q = Each (λ (w : Written). w.item.unit ≡ Object q → ⊥) ws

pub record IsInOrder (rows : List Held) (usn : ℕ) : Type 0 where
  pub rising : AreRising rows
  pub alone : AreAlone rows
  pub locals : Each (λ h. (1 ≤ h.local) × (h.local ≤ usn)) rows
  pub live : AreLinksLive (updates_of rows)

pub record ArePassed (before after : List Held) (ws : List Written) (usn : ℕ) : Type 0 where
  pub order : IsInOrder after usn
  pub same : (q : Oid) → IsUntouched ws q → HasSame (updates_of before) (updates_of after) q
  pub few : AreWithinLimits before → AreWithinLimits after
  pub spelled : Each (λ (w : Written). IsSpelledItem w.item) ws

module _ (table : Table) (vector : Cursors) where
  module _ (rows : List Held) (usn : ℕ) (way : IsInOrder rows usn) (w : Written)
      (may : MayFollow table vector rows w.item) (above : usn < w.local) where
    abbrev next : List Held
    next = after_write rows w

    next_is : fold put rows (under w.local w.item.rows) ≡ next
    next_is = ap (fold put rows) (sym (append-nil (under w.local w.item.rows)))

    are : ArePut w.local w.item.rows rows next
    are = subst (ArePut w.local w.item.rows rows) next_is
        (rising_are_put w.local rows w.item.unit w.item.rows may.form.of_unit may.form.rising)

    -- a link that is written has live ends, and the others keep theirs
    live_before : (r : Update) → Member r (updates_of next) → (l : LinkKey) → r.key ≡ LinkOf l
        → (IsTombstoned (updates_of rows) l.from → ⊥) × (IsTombstoned (updates_of rows) l.to → ⊥)
    live_before r m l is = ⊎_elim (λ n. new (w.item.unit) refl n) (λ n. way.live r n l is)
        (stood w.local rows next w.item.rows are r m)
      where
        new : (unit : Named) → w.item.unit ≡ unit → Member r w.item.rows
            → (IsTombstoned (updates_of rows) l.from → ⊥) × (IsTombstoned (updates_of rows) l.to → ⊥)
        new (Object o) e n = absurd (no_link_row r.key o l (may.form.of_unit r n ∙ e) is)
        new (Link k) e n =
            let same : l ≡ k = same_link r.key k l (may.form.of_unit r n ∙ e) is in
            let placed : MayWriteUnit table vector rows (Link k) w.item.rows = subst (λ u. MayWriteUnit table vector rows u w.item.rows) e may.unit in
            subst (λ (j : LinkKey). (IsTombstoned (updates_of rows) j.from → ⊥) × (IsTombstoned (updates_of rows) j.to → ⊥)) (sym same) ((placed k.from (inl refl)).0, (placed k.to (inr (inl refl))).0)

    live : AreLinksLive (updates_of next)
    live r m l is = let before = live_before r m l is in
        (end_lives w.local rows next w.item.rows are w.item.unit may.form.of_unit r l l.from m is (link_goes_from l) before.0, end_lives w.local rows next w.item.rows are w.item.unit may.form.of_unit r l l.to m is (link_goes_to l) before.1)

    order : IsInOrder next w.local
    order = record {
      rising = subst AreRising next_is (puts_rise rows (under w.local w.item.rows) way.rising);
      alone = stay_alone usn w.local rows next w.item.unit w.item.rows
          (λ h m. (way.locals h m).1) above may.form.of_unit are way.alone;
      locals = puts_stay_within usn w.local rows next w.item.rows way.locals above are;
      live = live;
    }

    same : (q : Oid) → (w.item.unit ≡ Object q → ⊥) → HasSame (updates_of rows) (updates_of next) q
    same q other = record {
      to = other_to w.local rows next w.item.rows are w.item.unit may.form.of_unit q (λ e. other (sym e));
      back = other_back w.local rows next w.item.rows are w.item.unit may.form.of_unit q (λ e. other (sym e));
    }

  abbrev behind_all : List Held → List Written → List Held
  behind_all rows ws = rows_after [] (held_of ws) rows

  pub all_pass : (ws : List Written) (rows : List Held) (usn last : ℕ) → IsInOrder rows usn → usn ≤ last
      → MayFollowInTurn table vector rows ws → AreLocalsRising usn last ws
      → ArePassed rows (behind_all rows ws) ws last
  all_pass [] rows usn last way le follow locals = record {
    order = record { rising = way.rising; alone = way.alone; locals = λ h m. ((way.locals h m).0, omega (arith, (way.locals h m).1, le)); live = way.live };
    same = λ q none. record { to = λ r attr is m. m; back = λ r attr is m. m };
    few = λ few. few;
    spelled = λ w m. absurd m;
  }
  all_pass (w ∷ ws) rows usn last way le follow locals = subst (λ after. ArePassed rows after (w ∷ ws) last)
      (sym (in_turn rows w ws))
      (more (all_pass ws (after_write rows w) w.local last (order rows usn way w follow.0 locals.0) locals.1 follow.2 locals.2))
    where
      more : ArePassed (after_write rows w) (behind_all (after_write rows w) ws) ws last
          → ArePassed rows (behind_all (after_write rows w) ws) (w ∷ ws) last
      more rest = record {
        order = rest.order;
        same = λ q none. both q (same rows usn way w follow.0 locals.0 q (none w (inl refl)))
            (rest.same q (λ v m. none v (inr m)));
        few = λ few. rest.few follow.1;
        spelled = each;
      }
        where
          both : (q : Oid) → HasSame (updates_of rows) (updates_of (after_write rows w)) q
              → HasSame (updates_of (after_write rows w)) (updates_of (behind_all (after_write rows w) ws)) q
              → HasSame (updates_of rows) (updates_of (behind_all (after_write rows w) ws)) q
          both q first second = record {
            to = λ r attr is m. second.to r attr is (first.to r attr is m);
            back = λ r attr is m. first.back r attr is (second.back r attr is m);
          }

          each : Each (λ (v : Written). IsSpelledItem v.item) (w ∷ ws)
          each v (inl e) = subst (λ (z : Written). IsSpelledItem z.item) (sym e) follow.0.form
          each v (inr m) = rest.spelled v m
