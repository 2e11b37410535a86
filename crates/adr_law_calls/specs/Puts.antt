-- Rows of one unit that are put among others: what they have to be, and what stands then.
use Rattle.std.specs.Prelude.{◌≡◌, ◌⊎◌, ℕ, List, map, true, false}
use Rattle.adr_values.specs.declared.stamp.Oid.{Oid}
use Rattle.adr_values.specs.declared.stamp.LinkKey.{LinkKey}
use Rattle.adr_values.specs.declared.stamp.Unit.{Unit as Named}
use Rattle.adr_values.specs.declared.stamp.Unit.TheVariants.{Object}
use Rattle.adr_model.specs.Member.{Member, Each}
use Rattle.adr_model.specs.Update.{Update, LinkOf, unit_of, ends}
use Rattle.adr_model.specs.Reflects.{Numbers, CoversBirth, Supersedes, IsDeathOf, IsDeath, HoldsObject}
use Rattle.adr_model.specs.Store.{Held}
use Rattle.adr_model.specs.Change.{goes_with}
use Rattle.adr_model.specs.Take.{is_reserved_row}

-- a row under a local USN, and rows
abbrev pub held_at : ℕ → Update → Held
held_at usn u = record { update = u; local = usn }

abbrev pub under : ℕ → List Update → List Held
under usn us = map (held_at usn) us

-- rows of one unit, of each key one, none older than the row of its key; with a death there is none that it takes; an object
-- that isn't held was never seen
pub record MayPut (before : List Update) (vector : Numbers) (unit : Named) (us : List Update) : Type 0 where
  pub of_unit : Each (λ u. unit_of u.key ≡ unit) us
  pub alone : Each (λ u. Each (λ v. u.key ≡ v.key → u ≡ v) us) us
  pub above : Each (λ u. Each (λ r. r.key ≡ u.key → Supersedes u r) before) us
  pub bare : Each (λ d. IsDeath d → Each (λ u. is_reserved_row u.key ≡ true) us) us
  pub place : (o : Oid) → unit ≡ Object o → HoldsObject before o ⊎ (CoversBirth vector o → ⊥)

-- a row in whose place one of the rows stands
abbrev pub IsReplaced : List Update → Held → Type 0
IsReplaced us x = (u : Update) × Member u us × (u.key ≡ x.update.key)

-- a row that one of the rows takes, as a death
abbrev pub IsStripped : List Update → Held → Type 0
IsStripped us x = (d : Update) × (o : Oid) × Member d us × IsDeathOf o d × (goes_with o x.update.key ≡ true)

-- each of the rows stands; every other row that stands stood before; what doesn't stand any more was replaced or stripped; and
-- with a death nothing stands that it takes, but for what is put with it
pub record ArePut (usn : ℕ) (us : List Update) (before after : List Held) : Type 0 where
  pub written : Each (λ u. Member (held_at usn u) after) us
  pub from : Each (λ x. Member x (under usn us) ⊎ Member x before) after
  pub kept : Each (λ x. IsReplaced us x ⊎ (IsStripped us x ⊎ Member x after)) before
  pub bare : Each (λ d. (o : Oid) → IsDeathOf o d → Each (λ x. Member x (under usn us) ⊎ (goes_with o x.update.key ≡ false)) after) us

-- no link has an absent end whose birth is covered
abbrev pub AreClosed : Numbers → List Update → Type 0
AreClosed vector rows = Each (λ r. (l : LinkKey) → r.key ≡ LinkOf l → Each (λ o. HoldsObject rows o ⊎ (CoversBirth vector o → ⊥)) (ends (LinkOf l))) rows
