-- Units by their last local USNs.
use Rattle.std.specs.Prelude.{◌≡◌, ◌≤◌, ◌<◌, ℕ, List, true, Option}
use Rattle.std.specs.List.{filter_map, list_any}
use Rattle.std.specs.Option.{option_map}
use Rattle.std.specs.Ordering.{nat_cmp, ordering_then}
use Rattle.std.specs.declared.cmp.Ordering.{Ordering}
use Rattle.adr_values.specs.declared.stamp.Unit.{Unit as Named}
use Rattle.adr_values.specs.Order.{unit_order}
use Rattle.adr_model.specs.Member.{Member, Each}
use Rattle.adr_model.specs.Update.{same_unit, unit_of}
use Rattle.adr_model.specs.Store.{Held}
use Rattle.adr_model.specs.Serve.{last_local}
use Rattle.adr_law_knowledge.specs.Rises.{Rises}
use Rattle.adr_table.specs.declared.locals.Local.{Local}
use Rattle.adr_table.specs.Locals.{unit_hinted}

-- the last local USN of a unit, and the unit
abbrev pub Last : Type 0
Last = ℕ × Named

abbrev pub last_order : Last → Last → Ordering
last_order a b = ordering_then (nat_cmp a.0 b.0) (unit_order a.1 b.1)

-- the unit is held, and the number is its last, and no less than this one
pub record IsLast (rows : List Held) (usn : ℕ) (last : Last) : Type 0 where
  pub held : list_any (λ h. same_unit (unit_of h.update.key) last.1) rows ≡ true
  pub number : last_local rows last.1 ≡ last.0
  pub from : usn ≤ last.0

-- the units that are held whose last local USN is this or a greater one, rising by it
pub record AreLasts (rows : List Held) (usn : ℕ) (lasts : List Last) : Type 0 where
  pub rises : Rises last_order lasts
  pub own : Each (IsLast rows usn) lasts
  pub all : (unit : Named) → list_any (λ h. same_unit (unit_of h.update.key) unit) rows ≡ true → usn ≤ last_local rows unit → Member (last_local rows unit, unit) lasts

-- units that are held, rising by their last local USNs, among them those whose number is behind this one
pub record AreAmong (rows : List Held) (usn : ℕ) (lasts : List Last) : Type 0 where
  pub rises : Rises last_order lasts
  pub own : Each (IsLast rows 0) lasts
  pub all : (unit : Named) → list_any (λ h. same_unit (unit_of h.update.key) unit) rows ≡ true → usn < last_local rows unit → Member (last_local rows unit, unit) lasts

-- the unit of a hint, where the hint's number is its last
abbrev pub last_hinted : List Held → Local → Option Last
last_hinted rows hint = option_map (λ u. (hint.usn, u)) (unit_hinted rows hint)

abbrev pub lasts_hinted : List Held → List Local → List Last
lasts_hinted rows hints = filter_map (last_hinted rows) hints
