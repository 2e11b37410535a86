-- Requests for changes and their replies (after MS-DRSR GetNCChanges; what is left out and how marks move is this project's own).
use Rattle.std.specs.Prelude.{ℕ, ◌+◌, ◌-◌, ◌*◌, List, [], ◌∷◌, Bool, true, false, not, ◌&&◌, ◌||◌, ◌==◌, nat_le, nat_lt, max, length, map, filter, fold, Option, Result, if◌then◌else◌}
use Rattle.std.specs.Ordering.{nat_cmp}
use Rattle.std.specs.BTreeMap.{insert_entry}
use Rattle.std.specs.BTreeSet.{insert_key}
use Rattle.std.specs.Bool.{then_some}
use Rattle.std.specs.Option.{option_map}
use Rattle.adr_values.specs.Order.{unit_order}
use Rattle.adr_values.specs.declared.stamp.Unit.{Unit as Named}
use Rattle.adr_values.specs.declared.stamp.Unit.TheVariants.{Object, Link}
use Rattle.adr_values.specs.declared.content.Value.{Value as Datum}
use Rattle.adr_values.specs.declared.content.Value.TheVariants.{Text, Number, Flag, Octets, Ref}
use Rattle.adr_values.specs.declared.content.Content.TheVariants.{Class, Name, Dead, Values}
use Rattle.adr_values.specs.Vector.{Cursors, at, first_gap, raised}
use Rattle.adr_values.specs.declared.mark.Mark.{Mark}
use Rattle.adr_call.specs.declared.refusal.ServeRefusal.{ServeRefusal}
use Rattle.adr_call.specs.declared.refusal.ServeRefusal.TheVariants.{Quarantined as IsQuarantined, WrongController, BadMark, RolledBack, SchemaMismatch, TooOld}
use Rattle.adr_values.specs.First.{first_of}
use Rattle.adr_model.specs.Refusing.{unless}
use Rattle.adr_model.specs.Update.{Identifier, Update, Said, Holds, IsPresent, same_identifier, unit_of, same_unit}
use Rattle.adr_model.specs.Visible.{covers_update}
use Rattle.adr_model.specs.Store.{Held, Mode, Normal, Quarantined, State, updates_of, kept_of, no_mark}
use Rattle.adr_model.specs.Change.{Item}

pub record Request : Type 0 where
  pub version : ℕ
  pub dest : Identifier
  pub source : Identifier
  pub inv : Identifier
  pub mark : Mark
  pub schema : ℕ
  pub max : ℕ
  pub vector : Cursors

pub record Reply : Type 0 where
  pub version : ℕ
  pub dest : Identifier
  pub source : Identifier
  pub inv : Identifier
  pub from : Mark
  pub to : Mark
  pub schema : ℕ
  pub asked : Cursors
  pub last : Option Cursors  -- the own vector, in the last reply
  pub times : Cursors  -- and with it the times, in one of version 2
  pub items : List Item

-- what a controller asks a partner, in a version of the protocol
abbrev pub ask : State → Identifier → ℕ → ℕ → Request
ask s partner max version =
    record {
      version = version;
      dest = s.dsa;
      source = partner;
      inv = (kept_of s.store partner).inv;
      mark = (kept_of s.store partner).mark;
      schema = s.store.schema;
      max = max;
      vector = s.store.vector;
    }

-- the last local USN of a unit
abbrev pub last_local : List Held → Named → ℕ
last_local rows unit = fold (λ n (h : Held). if same_unit (unit_of h.update.key) unit then max n h.local else n) 0 rows

-- whether a row is one that the asker may lack: above the mark, and not covered
abbrev pub is_unseen : Mark → Cursors → Held → Bool
is_unseen from asked h = nat_lt from.prop h.local && not (covers_update asked h.update)

-- whether its unit is above the mark
abbrev pub is_above_mark : Mark → List Held → Held → Bool
is_above_mark from rows h = nat_lt from.obj (last_local rows (unit_of h.update.key))

-- the rows that may be sent
abbrev pub sendable : List Held → Mark → Cursors → List Held
sendable rows from asked = filter (λ h. is_above_mark from rows h && is_unseen from asked h) rows

-- the units of rows, each once
abbrev pub units_of : List Held → List Named
units_of rows = fold (insert_key unit_order) [] (map (λ (h : Held). unit_of h.update.key) rows)

-- those of the rows that are of a unit
abbrev pub item_of : List Held → Named → Item
item_of rows unit = record { unit = unit; rows = updates_of (filter (λ h. same_unit (unit_of h.update.key) unit) rows) }

-- rows as items, rising by the last local USNs of their units
abbrev pub by_last_local : List Held → List Held → List (ℕ × Item)
by_last_local all rows = fold (λ t unit. insert_entry nat_cmp t (last_local all unit) (item_of rows unit)) [] (units_of rows)

-- the items that may be sent
abbrev pub candidates : List Held → Mark → Cursors → List (ℕ × Item)
candidates rows from asked = by_last_local rows (sendable rows from asked)

-- the length of an item in bytes

abbrev pub value_length : Datum → ℕ
value_length (Text bytes) = 3 + length bytes
value_length (Number n) = 9
value_length (Flag b) = 2
value_length (Octets bytes) = 3 + length bytes
value_length (Ref guid) = 17

abbrev pub content_length : Said → ℕ
content_length (Holds (Class class)) = 2
content_length (Holds (Name text parent)) = 18 + length text
content_length (Holds Dead) = 0
content_length (Holds (Values vs)) = 1 + fold (λ n v. n + value_length v) 0 vs
content_length (IsPresent b) = 1

-- an object's name has 40 bytes, a stamp 36, an attribute's number 2
abbrev pub item_length : Item → ℕ
item_length i = by i.unit
  where
    by : Named → ℕ
    by (Object o) = 43 + fold (λ n (u : Update). n + 38 + content_length u.said) 0 i.rows
    by (Link l) = 128

-- the length of a vector in bytes: a count, and sixteen and eight bytes for each cursor
abbrev pub vector_length : Cursors → ℕ
vector_length v = 4 + 24 * length v

-- the bytes of items at which a reply is cut: 4 MiB
abbrev pub byte_limit : ℕ
byte_limit = 4194304

-- the first items: until there are so many, or so many bytes or more
abbrev pub first_items : ℕ → ℕ → List (ℕ × Item) → List (ℕ × Item)
first_items most bytes [] = []
first_items most bytes (c ∷ cs) = if (most == 0) || (bytes == 0) then [] else c ∷ first_items (most - 1) (bytes - item_length c.1) cs

-- the times that a whole reply tells: the own ones, and this moment as that of the own cursor, where there are such
abbrev pub times_told : State → ℕ → Cursors
times_told s now =
    raised (filter (λ (t : Identifier × ℕ). not (same_identifier t.0 s.inv)) s.store.times) s.inv (if s.store.usn == 0 then 0 else now)

-- a reply that sends these of the candidates
abbrev pub reply_of : State → Request → ℕ → Mark → List (ℕ × Item) → Bool → Reply
reply_of s q now from sent last =
    record {
      version = q.version;
      dest = q.dest;
      source = s.dsa;
      inv = s.inv;
      from = from;
      to = if last then all_read else read_to;
      schema = s.store.schema;
      asked = q.vector;
      last = then_some last s.store.vector;
      times = if last && (q.version == 2) then times_told s now else [];
      items = map (λ (c : ℕ × Item). c.1) sent;
    }
  where
    all_read : Mark
    all_read = record { obj = s.store.usn; prop = s.store.usn; seen = s.store.usn }

    read_to : Mark
    read_to = record { obj = fold (λ n (c : ℕ × Item). c.0) from.obj sent; prop = from.prop; seen = s.store.usn }

-- where the reply begins: the mark of the request, if it is one of this incarnation
abbrev pub begins_at : State → Request → Mark
begins_at s q = if same_identifier q.inv s.inv then q.mark else no_mark

abbrev pub reply_to : State → Request → ℕ → Reply
reply_to s q now =
    let from = begins_at s q in
    let all = candidates s.store.rows from q.vector in
    let sent = first_items q.max byte_limit all in
    reply_of s q now from sent (length sent == length all)

abbrev pub is_quarantined : Mode → Bool
is_quarantined Normal = false
is_quarantined Quarantined = true

-- how much of this incarnation a request shows that its controller has seen
abbrev pub shown_by : State → Request → ℕ
shown_by s q = max (at q.vector s.inv) (begins_at s q).seen

-- why a request is refused, in order; the first one is given
abbrev pub serve_refusals : State → Request → List (Option ServeRefusal)
serve_refusals s q =
    then_some (is_quarantined s.mode) IsQuarantined
    ∷ then_some (not (same_identifier q.source s.dsa)) (WrongController s.dsa q.source)
    ∷ then_some (not (nat_le q.mark.prop q.mark.obj && nat_le q.mark.obj q.mark.seen)) (BadMark q.mark.prop q.mark.obj q.mark.seen)
    ∷ then_some (nat_lt s.store.usn (shown_by s q)) (RolledBack s.inv s.store.usn (shown_by s q))
    ∷ then_some (not (q.schema == s.store.schema)) (SchemaMismatch s.store.schema q.schema)
    ∷ option_map (λ gap. TooOld gap.0 gap.2 gap.1) (first_gap s.store.purged q.vector)
    ∷ []

abbrev pub serve_refusal : State → Request → Option ServeRefusal
serve_refusal s q = first_of (serve_refusals s q)

-- what a request is answered: the first refusal, or the reply
abbrev pub serve : State → Request → ℕ → Result Reply ServeRefusal
serve s q now = unless (serve_refusal s q) (reply_to s q now)
