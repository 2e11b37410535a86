-- Controllers that act one after the other: each call hands on the controller that it leaves.
use Rattle.std.specs.Prelude.{ℕ, List, [], ◌∷◌, Bool, Option, Some, None, is_some, Result, Ok, Err, length}
use Rattle.std.specs.List.{flat_map}
use Rattle.adr_values.specs.declared.content.Value.{Value}
use Rattle.adr_values.specs.declared.content.Value.TheVariants.{Text}
use Rattle.adr_values.specs.declared.mark.Mark.{Mark}
use Rattle.adr_call.specs.declared.refusal.ServeRefusal.{ServeRefusal}
use Rattle.adr_call.specs.declared.refusal.TakeRefusal.{TakeRefusal}
use Rattle.adr_call.specs.declared.directory.Entry.{Entry}
use Rattle.adr_model.specs.Update.{Identifier}
use Rattle.adr_model.specs.Place.{identifier, root}
use Rattle.adr_model.specs.Directory.{directory}
use Rattle.adr_model.specs.Store.{State, updates_of, empty_state}
use Rattle.adr_model.specs.Change.{Item, Change, after}
use Rattle.adr_model.specs.Serve.{Reply, ask, serve}
use Rattle.adr_model.specs.Write.{Write, AddObject, write}
use Rattle.adr_model.specs.Take.{take}
use Rattle.adr_model.specs.Collect.{woken}

-- two new controllers, and a third
abbrev pub first : State
first = empty_state (identifier 160) (identifier 161)

abbrev pub second : State
second = empty_state (identifier 176) (identifier 177)

abbrev pub third : State
third = empty_state (identifier 192) (identifier 193)

abbrev pub made : {E : Type 0} → State → Result Change E → State
made s (Ok c) = after s c
made s (Err e) = s

-- a client writes at a time
abbrev pub writes : {A : Type 0} → State → ℕ → Write → (State → A) → A
writes s now w next = next (made s (write s w now))

-- a container under the root
abbrev pub adds : {A : Type 0} → State → ℕ → ℕ → List ℕ → (State → A) → A
adds s now guid name next = writes s now (AddObject (identifier guid) 4 root name []) next

-- a reply as it is told: where it begins and ends, its items and rows, and whether it is the last
abbrev pub Told : Type 0
Told = Mark × Mark × ℕ × ℕ × Bool

abbrev pub told : Reply → Told
told r = (r.from, r.to, length r.items, length (flat_map (λ (i : Item). i.rows) r.items), is_some r.last)

-- a delivery as it is told: the items that wrote, and the USN after, or the refusal
abbrev pub Got : Type 0
Got = Result (ℕ × ℕ) TakeRefusal

abbrev pub got : Result Change TakeRefusal → Got
got (Ok c) = Ok (length c.writes, c.usn)
got (Err e) = Err e

-- a reply, where it comes
abbrev pub replies : {A : Type 0} → Result Reply ServeRefusal → A → (Reply → A) → A
replies (Ok r) none next = next r
replies (Err e) none next = none

-- what is told of a reply and its delivery
abbrev pub Pulled : Type 0
Pulled = Option (Told × Got)

abbrev pub delivers : {A : Type 0} → State → Reply → (Got → State → A) → A
delivers d r next = let t = take d r in next (got t) (made d t)

-- one controller asks another, which serves, and takes the reply
abbrev pub pulls : {A : Type 0} → State → State → ℕ → (Pulled → State → A) → A
pulls d s max next =
    replies (serve s (ask d s.dsa max 2) 0) (next None d) (λ (r : Reply). delivers d r (λ (g : Got) (e : State). next (Some (told r, g)) e))

abbrev pub shows : State → List Entry
shows s = directory (updates_of s.store.rows)

-- the image of one controller as another one, or the same one anew
abbrev pub from_image : State → Identifier → Identifier → State
from_image s dsa inv = woken s.store dsa inv

abbrev pub mark : ℕ → ℕ → ℕ → Mark
mark obj prop seen = record { obj = obj; prop = prop; seen = seen }

-- entries: of an object without values and links, of a container under the root, and of a user, who has a name to log on with
abbrev pub bare : ℕ → ℕ → Identifier → List ℕ → Entry
bare guid class parent name = record { guid = identifier guid; class = class; parent = parent; name = name; values = []; links = [] }

abbrev pub container : ℕ → List ℕ → Entry
container guid name = bare guid 4 root name

abbrev pub account : List ℕ → List (ℕ × List Value)
account name = (10, Text name ∷ []) ∷ []

abbrev pub user : ℕ → Identifier → List ℕ → List ℕ → Entry
user guid parent name login = record { guid = identifier guid; class = 5; parent = parent; name = name; values = account login; links = [] }
