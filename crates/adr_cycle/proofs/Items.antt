-- What an item makes of what was taken before it.
use Rattle.std.proofs.Common.{◌≡◌, ℕ, ◌+◌, List, [], ◌++◌, Option, max, length, ap, ◌∙◌}
use Rattle.std.specs.Option.{option_or}
use Rattle.adr_values.specs.Table.{Table as Schema}
use Rattle.adr_values.specs.Vector.{Cursors}
use Rattle.adr_call.specs.declared.refusal.TakeRefusal.{TakeRefusal}
use Rattle.adr_model.specs.Update.{Update}
use Rattle.adr_model.specs.Live.{objects_of}
use Rattle.adr_model.specs.Store.{updates_of}
use Rattle.adr_model.specs.Change.{Item, held_of, rows_after}
use Rattle.adr_model.specs.Take.{Taking, item_refusal, rows_taken, take_item, writes_of}
use Rattle.adr_model.specs.Write.{links_in}
use Rattle.adr_model.proofs.Firsts.{first_of_two}

-- these rows of it are written
abbrev pub written : Taking → Item → List Update → Taking
written t item us =
    let writes = writes_of t.usn item us in
    record t { rows = rows_after [] (held_of writes) t.rows; usn = t.usn + length writes; writes = t.writes ++ writes }

-- it is counted
abbrev pub counted : Taking → Option TakeRefusal → ℕ → ℕ → Taking
counted t refusal objects links = record t { refusal = refusal; place = t.place + 1; objects = objects; links = links }

abbrev judged : Taking → Option TakeRefusal → Taking
judged t fault = counted t (option_or t.refusal fault) (max t.objects (length (objects_of (updates_of t.rows)))) (max t.links (links_in t.rows))

-- it is taken, where it was judged by what was there before
pub item_taken : (table : Schema) (vector : Cursors) (t new : Taking) (item : Item) (us : List Update) (fault refusal : Option TakeRefusal) (objects links : ℕ) → new ≡ written t item us → us ≡ rows_taken vector t.rows item
    → fault ≡ item_refusal table vector t.rows t.place item → refusal ≡ option_or new.refusal fault → objects ≡ max new.objects (length (objects_of (updates_of new.rows))) → links ≡ max new.links (links_in new.rows)
    → counted new refusal objects links ≡ take_item table vector t item
item_taken table vector t new item us fault refusal objects links made taken found first most most_links =
    let whole = written t item (rows_taken vector t.rows item) in
    ap (λ r. counted new r objects links) first
    ∙ ap (λ n. counted new (option_or new.refusal fault) n links) most
    ∙ ap (counted new (option_or new.refusal fault) (max new.objects (length (objects_of (updates_of new.rows))))) most_links
    ∙ ap (λ v. judged v fault) (made ∙ ap (written t item) taken)
    ∙ ap (judged whole) found
    ∙ ap (λ r. counted whole r (max t.objects (length (objects_of (updates_of whole.rows)))) (max t.links (links_in whole.rows))) (first_of_two t.refusal (item_refusal table vector t.rows t.place item))
