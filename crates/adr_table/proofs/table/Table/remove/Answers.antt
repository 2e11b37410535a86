use Rattle.std.proofs.Common.{◌≡◌, ◌∙◌, ap, cond, None}
use Rattle.adr_model.specs.Change.{without_object}
use Rattle.adr_model.specs.Store.{is_row_of}
use Rattle.adr_shelves.specs.declared.place.Place.{Place}
use Rattle.adr_shelves.specs.Place.{is_in_run, place_of, rows_start}
use Rattle.adr_table.specs.Slots.{row_at, rows_seen}
use Rattle.adr_table.specs.Deaths.{IsListed}
use Rattle.adr_table.specs.Locals.{IsLocated}
use Rattle.adr_table.proofs.Rooms.{backed_fewer, still_none}
use Rattle.adr_table.proofs.LocalsKept.{each_without}
use Rattle.adr_table.proofs.Stripped.{leaves, kept, stripped_seen}
use Rattle.adr_table.proofs.table.Table.remove.Goals as goal

pub emptied : (c : goal.After-empty_run) (q : Place) → row_at c.empty_run.new.self q ≡ cond (is_in_run (rows_start c.args.object.now) q) None (row_at c.args.self.now.slots q)
emptied c q = c.empty_run.ensures.rows q ∙ ap (λ s. cond (is_in_run s q) None (row_at c.args.self.now.slots q)) c.before_rows.ensures.place

pub fewer : (c : goal.After-empty_run) (q : Place) → row_at c.args.self.now.slots q ≡ None → row_at c.empty_run.new.self q ≡ None
fewer c q none = emptied c q ∙ still_none (is_in_run (rows_start c.args.object.now) q) (row_at c.args.self.now.slots q) none

pub without : (c : goal.After-empty_run) → rows_seen c.empty_run.new.self ≡ without_object (rows_seen c.args.self.now.slots) c.args.object.now
without c =
    stripped_seen (is_row_of c.args.object.now) c.args.self.now.slots.map c.empty_run.new.self.map c.empty_run.ensures.places c.requires.kept.tidy.ordered
    (kept (is_row_of c.args.object.now) c.args.self.now.slots.map c.empty_run.new.self.map c.requires.kept.tidy.home
    (λ k. emptied c (place_of k) ∙ leaves c.args.object.now k (row_at c.args.self.now.slots (place_of k)))
    (fewer c))

pub returns-clause-rows : goal.returns-clause-rows
returns-clause-rows c = without c

pub returns-clause-kept : goal.returns-clause-kept
returns-clause-kept c = record {
  tidy = c.empty_run.ensures.tidy;
  backed = backed_fewer c.args.self.now.slots c.empty_run.new.self c.args.self.now.back c.requires.kept.backed (fewer c);
  listed = each_without c.args.self.now.slots c.empty_run.new.self (λ h. IsListed c.args.self.now.dead h.update.key) c.args.object.now c.requires.kept.listed (without c);
}

pub returns-clause-numbered : goal.returns-clause-numbered
returns-clause-numbered c = each_without c.args.self.now.slots c.empty_run.new.self (IsLocated c.args.self.now.locals) c.args.object.now c.requires.numbered (without c)
