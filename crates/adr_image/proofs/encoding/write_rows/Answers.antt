use Rattle.std.proofs.Common.{ℕ, List, ◌++◌, ap, arith, drop, length, sym, subst, ◌∙◌, Bor}
use Rattle.std.specs.Prelude.{All}
use Rattle.std.specs.List.{flat_map}
use Rattle.std.proofs.lemmas.List.Elements.{All-drop}
use Rattle.adr_values.specs.declared.stamp.Oid.{Oid}
use Rattle.adr_wire.specs.Fields.{u32}
use Rattle.adr_model.specs.Store.{Held}
use Rattle.adr_update.specs.Referents.{referents}
use Rattle.adr_update.proofs.Referred.{length_referents}
use Rattle.adr_image.specs.Stored.{apart}
use Rattle.adr_image.specs.Written.{IsShortSaid, held}
use Rattle.adr_image.proofs.Keeping.{on_ok_then}
use Rattle.adr_image.proofs.Writing.{all_referents, births_referents, rest_is, rows_written}
use Rattle.adr_image.proofs.encoding.write_rows.Goals as goal

pub overflow_cast-births : goal.overflow_cast-births
overflow_cast-births c =
    let births = c.births.ensures ∙ ap (λ (os : List Oid). length os) (births_referents c.args.rows.now) ∙ c.requires.births in
    omega (arith, births, c.requires.few_objects)

pub write_objects-requires-clause-short : goal.write_objects-requires-clause-short
write_objects-requires-clause-short c = all_referents c.args.rows.now c.requires.short

pub write_each-requires : goal.write_each-requires
write_each-requires c =
    subst (All (λ (h : Bor Held). IsShortSaid h.now.update.said)) (sym (rest_is c.in_ok-done.done c.args.rows.now))
    (All-drop (λ (h : Bor Held). IsShortSaid h.now.update.said) c.in_ok-done.done c.args.rows.now (all_referents c.args.rows.now c.requires.short))

pub returns : goal.returns
returns c =
    let rows = c.args.rows.now in
    let done = c.in_ok-done.done in
    let os = (apart (referents rows)).0 in
    let ls = (apart (referents rows)).1 in
    let way = c.in_ok-done.ensures.written os ls c.requires.tidy c.requires.joined in
    let many = ap (λ (ys : List (Bor Held)). length ys) (rest_is done rows) ∙ sym (length_referents (drop done rows)) in
    let births = c.births.ensures ∙ ap (λ (os : List Oid). length os) (births_referents rows) ∙ c.requires.births in
    on_ok_then c.write_each.result c.write_each.ensures (λ all.
    rows_written c.args.writer.now c.write_u32.new.self c.write_objects.new.writer c.write_u32-2.new.self c.write_each.new.writer os ls c.births.result (referents (drop done rows))
    c.in_ok-write_u32.ensures.ok births way.0 way.1 (c.in_ok-write_u32-2.ensures.ok ∙ ap (λ (n : ℕ). c.write_objects.new.writer ++ u32 n) many)
    (all ∙ ap (λ (ys : List (Bor Held)). c.write_u32-2.new.self ++ flat_map held (referents ys)) (rest_is done rows)))
