use Rattle.std.proofs.Common.{Bool, Bor, sym, ap, ◌∙◌}
use Rattle.std.specs.List.{list_all}
use Rattle.std.proofs.lemmas.List.Folds.{list_all-map}
use Rattle.adr_model.specs.Store.{Held}
use Rattle.adr_law_calls.specs.Tested.{fits_class}
use Rattle.adr_records.proofs.touched.are_of_class.Goals as goal

pub returns : goal.returns
returns c =
    let test : Held → Bool = λ h. fits_class c.args.schema c.args.class h.update in
    c.all_fit.ensures
    ∙ ap (list_all (λ (r : Bor Held). test r.now)) c.as_slice.ensures.value
    ∙ sym (list_all-map test (λ (r : Bor Held). r.now) c.in_ok-rows_of.field-0.items)
    ∙ c.in_ok-rows_of.ensures test
