use Rattle.std.proofs.Common.{ap, ◌∙◌, List, ℕ}
use Rattle.std.proofs.lemmas.Str.{is_utf8-from_IsUtf8}
use Rattle.adr_values.specs.Assignments.{Given}
use Rattle.adr_call.specs.declared.write.Write.TheVariants.{Add}
use Rattle.adr_model.specs.Place.{root}
use Rattle.adr_test_killed.specs.Objects.{guid_of}
use Rattle.adr_test_killed.proofs.objects.addition.Goals as goal

pub returns : goal.returns
returns c =
    record {
      text = c.from_string-text.result;
      utf8 = is_utf8-from_IsUtf8 c.from_string-text.result c.items.ensures.text;
      is =
          ap (λ (guid : List ℕ). Add guid 4 c.root.result c.from_string-text.result c.new.result) c.guid_of.ensures
          ∙ ap (λ (parent : List ℕ). Add (guid_of c.args.number) 4 parent c.from_string-text.result c.new.result) c.root.ensures
          ∙ ap (λ (values : List Given). Add (guid_of c.args.number) 4 root c.from_string-text.result values) c.new.ensures;
    }
