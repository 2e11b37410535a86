use Rattle.std.proofs.Common.{◌≡◌, inl, ⊎_elim, refl, sym, ap, ◌∙◌, subst}
use Rattle.std.specs.Prelude.{true, false, codes}
use Rattle.std.specs.Str.{bytes_eq}
use Rattle.caseless.proofs.Computing.{caseless}
use Rattle.std.specs.Str.{chars}
use lib.Utf8.{encode}
use Rattle.uuid.proofs.OnLiterals.{uuid_on_literals}
use Rattle.adr_values.specs.Schemas.{schema_1}
use Rattle.adr_values.specs.Names.{name_fault}
use Rattle.adr_values.specs.Values.{bad_place}
use Rattle.adr_values.specs.Rules.{add_refusal, modify_refusal, link_refusal, row_refusal}
use Rattle.adr_model.specs.Member.{Member}
use Rattle.adr_model.specs.Update.{Update, RowOf, same_key}
use Rattle.adr_model.specs.Change.{updates_written}
use Rattle.adr_test_definitions.specs.Runs.{object}
use Rattle.adr_test_definitions.specs.Forged.{birth_at_1, change_at_1}
use Rattle.adr_test_definitions.proofs.what_lines_leave.Goals as goal

pub returns-clause-unclean : goal.returns-clause-unclean
unfolding caseless uuid_on_literals chars encode schema_1 name_fault bad_place add_refusal modify_refusal link_refusal row_refusal
returns-clause-unclean c = refl

pub returns-clause-clean : goal.returns-clause-clean
unfolding caseless uuid_on_literals chars encode schema_1 name_fault bad_place add_refusal modify_refusal link_refusal row_refusal
returns-clause-clean c = refl

pub returns-clause-two : goal.returns-clause-two
unfolding caseless uuid_on_literals chars encode schema_1 name_fault bad_place add_refusal modify_refusal link_refusal row_refusal
returns-clause-two c = refl

pub returns-clause-bound : goal.returns-clause-bound
returns-clause-bound c = λ may. may _ (inl refl) refl

pub returns-clause-unbound : goal.returns-clause-unbound
returns-clause-unbound c = λ x m. ⊎_elim (λ is e. other (sym (ap (λ y. y.0) is) ∙ e)) (λ none. absurd none) m
  where
    other : codes "q" ≡ codes "p" → ⊥
    other e = let t : false ≡ true = ap (λ xs. bytes_eq xs (codes "p")) e in absurd (cc)

pub returns-clause-two_changes : goal.returns-clause-two_changes
returns-clause-two_changes c = λ one. ⊎_elim (λ is. not_in_17 (subst (λ d. Member (birth_at_1 16) (updates_written d)) is one.2)) (λ rest. ⊎_elim (λ is. not_in_16 (subst (λ d. Member (birth_at_1 17) (updates_written d)) is one.3)) (λ none. none) rest) one.1
  where
    differ : birth_at_1 16 ≡ birth_at_1 17 → ⊥
    differ e = let t : true ≡ false = ap (λ (u : Update). same_key u.key (RowOf (object 16 161 1) 1)) e in absurd (cc)

    not_in_17 : Member (birth_at_1 16) (updates_written (change_at_1 17)) → ⊥
    not_in_17 m = ⊎_elim differ (λ none. none) m

    not_in_16 : Member (birth_at_1 17) (updates_written (change_at_1 16)) → ⊥
    not_in_16 m = ⊎_elim (λ e. differ (sym e)) (λ none. none) m
