-- What a formed store shows is exportable where it is printable, and it is printable where the rows are whole.
use Rattle.std.proofs.Common.{◌≡◌, ℕ, List, sym, subst, map}
use Rattle.std.specs.Prelude.{All}
use Rattle.std.proofs.lemmas.List.Elements.{All-from_recursion}
use Rattle.adr_values.specs.Numbered.{numbered}
use Rattle.adr_call.specs.declared.directory.Entry.{Entry}
use Rattle.adr_records.specs.Logged.{IsLogged}
use Rattle.adr_model.specs.Member.{Member, Each}
use Rattle.adr_model.specs.Update.{Update}
use Rattle.adr_model.specs.Store.{State, updates_of}
use Rattle.adr_model.specs.Live.{live_rows}
use Rattle.adr_model.specs.Place.{Node}
use Rattle.adr_model.specs.Directory.{values_at, entry_of, directory}
use Rattle.adr_model.specs.Formed.{AreFormedRows}
use Rattle.adr_model.specs.Write.{nodes_held}
use Rattle.adr_model.proofs.Members.{mapped_member}
use Rattle.adr_law_calls.proofs.Rising.{one_update}
use Rattle.adr_law_calls.proofs.Shown.{shown_comes}
use Rattle.adr_law_recorded.proofs.Values.{all_in}
use Rattle.adr_law_recorded.proofs.Served.{logged_says}
use Rattle.adr_answers.specs.Printable.{IsPrintable}
use Rattle.adr_json.specs.Exportable.{AreOfKind, AttributesRise, IsExportable}
use Rattle.adr_json.proofs.Allowed.{of_kind}
use Rattle.adr_law_headline.proofs.ShownPrintable.{shows_printable}
use Rattle.adr_law_headline.specs.Exportable.{LogsAreExportable}
use Rattle.adr_law_headline.proofs.RisingShown.{values_rise, links_rise}

-- of each member, and so at each place
each_place : {A : Type 0} (P : A → Type 0) (xs : List A) → Each P xs → All P xs
each_place P xs each = All-from_recursion P xs (all_in P xs each)

-- what an exportable entry is beside printable
abbrev IsToldByMembers : Entry → Type 0
IsToldByMembers e = All AreOfKind e.values × AttributesRise e.values × AttributesRise e.links

module _ (schema : ℕ) (rows : List Update) (formed : AreFormedRows (numbered schema) rows)
    (one : Each (λ u. Each (λ v. u.key ≡ v.key → u ≡ v) rows) rows) where
  entry_told : (n : Node) → Member n (nodes_held rows) → IsToldByMembers (entry_of (live_rows rows) (nodes_held rows) n)
  entry_told n m = (
    each_place AreOfKind (values_at (live_rows rows) n.object)
        (λ v k. of_kind schema n.class v.0 v.1 ((shown_comes (numbered schema) rows formed one n m).held v k).allowed),
    values_rise rows n.object,
    links_rise (live_rows rows) n.object,
  )

  entries_told : All IsToldByMembers (directory rows)
  entries_told = each_place IsToldByMembers (directory rows) each
    where
      each : Each IsToldByMembers (map (entry_of (live_rows rows) (nodes_held rows)) (nodes_held rows))
      each e m = let t = mapped_member (entry_of (live_rows rows) (nodes_held rows)) (nodes_held rows) e m in
          subst IsToldByMembers (sym t.2) (entry_told t.0 t.1)

  shows_exportable : IsPrintable (directory rows) → IsExportable (directory rows)
  shows_exportable printable k d below = let told = entries_told k d below in
      record { printable = printable k d below; kinds = told.0; values_rise = told.1; links_rise = told.2 }

pub exportable_where_printable : (s : State) → IsLogged s → IsPrintable (directory (updates_of s.store.rows))
    → IsExportable (directory (updates_of s.store.rows))
exportable_where_printable s is =
    shows_exportable s.store.schema (updates_of s.store.rows) is.formed.store.rows (one_update s.store.rows is.formed.store.rising)

pub logs_are_exportable : LogsAreExportable
logs_are_exportable s is whole = exportable_where_printable s is
    (shows_printable s.store.schema (updates_of s.store.rows) is.formed.store.rows is.classes (logged_says s is) whole)
