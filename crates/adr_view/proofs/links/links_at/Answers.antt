use Rattle.std.proofs.Common.{◌≡◌, ◌++◌, true, ℕ, List, sym, ap, ◌∙◌, subst}
use Rattle.std.specs.Prelude.{IfOk}
use Rattle.std.specs.List.{flat_map}
use Rattle.adr_model.specs.Directory.{gathered}
use Rattle.adr_model.specs.Store.{Held, updates_of}
use Rattle.adr_model.specs.Update.{Identifier}
use Rattle.adr_model.specs.Write.{nodes_held}
use Rattle.adr_update.specs.Referents.{referents}
use Rattle.adr_update.specs.Sought.{is_link_to}
use Rattle.adr_view.specs.BackLinks.{have_back_links}
use Rattle.adr_view.specs.Ends.{back_end, forward_end}
use Rattle.adr_view.proofs.LiveParts.{fewer_linked, own_links}
use Rattle.adr_view.proofs.links.links_at.Goals as goal

pub push_all_back-requires : goal.push_all_back-requires
push_all_back-requires c =
    subst (λ (hs : List Held). have_back_links (updates_of hs) ≡ true) (sym (ap referents c.as_slice-2.ensures.value ∙ c.in_ok-links_to.ensures))
    (fewer_linked (is_link_to c.args.object.now) c.args.rows.now c.requires.links)

pub returns : goal.returns
returns c =
    let all = nodes_held (updates_of c.args.rows.now) in
    let from = referents c.as_slice.result.now in
    let to = referents c.as_slice-2.result.now in
    subst (λ (every : List (ℕ × List Identifier)). IfOk c.gathered.result (λ (links : List (ℕ × List Identifier)). links ≡ every))
    (ap gathered
    (c.as_slice-3.ensures.value
    ∙ (c.in_ok-push_all_back.ensures
    ∙ ap (λ (ends : List (ℕ × Identifier)). ends ++ flat_map (λ (h : Held). back_end all h.update.key h.update.said) to)
    (c.in_ok-push_all_forward.ensures
    ∙ ap (λ (ends : List (ℕ × Identifier)). ends ++ flat_map (λ (h : Held). forward_end all h.update.key h.update.said) from) c.new-ends.ensures.items)))
    ∙ own_links c.args.rows.now c.are_rising.ensures c.args.object.now c.requires.live c.requires.named from to
    (ap referents c.as_slice.ensures.value ∙ c.in_ok-links_from.ensures) (ap referents c.as_slice-2.ensures.value ∙ c.in_ok-links_to.ensures))
    c.gathered.ensures
