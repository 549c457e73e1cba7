use Rattle.std.proofs.Common.{◌≡◌, ◌∙◌, ap, sym, subst, All, List, Ok}
use Rattle.math_tree.specs.Trees.{TreeValue}
use Rattle.hit_test.specs.Elements.{flow_tree}
use Rattle.hit_test.specs.Selecting.{IsInReach, missing_id, selected_areas}
use Rattle.edit_session.specs.Session.{KeptSession, page}
use Rattle.page_facts.proofs.Pages.{reach_law}
use Rattle.queries.specs.Lines.{lines_of_areas}
use Rattle.queries.specs.Queries.{flow_of}
use Rattle.queries.proofs.Found.{both_there, one_missing}
use Rattle.queries.proofs.answering.areas_between.Goals as goal

pub selection-requires : goal.selection-requires
selection-requires c =
    let s = c.args.session.now.held in
    subst (All IsInReach) (sym c.requires) (reach_law s.metrics s.tree c.has_page.ensures)

pub returns-in-Ok-clause-told : goal.returns-in-Ok-clause-told
returns-in-Ok-clause-told c =
    let s = c.args.session.now.held in
    let first = c.args.first.0 in
    let second = c.args.second.0 in
    let tree : c.tree.result.now ≡ s.tree = c.tree.ensures ∙ ap (λ (k : KeptSession). k.held.tree) c.layouts.ensures.exact in
    let none = ap (λ (t : TreeValue). missing_id first second (flow_tree t.root)) (sym tree) ∙ c.in-Ok.ensures.there in
    let areas = c.in-Ok.ensures.exact ∙ (λ i. selected_areas first second (flow_tree (tree i).root) (c.requires i)) in
    both_there (missing_id first second (flow_of s)) (selected_areas first second (flow_of s) (page s)) none ∙ ap (λ some. Ok (lines_of_areas some)) (sym areas)
