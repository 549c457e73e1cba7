-- What a tree that can be laid out gives to placing it.
use Rattle.std.proofs.Common.{◌≡◌, ◌≤◌, subst, sym, true, pos}
use Rattle.std.specs.List.{All}
use Rattle.font_metrics.specs.Metrics.{MetricsValue}
use Rattle.font_metrics.specs.Taken.{IsTaken}
use Rattle.math_tree.specs.Forms.{most_levels}
use Rattle.math_tree.specs.Trees.{TreeValue, IsWhole, element_count}
use Rattle.math_tree.specs.declared.node.Node.{Node}
use Rattle.math_tree.specs.declared.node.Node.TheViews.{out-Node}
use Rattle.layout_model.proofs.LaidTrees.{drawn_law, levels_law, stored_law}
use Rattle.layout_model.specs.Laid.{all_outcomes, levels}
use Rattle.layout_model.specs.Layout.{is_tree_in_range, laid, laid_tree, root_context}
use Rattle.layout_model.specs.declared.context.Context.{Context}
use Rattle.layout_model.specs.declared.laid.Laid.{Laid}
use Rattle.outcome_cells.specs.Store.{StoreValue}
use Rattle.kept_results.specs.Backed.{IsBacked}
use Rattle.kept_results.specs.Kept.{Agrees, IsKept}
use Rattle.kept_results.specs.declared.memo.Memo.{Memo}
use Rattle.kept_results.specs.declared.memo.Memo.TheViews.{out-Memo}
use Rattle.memo_tree.specs.Trees.{IsLaidOut, MemoTreeValue, context_of}
use Rattle.memo_tree.proofs.Roots.{kept_of}
use Rattle.layout_model.specs.Range.{outcome_fits}
use Rattle.box_writer.specs.Items.{IsOfFont}
use Rattle.placement.proofs.Glyphs.{glyph_law}
use Rattle.placement.specs.Placing.{placed}

module _ (m : MetricsValue) (tree : TreeValue) where
  pub few_levels : IsWhole tree → levels (laid_tree m tree) ≤ most_levels
  few_levels whole = levels_law m tree.root (root_context m (out-Node tree.root).head) most_levels whole.shallow

  pub all_stored : is_tree_in_range m tree ≡ true → all_outcomes outcome_fits (laid_tree m tree) ≡ true
  all_stored fit = stored_law m tree.root (root_context m (out-Node tree.root).head) fit

  pub glyphs_known : IsTaken m → is_tree_in_range m tree ≡ true → All (IsOfFont m) (placed (laid_tree m tree) (pos 0) (pos 0))
  glyphs_known taken fit =
      glyph_law m (laid_tree m tree) (pos 0) (pos 0) (drawn_law m tree.root (root_context m (out-Node tree.root).head) taken fit)

-- what a session shows of its tree, where the root and what is kept of it are read off it
module _ (held : MemoTreeValue) (m : MetricsValue) (root : Node) (memo : Memo) (context : Context) (numbers : m ≡ held.metrics) (top : root ≡ held.tree.root) (kept : memo ≡ held.memo)
    (at : context ≡ context_of held.metrics held.tree) (is : IsLaidOut held) (whole : IsWhole held.tree) where
  pub root_agrees : Agrees m root memo
  root_agrees =
      subst (λ (x : MetricsValue). Agrees x root memo) (sym numbers)
      (subst (λ (n : Node). Agrees held.metrics n memo) (sym top) (subst (Agrees held.metrics held.tree.root) (sym kept) is.sealed.ready.agrees))

  pub root_backed : (store : StoreValue) → store ≡ held.store → IsBacked m store.runs root memo
  root_backed store stored =
      subst (λ (s : StoreValue). IsBacked m s.runs root memo) (sym stored)
      (subst (λ (x : MetricsValue). IsBacked x held.store.runs root memo) (sym numbers)
      (subst (λ (n : Node). IsBacked held.metrics held.store.runs n memo) (sym top)
      (subst (IsBacked held.metrics held.store.runs held.tree.root) (sym kept) is.has_runs.backed)))

  pub root_kept : IsKept (out-Memo memo) context
  root_kept =
      subst (λ (z : Memo). IsKept (out-Memo z) context) (sym kept)
      (subst (IsKept (out-Memo held.memo)) (sym at) (kept_of held.memo (context_of held.metrics held.tree) is.sealed.kept))

  pub root_few : element_count root ≤ 65_536
  root_few = subst (λ (n : Node). element_count n ≤ 65_536) (sym top) whole.few

  pub root_laid : laid m root context ≡ laid_tree held.metrics held.tree
  root_laid = λ i. laid (numbers i) (top i) (at i)

  pub root_levels : levels (laid m root context) ≤ most_levels
  root_levels = subst (λ (l : Laid). levels l ≤ most_levels) (sym root_laid) (few_levels held.metrics held.tree whole)

  pub root_stored : all_outcomes outcome_fits (laid m root context) ≡ true
  root_stored = subst (λ (l : Laid). all_outcomes outcome_fits l ≡ true) (sym root_laid) (all_stored held.metrics held.tree is.fit)
