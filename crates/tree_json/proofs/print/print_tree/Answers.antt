use Rattle.std.proofs.Common.{◌≡◌, ◌∙◌, ◌≤◌, ap, option_map, Some, arith, false}
use Rattle.std.proofs.lemmas.List.Elements.{recursion_from_All}
use Rattle.serde_json.specs.Data.{depth}
use Rattle.serde_json.specs.Read.{read, max_depth}
use Rattle.serde_json.specs.View.{view}
use Rattle.serde_json.specs.Written.{compact_text, has_float}
use Rattle.math_tree.specs.Forms.{most_levels}
use Rattle.tree_json.specs.Print.{value_of, print_of}
use Rattle.tree_json.specs.Reading.{tree_of}
use Rattle.math_tree.specs.Trees.{Listed, listed}
use Rattle.tree_json.proofs.Printing.{no_float, depth_within}
use Rattle.tree_json.proofs.RoundTrip.{print_reads_back}
use Rattle.tree_json.proofs.print.print_tree.Goals as goal

pub returns-clause-print : goal.returns-clause-print
unfolding print_of
returns-clause-print c =
    let root = c.args.tree.now.root in
    let is : view c.in_ok-value_of.field-0 ≡ value_of root = c.in_ok-value_of.ensures ∙ ap value_of c.root.ensures.exact in
    let whole : has_float (view c.in_ok-value_of.field-0) ≡ false = ap has_float is ∙ no_float root in
    c.from.ensures ∙ ap (λ v. v.items) c.into_bytes.ensures.value ∙ c.in_ok-text.ensures.text whole ∙ ap compact_text is

pub returns-clause-reads_back : goal.returns-clause-reads_back
returns-clause-reads_back c =
    let tree = c.args.tree.now in
    let is : view c.in_ok-value_of.field-0 ≡ value_of tree.root = c.in_ok-value_of.ensures ∙ ap value_of c.root.ensures.exact in
    let within = depth_within most_levels tree.root 1 (recursion_from_All (λ (e : Listed). e.level ≤ most_levels) (listed 1 tree.root) c.root.ensures.whole.shallow) in
    let same = ap depth is in
    let shallow : depth (view c.in_ok-value_of.field-0) ≤ max_depth = omega (arith, within, same) in
    ap (λ t. option_map tree_of (read t)) (c.from.ensures ∙ ap (λ v. v.items) c.into_bytes.ensures.value)
    ∙ ap (option_map tree_of) (c.in_ok-text.ensures.reads_back shallow ∙ ap Some is)
    ∙ ap Some (print_reads_back tree c.root.ensures.whole)
