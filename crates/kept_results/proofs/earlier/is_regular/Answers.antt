use Rattle.std.proofs.Common.{◌≡◌, ◌∙◌, refl, sym, ap, Bool, true, false, not, ◌||◌, length, List, slice_get}
use Rattle.std.proofs.lemmas.Bool.{eqb-true}
use Rattle.math_tree.specs.declared.node.Node.{Node}
use Rattle.math_tree.specs.declared.node.Node.TheViews.{out-Node}
use Rattle.layout_model.specs.Answers.{questions_in}
use Rattle.layout_model.specs.declared.reply.Reply.{Reply}
use Rattle.child_questions.specs.Surveys.{has_one_wave}
use Rattle.kept_results.proofs.Flowing.{all_in_flow}
use Rattle.kept_results.proofs.earlier.is_regular.Goals as goal

neither : (a b : Bool) → (a || b) ≡ false → (a ≡ false) × (b ≡ false)
neither true b h = absurd (cc)
neither false b h = (refl, h)

holds : (b : Bool) → not b ≡ false → b ≡ true
holds true h = refl
holds false h = sym h

pub returns : goal.returns
returns c =
    let node : Node = c.args.view.now.node.now in
    let one = neither _ _ c.if-kids-all.false in
    let two = neither _ _ one.0 in
    let many : c.len-all.result ≡ length (out-Node node).children = c.len-all.ensures ∙ ap (λ (n : Node). length (out-Node n).children) c.node.ensures in
    let kids : c.kids.result ≡ c.len-all.result = eqb-true _ _ (holds _ two.0) in
    let behind : c.prescripts.result ≡ c.len-all.result = eqb-true _ _ (holds _ two.1) in
    λ e. record {
      all = all_in_flow node (sym c.kids.ensures.count ∙ kids ∙ many);
      behind = sym c.prescripts.ensures ∙ behind ∙ many;
      one_wave = ap has_one_wave (sym c.requires) ∙ sym c.has_one_wave.ensures ∙ holds _ one.1;
      in_order = λ index question at. c.are_in_order.ensures e index question (ap (λ (l : List Reply). slice_get (questions_in l) index) c.as_slice.ensures ∙ at);
    }
