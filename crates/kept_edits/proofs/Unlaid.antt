-- Memos of which nothing is kept.
use Rattle.std.proofs.Common.{◌≡◌, ◌∙◌, refl, sym, ap, subst, ℕ, zero, suc, Bool, true, ◌&&◌, Some, None, List, [], ◌∷◌, length, map, slice_get, take, arith}
use Rattle.std.proofs.lemmas.List.{length-map, take_all}
use Rattle.std.proofs.lemmas.Option.{none-some, same_Some}
use Rattle.std.specs.List.{AllByRecursion, list_all}
use Rattle.font_metrics.specs.Metrics.{MetricsValue}
use Rattle.math_tree.specs.declared.node.Node.{Node}
use Rattle.math_tree.specs.declared.node.Node.TheFolds.{fold_out-Node}
use Rattle.math_tree.specs.declared.node.Node.TheViews.{out-Node}
use Rattle.math_tree.proofs.Nodes.{by_children}
use Rattle.embellished.specs.Facts.{facts, facts_over}
use Rattle.embellished.specs.declared.facts.Facts.{Facts}
use Rattle.embellished.proofs.Nodes.{facts_out}
use Rattle.kept_results.specs.Ends.{stripped}
use Rattle.kept_results.specs.Kept.{Agrees, IsMemoOf}
use Rattle.kept_results.specs.Laws.{is_unmarked, unmarked_layer}
use Rattle.kept_results.specs.Looking.{own_facts}
use Rattle.kept_results.specs.declared.memo.Entry.{Entry}
use Rattle.kept_results.specs.declared.memo.Memo.{Memo}
use Rattle.kept_results.specs.declared.memo.Memo.TheFolds.{fold-roll-Memo}
use Rattle.kept_results.specs.declared.memo.Memo.TheOpen.{Memo-F}
use Rattle.kept_results.specs.declared.memo.Memo.TheViews.{roll-Memo}
use Rattle.kept_results.proofs.Agreement.{agrees_made}
use Rattle.kept_results.proofs.Counts.{stripped_roll}
use Rattle.kept_edits.specs.Blank.{blank, blank_over}
use Rattle.kept_edits.specs.Laws.{BlankLaw, IsReadyFor}

pub blank_out : (node : Node) → blank node ≡ blank_over (out-Node node).head (map blank (out-Node node).children)
unfolding blank
blank_out = fold_out-Node Memo (λ layer. blank_over layer.head layer.children)

-- what is made of the parts
pub blank_made : (node : Node) (own : Facts) (kids : List Facts) (entries : List Entry) (below : List Memo) (items : List Node) (i : ℕ)
    → own ≡ facts_over (out-Node node).head kids → kids ≡ map own_facts below → entries ≡ [] → below ≡ map blank (take i items)
    → items ≡ (out-Node node).children → length items ≡ i
    → roll-Memo record { former = None; facts = own; entries = entries; below = below } ≡ blank node
blank_made node own kids entries below items i o k e b is l =
    let all : below ≡ map blank (out-Node node).children = b ∙ ap (map blank) (take_all i items (omega (arith, l)) ∙ is) in
    let facts : own ≡ facts_over (out-Node node).head (map own_facts (map blank (out-Node node).children)) =
    o ∙ ap (facts_over (out-Node node).head) (k ∙ ap (map own_facts) all) in
    (λ j. roll-Memo record { former = None; facts = facts j; entries = e j; below = all j }) ∙ sym (blank_out node)

-- ---- it agrees with its tree

module _ (m : MetricsValue) where
  abbrev IsReady : Node → Type 0
  IsReady node = IsReadyFor m node (blank node) × (is_unmarked (blank node) ≡ true)

  ready_own : (node : Node) → IsReady node → own_facts (blank node) ≡ facts node
  ready_own node h = (h.0.agrees.at [] node (blank node) (refl, refl)).facts_are

  all_own : (nodes : List Node) → AllByRecursion IsReady nodes → map own_facts (map blank nodes) ≡ map facts nodes
  all_own [] h = refl
  all_own (node ∷ nodes) h = ap (λ (f : Facts). f ∷ map own_facts (map blank nodes)) (ready_own node h.0) ∙ ap (λ (l : List Facts). facts node ∷ l) (all_own nodes h.1)

  all_plain : (nodes : List Node) → AllByRecursion IsReady nodes → map stripped (map blank nodes) ≡ map blank nodes
  all_plain [] h = refl
  all_plain (node ∷ nodes) h = ap (λ (z : Memo). z ∷ map stripped (map blank nodes)) h.0.0.plain ∙ ap (λ (l : List Memo). blank node ∷ l) (all_plain nodes h.1)

  all_unmarked : (nodes : List Node) → AllByRecursion IsReady nodes → list_all (λ b. b) (map is_unmarked (map blank nodes)) ≡ true
  all_unmarked [] h = refl
  all_unmarked (node ∷ nodes) h = ap (λ (b : Bool). b && list_all (λ b. b) (map is_unmarked (map blank nodes))) h.0.1 ∙ all_unmarked nodes h.1

  each_agrees : (nodes : List Node) (i : ℕ) (child : Node) (kept : Memo) → AllByRecursion IsReady nodes → slice_get nodes i ≡ Some child
      → slice_get (map blank nodes) i ≡ Some kept → Agrees m child kept
  each_agrees [] i child kept h a b = absurd (none-some child a)
  each_agrees (node ∷ nodes) zero child kept h a b =
      subst (Agrees m child) (same_Some (blank node) kept b) (subst (λ (n : Node). Agrees m n (blank node)) (same_Some node child a) h.0.0.agrees)
  each_agrees (node ∷ nodes) (suc i) child kept h a b = each_agrees nodes i child kept h.1 a b

  ready_over : (node : Node) → AllByRecursion IsReady (out-Node node).children → IsReady node
  ready_over node h =
      let nodes : List Node = (out-Node node).children in
      let layer : Memo-F Memo = record { former = None; facts = facts_over (out-Node node).head (map own_facts (map blank nodes)); entries = []; below = map blank nodes } in
      let here : IsMemoOf m node layer = record {
        facts_are = ap (facts_over (out-Node node).head) (all_own nodes h) ∙ sym (facts_out node);
        as_many = length-map nodes blank;
        sound = λ entry has. absurd (none-some entry has.at);
        apart = tt;
        stays = λ child alike. absurd (none-some child alike);
      } in
      let agrees = agrees_made m node layer here (λ i child kept a b. each_agrees nodes i child kept h a b) in
      let plain : stripped (roll-Memo layer) ≡ roll-Memo layer =
      stripped_roll layer
      ∙ ap (λ (l : List Memo). roll-Memo record { former = None; facts = layer.facts; entries = []; below = l }) (all_plain nodes h) in
      let unmarked : is_unmarked (roll-Memo layer) ≡ true = fold-roll-Memo Bool unmarked_layer layer ∙ all_unmarked nodes h in
      subst (λ (z : Memo). IsReadyFor m node z × (is_unmarked z ≡ true)) (sym (blank_out node)) (record { agrees = agrees; plain = plain }, unmarked)

pub blank_law : BlankLaw
blank_law m = by_children (IsReady m) (ready_over m)
