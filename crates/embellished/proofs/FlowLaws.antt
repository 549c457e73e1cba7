-- What holds of the children in flow.
use Rattle.std.proofs.Common.{◌≡◌, ◌∙◌, refl, sym, ap, subst, ℕ, suc, ◌+◌, ◌<◌, Bool, true, false, true≢false, cond, ◌&&◌, not, List, [], ◌∷◌, length, map, filter, take, All, arith}
use Rattle.std.proofs.lemmas.Bool.{and_parts}
use Rattle.std.proofs.lemmas.List.Elements.{All-nil, All-cons}
use Rattle.std.proofs.lemmas.List.Kept.{AllPairs-cons, AllPairs-filter}
use Rattle.std.specs.List.{AllPairs, list_all}
use Rattle.math_tree.specs.declared.kind.Kind.{Kind}
use Rattle.math_tree.specs.declared.kind.Kind.TheVariants.{Mmultiscripts, Mtable, Mtd, Mtr}
use Rattle.math_tree.specs.declared.node.Head.{Head}
use Rattle.math_tree.specs.declared.node.Node.{Node}
use Rattle.math_tree.specs.declared.node.Node.TheViews.{out-Node}
use Rattle.embellished.specs.Facts.{facts}
use Rattle.embellished.specs.Flow.{flow_by, may_show, shown_by}
use Rattle.embellished.specs.Kinds.{is_annotation, is_cell, is_multiscripts, is_prescripts_mark, is_table_row, shows_its_first, shows_none}
use Rattle.embellished.specs.Laws.{HasScripts, IsFlow, IsTabular}
use Rattle.embellished.specs.Seen.{Child, Kid, Seen, children_from, flow_children, kid_of, laid_child, laid_kid, prescripts_in, seen_of}
use Rattle.embellished.specs.Validity.{is_valid, laid_as}
use Rattle.embellished.specs.declared.facts.Facts.{Facts}
use Rattle.embellished.proofs.ElementLaws.{but_annotations, laid_is_valid, laid_of}
use Rattle.embellished.proofs.InFlow.{flow_pass, kids_are_nodes}
use Rattle.embellished.proofs.Scripts.{based, unmarked}

-- ---- none is an annotation

not_true : (b : Bool) → not b ≡ true → b ≡ false
not_true true e = absurd (true≢false (sym e))
not_true false e = refl

plain_kid : (laid : Kind) (kid : Kid) → may_show laid (laid_kid kid) ≡ true → is_annotation (laid_kid kid) ≡ false
plain_kid laid kid e =
    not_true (is_annotation (laid_kid kid)) (and_parts (not (is_annotation (laid_kid kid))) (not (is_multiscripts laid && is_prescripts_mark (laid_kid kid))) e).0

plain : (node : Node) → All (λ kid. is_annotation (laid_kid kid) ≡ false) (seen_of node).kids
unfolding seen_of
plain node =
    flow_pass laid_kid (facts node).laid (λ kid. is_annotation (laid_kid kid) ≡ false) (plain_kid (facts node).laid) (map kid_of (out-Node node).children)

-- ---- they are in the order of their places

nothing : {A : Type 0} (R : A → A → Type 0) → AllPairs R []
nothing R i j d order within = absurd (omega (arith, within))

abbrev Before : Child → Child → Type 0
Before a b = a.place < b.place

behind : (place : ℕ) (first : Child) (nodes : List Node) → first.place < place → All (Before first) (children_from place nodes)
behind place first [] h = All-nil (Before first)
behind place first (node ∷ nodes) h =
    All-cons (Before first) (record { place = place; node = node }) (children_from (place + 1) nodes) h (behind (place + 1) first nodes (omega (arith, h)))

ordered : (place : ℕ) (nodes : List Node) → AllPairs Before (children_from place nodes)
ordered place [] = nothing Before
ordered place (node ∷ nodes) =
    AllPairs-cons Before (record { place = place; node = node }) (children_from (place + 1) nodes)
    (behind (place + 1) (record { place = place; node = node }) nodes (omega arith)) (ordered (place + 1) nodes)

one_alone : {A : Type 0} (R : A → A → Type 0) (xs : List A) → AllPairs R (take 1 xs)
one_alone R [] = nothing R
one_alone R (x ∷ xs) = AllPairs-cons R x [] (All-nil (R x)) (nothing R)

chosen_pairs : {A : Type 0} (R : A → A → Type 0) (none first : Bool) (xs ys : List A) → AllPairs R xs → AllPairs R ys
    → AllPairs R (cond none [] (cond first xs ys))
chosen_pairs R true first xs ys h k = nothing R
chosen_pairs R false true xs ys h k = h
chosen_pairs R false false xs ys h k = k

in_order : (node : Node) → AllPairs Before (flow_children node)
unfolding flow_children flow_by
in_order node =
    let laid = (facts node).laid in
    let shows : Child → Bool = λ child. may_show laid (laid_child child) in
    let children = children_from 0 (out-Node node).children in
    chosen_pairs Before (shows_none laid) (shows_its_first laid) (shown_by laid_child laid (take 1 children)) (shown_by laid_child laid children)
    (AllPairs-filter Before shows (take 1 children) (one_alone Before children))
    (AllPairs-filter Before shows children (ordered 0 (out-Node node).children))

pub is_flow : (node : Node) → IsFlow node
is_flow node = record { plain = plain node; nodes = kids_are_nodes node; in_order = in_order node }

-- ---- rows and cells

row_of : (kind : Kind) → is_table_row kind ≡ true → kind ≡ Mtr
row_of Mtr e = refl
row_of other e = absurd (true≢false (sym e))

cell_of : (kind : Kind) → is_cell kind ≡ true → kind ≡ Mtd
cell_of Mtd e = refl
cell_of other e = absurd (true≢false (sym e))

-- what passes among the kinds that aren't annotations passes among the children that aren't
module _ (test : Kind → Bool) (kind : Kind) (one : (k : Kind) → test k ≡ true → k ≡ kind) where
  abbrev IsOne : Kid → Type 0
  IsOne kid = laid_kid kid ≡ kind

  one_more : (annotation : Bool) (kid : Kid) (kids : List Kid) (kinds : List Kind)
      → (list_all test kinds ≡ true → All IsOne kids)
      → list_all test (cond (not annotation) (laid_kid kid ∷ kinds) kinds) ≡ true
      → All IsOne (cond (not annotation && true) (kid ∷ kids) kids)
  one_more true kid kids kinds rest e = rest e
  one_more false kid kids kinds rest e =
      let parts = and_parts (test (laid_kid kid)) (list_all test kinds) e in
      All-cons IsOne kid kids (one (laid_kid kid) parts.0) (rest parts.1)

  all_one : (kids : List Kid) → list_all test (but_annotations (map laid_kid kids)) ≡ true
      → All IsOne (filter (λ kid. not (is_annotation (laid_kid kid)) && true) kids)
  all_one [] e = All-nil IsOne
  all_one (kid ∷ kids) e =
      one_more (is_annotation (laid_kid kid)) kid (filter (λ kid. not (is_annotation (laid_kid kid)) && true) kids) (but_annotations (map laid_kid kids))
      (all_one kids) e

module _ (kind : Kind) (kids : List Kid) where
  rows_by : (laid : Kind) → laid_as kind (map laid_kid kids) ≡ laid → laid ≡ Mtable → All (λ kid. laid_kid kid ≡ Mtr) (flow_by laid_kid laid kids)
  unfolding flow_by is_valid
  rows_by laid e is = subst (λ l. All (λ kid. laid_kid kid ≡ Mtr) (flow_by laid_kid l kids)) (sym is)
      (all_one is_table_row Mtr row_of kids (laid_is_valid kind Mtable (map laid_kid kids) (e ∙ is) refl))

  cells_by : (laid : Kind) → laid_as kind (map laid_kid kids) ≡ laid → laid ≡ Mtr → All (λ kid. laid_kid kid ≡ Mtd) (flow_by laid_kid laid kids)
  unfolding flow_by is_valid
  cells_by laid e is = subst (λ l. All (λ kid. laid_kid kid ≡ Mtd) (flow_by laid_kid l kids)) (sym is)
      (all_one is_cell Mtd cell_of kids (laid_is_valid kind Mtr (map laid_kid kids) (e ∙ is) refl))

pub tabular : (node : Node) → IsTabular (seen_of node)
unfolding seen_of
tabular node =
    let element = out-Node node in
    let kids = map kid_of element.children in record {
      rows = rows_by element.head.kind kids (facts node).laid (laid_of node);
      cells = cells_by element.head.kind kids (facts node).laid (laid_of node);
    }

-- ---- scripts

-- in flow are those that are neither annotations nor marks
script_here : (annotation mark : Bool) (kid : Kid) (kids : List Kid) (kind : Kind) (kinds : List Kind)
    → length kids ≡ length (unmarked kinds) → is_prescripts_mark kind ≡ mark
    → length (cond (not annotation && not (true && mark)) (kid ∷ kids) kids) ≡ length (unmarked (cond (not annotation) (kind ∷ kinds) kinds))
script_here true mark kid kids kind kinds e m = e
script_here false true kid kids kind kinds e m = e ∙ ap (λ b. length (cond (not b) (kind ∷ unmarked kinds) (unmarked kinds))) (sym m)
script_here false false kid kids kind kinds e m = ap suc e ∙ ap (λ b. length (cond (not b) (kind ∷ unmarked kinds) (unmarked kinds))) (sym m)

as_many : (kids : List Kid)
    → length (filter (λ kid. not (is_annotation (laid_kid kid)) && not (true && is_prescripts_mark (laid_kid kid))) kids)
    ≡ length (unmarked (but_annotations (map laid_kid kids)))
as_many [] = refl
as_many (kid ∷ kids) =
    script_here (is_annotation (laid_kid kid)) (is_prescripts_mark (laid_kid kid)) kid
    (filter (λ kid. not (is_annotation (laid_kid kid)) && not (true && is_prescripts_mark (laid_kid kid))) kids)
    (laid_kid kid) (but_annotations (map laid_kid kids)) (as_many kids) refl

module _ (head : Head) (own : Facts) (kids : List Kid) (e : laid_as head.kind (map laid_kid kids) ≡ own.laid) (is : own.laid ≡ Mmultiscripts) where
  abbrev seen : Kind → Seen
  seen laid = record {
    head = head;
    facts = own;
    kids = flow_by laid_kid laid kids;
    prescripts = prescripts_in laid (map laid_kid kids) (length (flow_by laid_kid laid kids));
  }

  scripts_by : HasScripts (seen own.laid)
  unfolding flow_by is_valid
  scripts_by = subst (λ l. HasScripts (seen l)) (sym is)
      (let base = based (but_annotations (map laid_kid kids)) (laid_is_valid head.kind Mmultiscripts (map laid_kid kids) (e ∙ is) refl) in record {
        pairs = base.pairs;
        pairs_before = base.behind;
        up_to_mark = base.place;
        in_all = as_many kids ∙ base.count;
      })

pub scripts : (node : Node) → (facts node).laid ≡ Mmultiscripts → HasScripts (seen_of node)
unfolding seen_of
scripts node is = scripts_by (out-Node node).head (facts node) (map kid_of (out-Node node).children) (laid_of node) is
