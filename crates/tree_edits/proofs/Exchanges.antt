-- Elements of which one changes, some go and others come in their place, where all before, between
-- and behind these stay.
use Rattle.std.proofs.Common.{◌≡◌, ◌∙◌, sym, ap, refl, subst, ℕ, suc, ◌+◌, List, [], ◌∷◌, ◌++◌, length, take, drop, slice_get, Bool, true, false, ◌||◌, nat_lt, Some, arith}
use Rattle.std.proofs.lemmas.Bool.{or_parts, or_from}
use Rattle.std.proofs.lemmas.List.{append_assoc, length-append, take-append-drop}
use Rattle.std.proofs.lemmas.List.Concat.{flat_map-append}
use Rattle.std.proofs.lemmas.List.Folds.{list_any-append}
use Rattle.std.proofs.lemmas.List.Sums.{sum_by-append, sum_by-cons}
use Rattle.std.specs.List.{AllByRecursion, flat_map, insert, remove}
use Rattle.math_tree.proofs.Nodes.{all_parts, listed_element}
use Rattle.math_tree.specs.Forms.{most_levels}
use Rattle.math_tree.specs.Trees.{Listed, node, listed, bytes_of_head}
use Rattle.math_tree.specs.declared.node.Head.{Head}
use Rattle.math_tree.specs.declared.node.Node.{Node}
use Rattle.tree_edits.proofs.Frames.{entry, listed_out, flat_set, put_back, framed, before_change}
use Rattle.tree_edits.proofs.Levels.{bytes_in}
use Rattle.tree_edits.specs.Edits.{is_deep}
use Rattle.tree_edits.specs.Paths.{children_of, node_at, changed_at}
use Rattle.tree_edits.specs.Reasons.{shown}

pub record Exchanged (before after : List Listed) (own made : Listed) (gone new : List Listed) : Type 0 where
  pub front : List Listed
  pub middle : List Listed
  pub back : List Listed
  pub was : before ≡ (front ++ (own ∷ middle)) ++ (gone ++ back)
  pub is : after ≡ (front ++ (made ∷ middle)) ++ (new ++ back)

-- ---- an element that is changed at the end of a way

regroup : (front : List Listed) (e : Listed) (middle own rest back : List Listed)
    → front ++ ((e ∷ (middle ++ (own ++ rest))) ++ back) ≡ (front ++ (e ∷ middle)) ++ (own ++ (rest ++ back))
regroup front e middle own rest back =
    ap (λ l. front ++ (e ∷ l)) (append_assoc middle (own ++ rest) back ∙ ap (λ l. middle ++ l) (append_assoc own rest back))
    ∙ sym (append_assoc front (e ∷ middle) (own ++ (rest ++ back)))

-- its children are those that stay, round those that go or come
pub exchanged_at : (root : Node) (path : List ℕ) (element : Node) (change : Node → Node) (head : Head) (nodes : List Node)
    (middle gone new rest : List Listed) → node_at path root ≡ Some element → change element ≡ node head nodes
    → flat_map (listed (1 + length path + 1)) (children_of element) ≡ middle ++ (gone ++ rest)
    → flat_map (listed (1 + length path + 1)) nodes ≡ middle ++ (new ++ rest)
    → Exchanged (listed 1 root) (listed 1 (changed_at change path root)) (shown (1 + length path) element) (entry (1 + length path) head (length nodes)) gone new
exchanged_at root path element change head nodes middle gone new rest at changes were are =
    let level = 1 + length path in
    let own = shown level element in
    let made = entry level head (length nodes) in
    let frame = framed 1 path root element at in
    record {
      front = frame.front;
      middle = middle;
      back = rest ++ frame.back;
      was =
          before_change 1 path root element at frame
          ∙ ap (λ l. frame.front ++ (l ++ frame.back)) (listed_element level element ∙ ap (◌∷◌ own) were)
          ∙ regroup frame.front own middle gone rest frame.back;
      is =
          frame.after change
          ∙ ap (λ l. frame.front ++ (l ++ frame.back)) (ap (listed level) changes ∙ listed_out level head nodes ∙ ap (◌∷◌ made) are)
          ∙ regroup frame.front made middle new rest frame.back;
    }

-- ---- the elements in the children

module _ (list : Node → List Listed) (nodes : List Node) (place : ℕ) where
  abbrev pub ahead : List Listed
  ahead = flat_map list (take place nodes)

  abbrev pub behind : List Listed
  behind = flat_map list (drop place nodes)

  abbrev pub beyond : List Listed
  beyond = flat_map list (drop (suc place) nodes)

  pub parted : flat_map list nodes ≡ ahead ++ behind
  parted = ap (flat_map list) (sym (take-append-drop place nodes)) ∙ flat_map-append list (take place nodes) (drop place nodes)

  pub inserted : (child : Node) → flat_map list (insert nodes place child) ≡ ahead ++ (list child ++ behind)
  inserted child = flat_map-append list (take place nodes) (child ∷ drop place nodes)

  pub removed : flat_map list (remove nodes place) ≡ ahead ++ beyond
  removed = flat_map-append list (take place nodes) (drop (suc place) nodes)

  pub standing : (child : Node) → slice_get nodes place ≡ Some child → flat_map list nodes ≡ ahead ++ (list child ++ beyond)
  standing child at = ap (flat_map list) (sym (put_back nodes place child at)) ∙ flat_set list nodes place child child at

-- ---- how many they are, and their bytes

module _ {before after : List Listed} {own made : Listed} {gone new : List Listed} (exchange : Exchanged before after own made gone new) where
  pub count_exchanged : length after + length gone ≡ length before + length new
  count_exchanged =
      let front = exchange.front in
      let middle = exchange.middle in
      let back = exchange.back in
      let was = ap length exchange.was ∙ length-append (front ++ (own ∷ middle)) (gone ++ back) in
      let is = ap length exchange.is ∙ length-append (front ++ (made ∷ middle)) (new ++ back) in
      omega (arith, was, is, length-append front (own ∷ middle), length-append front (made ∷ middle), length-append gone back, length-append new back)

  pub bytes_exchanged : bytes_in after + (bytes_of_head own.head + bytes_in gone) ≡ bytes_in before + (bytes_of_head made.head + bytes_in new)
  bytes_exchanged =
      let front = exchange.front in
      let middle = exchange.middle in
      let back = exchange.back in
      let held : Listed → ℕ = λ e. bytes_of_head e.head in
      let was = ap bytes_in exchange.was ∙ sum_by-append held (front ++ (own ∷ middle)) (gone ++ back) in
      let is = ap bytes_in exchange.is ∙ sum_by-append held (front ++ (made ∷ middle)) (new ++ back) in
      omega (arith, was, is, sum_by-append held front (own ∷ middle), sum_by-append held front (made ∷ middle), sum_by-append held gone back, sum_by-append held new back, sum_by-cons held own middle, sum_by-cons held made middle)

-- ---- what holds of all of them

pub all_join : {X : Type 0} (P : X → Type 0) (xs ys : List X) → AllByRecursion P xs → AllByRecursion P ys → AllByRecursion P (xs ++ ys)
all_join P [] ys h more = more
all_join P (x ∷ xs) ys h more = (h.0, all_join P xs ys h.1 more)

module _ {before after : List Listed} {own made : Listed} {gone new : List Listed} (exchange : Exchanged before after own made gone new) where
  pub own_of_all : (P : Listed → Type 0) → AllByRecursion P before → P own
  own_of_all P h =
      let front = exchange.front in
      let both = all_parts P (front ++ (own ∷ exchange.middle)) (gone ++ exchange.back) (subst (AllByRecursion P) exchange.was h) in
      (all_parts P front (own ∷ exchange.middle) both.0).1.0

  pub gone_of_all : (P : Listed → Type 0) → AllByRecursion P before → AllByRecursion P gone
  gone_of_all P h =
      let both = all_parts P (exchange.front ++ (own ∷ exchange.middle)) (gone ++ exchange.back) (subst (AllByRecursion P) exchange.was h) in
      (all_parts P gone exchange.back both.1).0

  pub all_exchanged : (P : Listed → Type 0) → AllByRecursion P before → P made → AllByRecursion P new → AllByRecursion P after
  all_exchanged P h here more =
      let front = exchange.front in
      let middle = exchange.middle in
      let back = exchange.back in
      let both = all_parts P (front ++ (own ∷ middle)) (gone ++ back) (subst (AllByRecursion P) exchange.was h) in
      let first = all_parts P front (own ∷ middle) both.0 in
      let last = all_parts P gone back both.1 in
      subst (AllByRecursion P) (sym exchange.is)
      (all_join P (front ++ (made ∷ middle)) (new ++ back)
      (all_join P front (made ∷ middle) first.0 (here, first.1.1))
      (all_join P new back more last.1))

-- ---- levels

or_none : (a b : Bool) → b ≡ false → (a || b) ≡ a
or_none true b h = refl
or_none false b h = h

-- where none was too deep, those that come alone can be
pub deep_exchanged : {before after : List Listed} {own made : Listed} {gone new : List Listed} → Exchanged before after own made gone new
    → own.level ≡ made.level → is_deep before ≡ false → is_deep after ≡ is_deep new
deep_exchanged {before} {after} {own} {made} {gone} {new} exchange level shallow =
    let deep : Listed → Bool = λ e. nat_lt most_levels e.level in
    let front = exchange.front in
    let middle = exchange.middle in
    let back = exchange.back in
    let both = or_parts (is_deep (front ++ (own ∷ middle))) (is_deep (gone ++ back))
    (sym (list_any-append deep (front ++ (own ∷ middle)) (gone ++ back)) ∙ sym (ap is_deep exchange.was) ∙ shallow) in
    let first = or_parts (is_deep front) (is_deep (own ∷ middle)) (sym (list_any-append deep front (own ∷ middle)) ∙ both.0) in
    let last = or_parts (is_deep gone) (is_deep back) (sym (list_any-append deep gone back) ∙ both.1) in
    let here = or_parts (deep own) (is_deep middle) first.1 in
    let still : deep made ≡ false = ap (nat_lt most_levels) (sym level) ∙ here.0 in
    let stay : is_deep (front ++ (made ∷ middle)) ≡ false =
    list_any-append deep front (made ∷ middle)
    ∙ or_from (is_deep front) (is_deep (made ∷ middle)) first.0 (or_from (deep made) (is_deep middle) still here.1) in
    ap is_deep exchange.is
    ∙ list_any-append deep (front ++ (made ∷ middle)) (new ++ back)
    ∙ ap (λ b. b || is_deep (new ++ back)) stay
    ∙ list_any-append deep new back
    ∙ or_none (is_deep new) (is_deep back) last.1
