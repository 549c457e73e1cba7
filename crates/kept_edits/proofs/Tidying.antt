-- Changed memos are tidy: only the elements on the way are marked, each names its child on the way or none, and nothing is fresh.
use Rattle.std.proofs.Common.{◌≡◌, ◌∙◌, inl, inr, refl, sym, ap, subst, ℕ, zero, suc, arith, true, List, [], ◌∷◌, get_or, length, set, Option, Some, slice_get}
use Rattle.std.proofs.lemmas.Option.{none-some, same_Some, slice_get_within}
use Rattle.std.specs.Option.{option_map_or}
use Rattle.font_metrics.specs.Metrics.{MetricsValue}
use Rattle.math_tree.specs.Trees.{node as node_of}
use Rattle.math_tree.specs.declared.node.Node.{Node}
use Rattle.math_tree.specs.declared.node.Node.TheOpen.{Node-F}
use Rattle.math_tree.specs.declared.node.Node.TheViews.{out-Node, out-roll-Node}
use Rattle.tree_edits.specs.Edits.{head_of}
use Rattle.tree_edits.specs.Paths.{FitsAt, children_of}
use Rattle.tree_edits.specs.declared.change.Change.{Change}
use Rattle.embellished.specs.declared.facts.Facts.{Facts}
use Rattle.splices.proofs.Origins.{each_spliced}
use Rattle.splices.proofs.Places.{some_at}
use Rattle.splices.specs.Splicing.{AllBrought, FitsIn, spliced}
use Rattle.splices.specs.declared.splice.Splice.{Splice}
use Rattle.kept_results.specs.Laws.{is_unmarked}
use Rattle.kept_results.specs.Looking.{own_facts}
use Rattle.kept_results.specs.Tidy.{AreTidy, IsTidy, is_calm}
use Rattle.kept_results.specs.declared.memo.Memo.{Memo}
use Rattle.kept_results.specs.declared.memo.Memo.TheViews.{out-Memo}
use Rattle.kept_results.proofs.Lists.{set_cases, set_here}
use Rattle.kept_results.proofs.Tidying.{IsClean, clean_below, clean_calm, clean_tidy, mark_calms, tidy_below, tidy_made, tidy_set}
use Rattle.kept_edits.specs.Blank.{blank}
use Rattle.kept_edits.specs.Changed.{FitsMemo, changed_memo, renewed, renewed_on, with_below, seen_anew}
use Rattle.kept_edits.specs.Laws.{IsReadyFor, KnownOn}
use Rattle.kept_edits.specs.declared.change.Renewal.{Renewal}
use Rattle.kept_edits.proofs.Changing.{after, child_on, marked, marked_is, paired}
use Rattle.kept_edits.proofs.Unlaid.{blank_law}

-- ---- the memos of an element's children

tidy_spliced : (splice : Splice Memo) (below : List Memo) → FitsIn splice below → AllBrought IsTidy splice → AreTidy below → AreTidy (spliced splice below)
tidy_spliced splice below fits put h = each_spliced IsTidy splice below fits put h

-- ---- on the way

-- of an element on the way, layout sees the same but for its child on the way, or nothing is known
abbrev pub NamesWay : List Renewal → List ℕ → Type 0
NamesWay known [] = (own : Renewal) (but : ℕ) → slice_get known 0 ≡ Some own → own.alike_but ≡ Some but → ⊥
NamesWay known (place ∷ path) =
    ((own : Renewal) (but : ℕ) → slice_get known (length (place ∷ path)) ≡ Some own → own.alike_but ≡ Some but → but ≡ place) × NamesWay known path

-- where nothing is known of an element, layout may see something else of it
own_alike : (known : List Renewal) (n : ℕ) (facts : Facts) (but : ℕ) → (get_or known n (seen_anew facts)).alike_but ≡ Some but
    → (own : Renewal) × (slice_get known n ≡ Some own) × (own.alike_but ≡ Some but)
own_alike [] n facts but h = absurd (none-some but h)
own_alike (own ∷ known) zero facts but h = (own, refl, h)
own_alike (own ∷ known) (suc n) facts but h = own_alike known n facts but h

tidy_marked : (memo : Memo) (own : Renewal) (below : List Memo)
    → ((but : ℕ) → own.alike_but ≡ Some but → (place : ℕ) (kept : Memo) → slice_get below place ≡ Some kept → (place ≡ but → ⊥) → is_calm (out-Memo kept) ≡ true)
    → AreTidy below → IsTidy (with_below (renewed own memo) below)
tidy_marked memo own below others h = subst IsTidy (sym (marked_is memo own below)) (tidy_made (marked memo own below) (mark_calms (marked memo own below) refl others) h)

-- what was clean is tidy after a change
pub changed_tidy : (splice : Splice Memo) (known : List Renewal) (path : List ℕ) (memo : Memo) → NamesWay known path → FitsMemo splice path memo → AllBrought IsTidy splice → IsClean memo
    → IsTidy (changed_memo splice known path memo)
changed_tidy splice known [] memo names fits put h =
    tidy_marked memo (get_or known 0 (seen_anew (own_facts memo))) (spliced splice (out-Memo memo).below)
    (λ but alike. let own = own_alike known 0 (own_facts memo) but alike in absurd (names own.0 but own.1 own.2))
    (tidy_spliced splice (out-Memo memo).below fits put (tidy_below memo (clean_tidy memo h.unmarked h.plain)))
changed_tidy splice known (place ∷ path) memo names fits put h =
    let below : List Memo = (out-Memo memo).below in
    let kept : Memo = fits.0 in
    let new : Memo = changed_memo splice known path kept in
    let there = changed_tidy splice known path kept names.1 fits.2 put (clean_below memo h place kept fits.1) in
    let is : changed_memo splice known (place ∷ path) memo ≡ with_below (renewed_on known (place ∷ path) memo) (set below place new) =
    ap (λ o. with_below (renewed_on known (place ∷ path) memo) (option_map_or (λ z. set below place (changed_memo splice known path z)) o below)) fits.1 in
    let others : (but : ℕ) → (get_or known (length (place ∷ path)) (seen_anew (own_facts memo))).alike_but ≡ Some but
    → (j : ℕ) (one : Memo) → slice_get (set below place new) j ≡ Some one → (j ≡ but → ⊥) → is_calm (out-Memo one) ≡ true =
    λ but alike j one at other.
    let own = own_alike known (length (place ∷ path)) (own_facts memo) but alike in
    elim (set_cases below place j new one at) [
      | inl p ↦ absurd (other (p.0 ∙ sym (names.0 own.0 but own.1 own.2)))
      | inr was ↦ clean_calm one (clean_below memo h j one was)
    ] in
    subst IsTidy (sym is)
    (tidy_marked memo (get_or known (length (place ∷ path)) (seen_anew (own_facts memo))) (set below place new) others
    (tidy_set below place new (tidy_below memo (clean_tidy memo h.unmarked h.plain)) there))

-- what is known of the elements on a way names it
pub names_way : (m : MetricsValue) (path : List ℕ) (node : Node) (memo : Memo) (change : Change) (known : List Renewal) → IsReadyFor m node memo → FitsAt change path node
    → KnownOn known path (after m change path node) memo → NamesWay known path
names_way m [] node memo change known h fits is = λ own but at alike. absurd (none-some but (ap (λ (o : Renewal). o.alike_but) (same_Some _ own (sym is ∙ at)) ∙ alike))
names_way m (place ∷ path) node memo change known h fits is =
    let nodes : List Node = children_of node in
    let pairs = paired m node memo h in
    let c = child_on m change place path (slice_get nodes place) fits.element fits.at fits.fits in
    let child : Node = c.0 in
    let l = pairs.as_many in
    let k = some_at (out-Memo memo).below place (omega (arith, l, slice_get_within nodes place child c.1)) in
    let kept : Memo = k.0 in
    let new : Node = after m change path child in
    let made : Node = node_of (head_of node) (set nodes place new) in
    let node_is : after m change (place ∷ path) node ≡ made =
    ap (λ (o : Option Node). option_map_or (λ z. node_of (head_of node) (set nodes place (after m change path z))) o node) c.1 in
    let known_made = subst (λ (n : Node). KnownOn known (place ∷ path) n memo) node_is is in
    let there : slice_get (out-Node made).children place ≡ Some new =
    ap (λ (z : Node-F Node). slice_get z.children place) (out-roll-Node record { head = head_of node; children = set nodes place new }) ∙ set_here nodes place new child c.1 in (
      (λ own but at alike. (known_made.3 but (ap (λ (o : Renewal). o.alike_but) (same_Some known_made.0 own (sym known_made.1 ∙ at)) ∙ alike)).on_the_way),
      names_way m path child kept change known (pairs.each place child kept c.1 k.1) c.2 (known_made.4 new kept there k.1),
    )

-- before an edit a memo has no marks, and nothing of it is fresh
pub changed_is_tidy : (m : MetricsValue) (node : Node) (change : Change) (other : Splice Memo) (known : List Renewal) (path : List ℕ) (memo : Memo) → is_unmarked memo ≡ true
    → IsReadyFor m node memo → FitsAt change path node → KnownOn known path (after m change path node) memo → FitsMemo other path memo → AllBrought IsTidy other
    → IsTidy (changed_memo other known path memo)
changed_is_tidy m node change other known path memo unmarked ready at is fits put =
    changed_tidy other known path memo (names_way m path node memo change known ready at is) fits put record { unmarked = unmarked; plain = ready.plain }

-- what an edit puts in was never laid out
pub blank_tidy : (m : MetricsValue) (node : Node) → IsTidy (blank node)
blank_tidy m node = let h = blank_law m node in clean_tidy (blank node) h.1 h.0.plain
