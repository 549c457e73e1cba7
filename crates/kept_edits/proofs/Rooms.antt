-- A splice of memos fits where the change of the tree does, and so does what takes it back.
use Rattle.std.proofs.Common.{◌≡◌, ◌∙◌, sym, ap, subst, ℕ, ◌<◌, arith, List, [], ◌∷◌, get_or, length, set, Option, Some, slice_get}
use Rattle.std.proofs.lemmas.Option.{same_Some}
use Rattle.std.specs.Option.{option_and_then, option_map_or}
use Rattle.splices.proofs.Alike.{fits_alike}
use Rattle.splices.proofs.Splicing.{few_put_back, fits_back}
use Rattle.splices.specs.Splicing.{FitsIn, IsRoomy, inverse, site_of, spliced, taken}
use Rattle.splices.specs.declared.splice.Splice.{Splice}
use Rattle.font_metrics.specs.Metrics.{MetricsValue}
use Rattle.math_tree.specs.declared.node.Node.{Node}
use Rattle.tree_edits.proofs.Children.{fits_children}
use Rattle.tree_edits.specs.Paths.{Fits, FitsAt, children_of, splice_of}
use Rattle.tree_edits.specs.declared.change.Change.{Change}
use Rattle.kept_results.specs.Looking.{own_facts}
use Rattle.kept_results.specs.declared.memo.Memo.{Memo}
use Rattle.kept_results.specs.declared.memo.Memo.TheOpen.{Memo-F}
use Rattle.kept_results.specs.declared.memo.Memo.TheViews.{out-Memo, out-roll-Memo, roll-Memo}
use Rattle.kept_results.proofs.Lists.{set_here}
use Rattle.kept_edits.specs.Changed.{FitsMemo, changed_memo, renewed, seen_anew, taken_from, with_below}
use Rattle.kept_edits.specs.Laws.{IsReadyFor}
use Rattle.kept_edits.specs.declared.change.Renewal.{Renewal}
use Rattle.kept_edits.proofs.Changing.{child_on, marked, marked_is, paired}
use Rattle.kept_edits.specs.Rooms.{HasRoom}

-- ---- back again

pub back_fits : (path : List ℕ) (memo : Memo) (splice : Splice Memo) (known : List Renewal) (room : ℕ) → FitsMemo splice path memo → HasRoom room path memo
    → FitsMemo (inverse (site_of splice) (taken_from splice path memo) room) path (changed_memo splice known path memo)
back_fits [] memo splice known room fits roomy =
    let below : List Memo = (out-Memo memo).below in
    let own : Renewal = get_or known 0 (seen_anew (own_facts memo)) in
    let between : List Memo = spliced splice below in
    let back : Splice Memo = inverse (site_of splice) (taken splice below) room in
    let few = few_put_back splice below in
    let is : (out-Memo (changed_memo splice known [] memo)).below ≡ between =
    ap (λ (z : Memo). (out-Memo z).below) (marked_is memo own between) ∙ ap (λ (l : Memo-F Memo). l.below) (out-roll-Memo (marked memo own between)) in
    subst (FitsIn back) (sym is) (fits_back splice below room fits (omega (arith, few, roomy)))
back_fits (place ∷ path) memo splice known room fits roomy =
    let below : List Memo = (out-Memo memo).below in
    let kept : Memo = fits.0 in
    let at : slice_get below place ≡ Some kept = fits.1 in
    let own : Renewal = get_or known (length (place ∷ path)) (seen_anew (own_facts memo)) in
    let kept' : Memo = changed_memo splice known path kept in
    let between : List Memo = set below place kept' in
    let layer : Memo-F Memo = marked memo own between in
    let went : Option Memo = taken_from splice path kept in
    let back : Splice Memo = inverse (site_of splice) went room in
    let same : taken_from splice (place ∷ path) memo ≡ went = ap (option_and_then (taken_from splice path)) at in
    let made : changed_memo splice known (place ∷ path) memo ≡ roll-Memo layer =
    ap (λ (o : Option Memo). with_below (renewed own memo) (option_map_or (λ z. set below place (changed_memo splice known path z)) o below)) at ∙ marked_is memo own between in
    let one : kept ≡ roomy.0 = same_Some kept roomy.0 (sym at ∙ roomy.1) in
    let rest = back_fits path kept splice known room fits.2 (subst (HasRoom room path) (sym one) roomy.2) in
    let there : slice_get (out-Memo (changed_memo splice known (place ∷ path) memo)).below place ≡ Some kept' =
    ap (λ (z : Memo). slice_get (out-Memo z).below place) made ∙ ap (λ (l : Memo-F Memo). slice_get l.below place) (out-roll-Memo layer) ∙ set_here below place kept' kept at in
    subst (λ (o : Option Memo). FitsMemo (inverse (site_of splice) o room) (place ∷ path) (changed_memo splice known (place ∷ path) memo)) (sym same) (kept', there, rest)

-- ---- at the end of a way

module _ (m : MetricsValue) where
  pub fits_beside : (path : List ℕ) (node : Node) (memo : Memo) (change : Change) (other : Splice Memo) (room : ℕ) → IsReadyFor m node memo → FitsAt change path node
      → site_of other ≡ site_of (splice_of change) → HasRoom room path memo → ((n : ℕ) → n < room → IsRoomy n other) → FitsMemo other path memo
  fits_beside [] node memo change other room h fits site roomy enough =
      let below : List Memo = (out-Memo memo).below in
      let fits_here = subst (Fits change) (sym (same_Some node fits.element fits.at)) fits.fits in
      fits_alike (splice_of change) other (children_of node) below site (paired m node memo h).as_many (fits_children change node fits_here) (enough (length below) roomy)
  fits_beside (place ∷ path) node memo change other room h fits site roomy enough =
      let nodes : List Node = children_of node in
      let pairs = paired m node memo h in
      let c = child_on m change place path (slice_get nodes place) fits.element fits.at fits.fits in
      (roomy.0, roomy.1, fits_beside path c.0 roomy.0 change other room (pairs.each place c.0 roomy.0 c.1 roomy.1) c.2 site roomy.2 enough)
