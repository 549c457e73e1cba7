-- The splice of memos that an edit of their tree is.
use Rattle.std.proofs.Common.{◌≡◌, ◌∙◌, refl, sym, ap, subst, ℕ, ◌+◌, ◌<◌, arith, List, [], ◌∷◌, length, Option, Some, None, slice_get}
use Rattle.std.proofs.lemmas.Option.{none-some, same_Some, slice_get_within}
use Rattle.std.specs.Option.{option_and_then}
use Rattle.splices.proofs.Origins.{brought_there}
use Rattle.splices.proofs.Places.{some_at}
use Rattle.splices.proofs.Splicing.{one_less}
use Rattle.splices.specs.Splicing.{Brings, IsAlike, site_of}
use Rattle.splices.specs.declared.site.Site.{Site}
use Rattle.splices.specs.declared.site.Site.TheVariants.{Stay, Put, Take, Swap}
use Rattle.splices.specs.declared.splice.Splice.{Splice}
use Rattle.splices.specs.declared.splice.Splice.TheVariants.{Stay as Stays, Put as Puts, Take as Takes, Swap as Swaps}
use Rattle.font_metrics.specs.Metrics.{MetricsValue}
use Rattle.math_tree.specs.declared.node.Node.{Node}
use Rattle.tree_edits.proofs.Children.{children_changed, fits_children}
use Rattle.tree_edits.proofs.Inverse.{changed_there}
use Rattle.tree_edits.specs.Paths.{Fits, changed, children_of, node_at, splice_of}
use Rattle.tree_edits.specs.declared.change.Change.{Change}
use Rattle.kept_results.specs.declared.memo.Memo.{Memo}
use Rattle.kept_results.specs.declared.memo.Memo.TheViews.{out-Memo}
use Rattle.kept_edits.specs.Blank.{blank}
use Rattle.kept_edits.specs.Changed.{FitsMemo}
use Rattle.kept_edits.specs.Known.{IsBeside}
use Rattle.kept_edits.specs.Laws.{IsReadyFor, IsSame}
use Rattle.kept_edits.proofs.Changing.{paired}
use Rattle.kept_edits.proofs.OnTheWay.{beside_law}
use Rattle.kept_edits.proofs.Unlaid.{blank_law}
use Rattle.kept_edits.specs.Followed.{HasPlace, IsBefore, IsOfWay}
use Rattle.kept_edits.specs.Rooms.{HasRoom}
use Rattle.kept_edits.specs.declared.way.Way.{Way}
use Rattle.kept_edits.proofs.Rooms.{fits_beside}

-- ---- the element that was changed

-- there is a child at the place where one was put
has_place_for : (change : Change) (site : Site) (e element : Node) → site ≡ site_of (splice_of change) → Fits change e → element ≡ changed change e → HasPlace site element
has_place_for change site e element is fits made =
    subst (λ (s : Site). HasPlace s element) (sym is) (by (splice_of change) (λ place child b.
    slice_get_within (children_of element) place child
    (ap (λ (n : Node). slice_get (children_of n) place) made ∙ ap (λ (l : List Node). slice_get l place) (children_changed change e)
    ∙ brought_there (splice_of change) (children_of e) place child (fits_children change e fits) b)))
  where
    by : (splice : Splice Node) → ((place : ℕ) (child : Node) → Brings splice place child → place < length (children_of element)) → HasPlace (site_of splice) element
    by Stays each = tt
    by (Puts index child room) each = each index child (refl, refl)
    by (Takes index) each = tt
    by (Swaps index child) each = each index child (refl, refl)

-- ---- at the end of the way

step : (path : List ℕ) (found : Option Node) (t : Node) → option_and_then (node_at path) found ≡ Some t → (child : Node) × (found ≡ Some child) × (node_at path child ≡ Some t)
step path None t at = absurd (none-some t at)
step path (Some child) t at = (child, refl, at)

roomy_at : (m : MetricsValue) (path : List ℕ) (root : Node) (memo : Memo) (element : Node) (room : ℕ) → IsReadyFor m root memo → node_at path root ≡ Some element
    → length (children_of element) < room → HasRoom room path memo
roomy_at m [] root memo element room h at w =
    let l = (paired m root memo h).as_many in
    let same = ap (λ (n : Node). length (children_of n)) (same_Some root element at) in
    omega (arith, l, same, w)
roomy_at m (place ∷ path) root memo element room h at w =
    let pairs = paired m root memo h in
    let c = step path (slice_get (children_of root) place) element at in
    let l = pairs.as_many in
    let k = some_at (out-Memo memo).below place (omega (arith, l, slice_get_within (children_of root) place c.0 c.1)) in
    (k.0, k.1, roomy_at m path c.0 k.0 element room (pairs.each place c.0 k.0 c.1 k.1) c.2 w)

module _ (root : Node) (memo : Memo) (way : Way) (before : IsBefore root memo way) where
  -- the way leads to the changed element
  pub leads : node_at way.path root ≡ Some (changed before.change before.fits.element)
  leads = ap (node_at way.path) before.gives ∙ changed_there (changed before.change) way.path before.old before.fits.element before.fits.at

  is_changed : (element : Node) → node_at way.path root ≡ Some element → element ≡ changed before.change before.fits.element
  is_changed element at = same_Some element (changed before.change before.fits.element) (sym at ∙ leads)

  pub has_place : (element : Node) → node_at way.path root ≡ Some element → HasPlace way.site element
  has_place element at = has_place_for before.change way.site before.fits.element element before.site_is before.fits.fits (is_changed element at)

  pub has_room : (element : Node) → node_at way.path root ≡ Some element → HasRoom (length (children_of element) + 2) way.path memo
  has_room element at =
      let old : Node = before.fits.element in
      let is = ap (λ (n : Node). length (children_of n)) (is_changed element at) ∙ ap length (children_changed before.change old) in
      let g = one_less (splice_of before.change) (children_of old) (fits_children before.change old before.fits.fits) in
      roomy_at before.metrics way.path before.old memo old (length (children_of element) + 2) before.ready before.fits.at (omega (arith, is, g))

  one_site_there : (other : Splice Memo) → IsOfWay root way other → site_of other ≡ site_of (splice_of before.change)
  one_site_there other h = h.is.site_is ∙ before.site_is

  -- of what was put in nothing is kept
  pub blank_alike : (other : Splice Memo) → IsOfWay root way other → IsAlike (λ child new. new ≡ blank child) (splice_of before.change) other
  blank_alike other h = record {
    one_site = one_site_there other h;
    related = λ place child new b made.
        let was = h.is.blank place new made in
        let there : slice_get (children_of h.element) place ≡ Some child =
        ap (λ (n : Node). slice_get (children_of n) place) (is_changed h.element h.at)
        ∙ ap (λ (l : List Node). slice_get l place) (children_changed before.change before.fits.element)
        ∙ brought_there (splice_of before.change) (children_of before.fits.element) place child (fits_children before.change before.fits.element before.fits.fits) b in
        was.is ∙ ap blank (same_Some was.child child (sym was.at ∙ there));
  }

  pub same_change : (other : Splice Memo) → IsAlike (λ child new. new ≡ blank child) (splice_of before.change) other → IsSame before.metrics before.change other
  same_change other h = record {
    one_site = h.one_site;
    related = λ place child new a b.
        subst (λ (z : Memo). IsReadyFor before.metrics child z) (sym (h.related place child new a b)) (blank_law before.metrics child).0;
  }

  pub fits_change : (other : Splice Memo) → IsOfWay root way other → FitsMemo other way.path memo
  fits_change other h =
      fits_beside before.metrics way.path before.old memo before.change other (length (children_of h.element) + 2) before.ready before.fits (one_site_there other h)
      (has_room h.element h.at) h.is.roomy

  -- what is known on the way is known of memos that aren't changed yet
  pub is_beside : (other : Splice Memo) → IsOfWay root way other → IsBeside other way.path root memo
  is_beside other h =
      subst (λ (n : Node). IsBeside other way.path n memo) (sym before.gives)
      (beside_law before.metrics before.old memo before.change other way.path before.ready before.fits (same_change other (blank_alike other h)))
