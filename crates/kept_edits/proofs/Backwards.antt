-- A change that is taken back leaves no trace.
use Rattle.std.proofs.Common.{◌≡◌, ◌∙◌, refl, sym, ap, ℕ, zero, suc, Bool, true, true≢false, not, ◌&&◌, List, [], ◌∷◌, get_or, is_some, length, map, remove, set, Option, Some, None, slice_get}
use Rattle.std.proofs.lemmas.Bool.{and_parts}
use Rattle.std.proofs.lemmas.Option.{none-some, same_Some}
use Rattle.std.specs.List.{list_all}
use Rattle.std.specs.Option.{option_and_then, option_map_or}
use Rattle.splices.proofs.Places.{set_back}
use Rattle.splices.proofs.Splicing.{led_back}
use Rattle.splices.specs.Splicing.{inverse, site_of, spliced, taken}
use Rattle.splices.specs.declared.splice.Splice.{Splice}
use Rattle.kept_results.specs.declared.memo.Former.{Former}
use Rattle.kept_results.specs.Laws.{is_unmarked, unmarked_layer}
use Rattle.kept_results.specs.Looking.{own_facts}
use Rattle.kept_results.specs.declared.memo.Memo.{Memo}
use Rattle.kept_results.specs.declared.memo.Memo.TheFolds.{fold_out-Memo}
use Rattle.kept_results.specs.declared.memo.Memo.TheOpen.{Memo-F}
use Rattle.kept_results.specs.declared.memo.Memo.TheViews.{out-Memo, out-roll-Memo, roll-Memo, roll-out-Memo}
use Rattle.kept_results.proofs.Lists.{set_here}
use Rattle.kept_edits.specs.Changed.{FitsMemo, changed_memo, renewed, seen_anew, taken_from, undone_memo, with_below, without_mark}
use Rattle.kept_edits.specs.Laws.{BackLaw}
use Rattle.kept_edits.specs.declared.change.Renewal.{Renewal}
use Rattle.kept_edits.proofs.Changing.{marked, marked_is}

-- ---- no marks

pub unmarked_out : (memo : Memo) → is_unmarked memo ≡ (not (is_some (out-Memo memo).former) && list_all (λ b. b) (map is_unmarked (out-Memo memo).below))
unmarked_out = fold_out-Memo Bool unmarked_layer

none_there : (found : Option Former) → not (is_some found) ≡ true → found ≡ None
none_there None h = refl
none_there (Some was) h = absurd (true≢false (sym h))

pub former_none : (memo : Memo) → is_unmarked memo ≡ true → (out-Memo memo).former ≡ None
former_none memo h =
    none_there (out-Memo memo).former
    (and_parts (not (is_some (out-Memo memo).former)) (list_all (λ b. b) (map is_unmarked (out-Memo memo).below)) (sym (unmarked_out memo) ∙ h)).0

each_unmarked : (memos : List Memo) (i : ℕ) (kept : Memo) → slice_get memos i ≡ Some kept → list_all (λ b. b) (map is_unmarked memos) ≡ true → is_unmarked kept ≡ true
each_unmarked [] i kept at h = absurd (none-some kept at)
each_unmarked (x ∷ memos) zero kept at h = ap is_unmarked (sym (same_Some x kept at)) ∙ (and_parts (is_unmarked x) (list_all (λ b. b) (map is_unmarked memos)) h).0
each_unmarked (x ∷ memos) (suc i) kept at h = each_unmarked memos i kept at (and_parts (is_unmarked x) (list_all (λ b. b) (map is_unmarked memos)) h).1

pub below_unmarked : (memo : Memo) (i : ℕ) (kept : Memo) → is_unmarked memo ≡ true → slice_get (out-Memo memo).below i ≡ Some kept → is_unmarked kept ≡ true
below_unmarked memo i kept h at =
    each_unmarked (out-Memo memo).below i kept at
    (and_parts (not (is_some (out-Memo memo).former)) (list_all (λ b. b) (map is_unmarked (out-Memo memo).below)) (sym (unmarked_out memo) ∙ h)).1

-- ---- one memo

abbrev clear : Memo-F Memo → Memo-F Memo
clear layer = record { former = None; facts = option_map_or (λ former. former.facts) layer.former layer.facts; entries = layer.entries; below = layer.below }

abbrev over : Memo-F Memo → List Memo → Memo
over layer below = roll-Memo record { former = layer.former; facts = layer.facts; entries = layer.entries; below = below }

-- a mark that is cleared again
cleared : (layer : Memo-F Memo) (below : List Memo) → with_below (without_mark (roll-Memo layer)) below ≡ over (clear layer) below
cleared layer below =
    ap (λ (l : Memo-F Memo). with_below (roll-Memo (clear l)) below) (out-roll-Memo layer)
    ∙ ap (λ (l : Memo-F Memo). over l below) (out-roll-Memo (clear layer))

as_before : (memo : Memo) (own : Renewal) (between : List Memo) → (out-Memo memo).former ≡ None
    → over (clear (marked memo own between)) (out-Memo memo).below ≡ memo
as_before memo own between none =
    ap (λ (o : Option Former). roll-Memo record { former = o; facts = (out-Memo memo).facts; entries = (out-Memo memo).entries; below = (out-Memo memo).below }) (sym none)
    ∙ roll-out-Memo memo

-- ---- at the end of a path

back_at : (path : List ℕ) (memo : Memo) (splice : Splice Memo) (known : List Renewal) (room : ℕ) → is_unmarked memo ≡ true → FitsMemo splice path memo
    → undone_memo (inverse (site_of splice) (taken_from splice path memo) room) path (changed_memo splice known path memo) ≡ memo
back_at [] memo splice known room none fits =
    let below : List Memo = (out-Memo memo).below in
    let back : Splice Memo = inverse (site_of splice) (taken splice below) room in
    let own : Renewal = get_or known 0 (seen_anew (own_facts memo)) in
    let between : List Memo = spliced splice below in
    let layer : Memo-F Memo = marked memo own between in
    ap (undone_memo back []) (marked_is memo own between)
    ∙ ap (λ (l : Memo-F Memo). with_below (without_mark (roll-Memo layer)) (spliced back l.below)) (out-roll-Memo layer)
    ∙ cleared layer (spliced back between)
    ∙ ap (over (clear layer)) (led_back splice below room fits)
    ∙ as_before memo own between (former_none memo none)
back_at (place ∷ path) memo splice known room none fits =
    let below : List Memo = (out-Memo memo).below in
    let kept : Memo = fits.0 in
    let at : slice_get below place ≡ Some kept = fits.1 in
    let own : Renewal = get_or known (length (place ∷ path)) (seen_anew (own_facts memo)) in
    let kept' : Memo = changed_memo splice known path kept in
    let between : List Memo = set below place kept' in
    let layer : Memo-F Memo = marked memo own between in
    let went : Option Memo = taken_from splice path kept in
    let back : Splice Memo = inverse (site_of splice) went room in
    let same : taken_from splice (place ∷ path) memo ≡ went = ap (option_and_then (taken_from splice path)) at in
    let made : changed_memo splice known (place ∷ path) memo ≡ roll-Memo layer =
    ap (λ (o : Option Memo). with_below (renewed own memo) (option_map_or (λ z. set below place (changed_memo splice known path z)) o below)) at ∙ marked_is memo own between in
    let undo : List Memo → Option Memo → List Memo = λ memos o. option_map_or (λ z. set memos place (undone_memo back path z)) o memos in
    let there : slice_get between place ≡ Some kept' = set_here below place kept' kept at in
    let again : set between place (undone_memo back path kept') ≡ below =
    ap (set between place) (back_at path kept splice known room (below_unmarked memo place kept none at) fits.2) ∙ set_back below place kept kept' at in
    ap (λ (o : Option Memo). undone_memo (inverse (site_of splice) o room) (place ∷ path) (changed_memo splice known (place ∷ path) memo)) same
    ∙ ap (undone_memo back (place ∷ path)) made
    ∙ ap (λ (l : Memo-F Memo). with_below (without_mark (roll-Memo layer)) (undo l.below (slice_get l.below place))) (out-roll-Memo layer)
    ∙ ap (λ (o : Option Memo). with_below (without_mark (roll-Memo layer)) (undo between o)) there
    ∙ cleared layer (set between place (undone_memo back path kept'))
    ∙ ap (over (clear layer)) again
    ∙ as_before memo own between (former_none memo none)

pub back_law : BackLaw
back_law memo splice path known room none fits = back_at path memo splice known room none fits
