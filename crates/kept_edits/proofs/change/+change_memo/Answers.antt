use Rattle.std.proofs.Common.{◌≡◌, ◌∙◌, sym, ap, subst, ◌-◌, ◌<◌, arith, length, length-drop, length-take, get_or, take, drop, slice_get, List, ℕ}
use Rattle.std.proofs.lemmas.List.{get_or_default}
use Rattle.std.proofs.lemmas.Option.{same_Some, slice_get_within}
use Rattle.kept_results.specs.Looking.{own_facts}
use Rattle.kept_results.specs.declared.memo.Memo.{Memo}
use Rattle.kept_results.specs.declared.memo.Memo.TheViews.{out-Memo}
use Rattle.splices.specs.Splicing.{spliced}
use Rattle.kept_edits.specs.Changed.{FitsMemo, renewed, renewed_on, seen_anew}
use Rattle.kept_edits.specs.declared.change.Renewal.{Renewal}
use Rattle.kept_edits.proofs.Ways.{below_renewed, further, taken_further, taken_here, spliced_further, spliced_here}
use Rattle.kept_edits.proofs.change.+change_memo.Goals as goal

own_read : (known : List Renewal) (path : List ℕ) (memo new : Memo) (d : Renewal) → length path < length known → new ≡ renewed (get_or known (length path) d) memo
    → new ≡ renewed_on known path memo
own_read known path memo new d near e =
    e ∙ ap (λ (own : Renewal). renewed own memo) (get_or_default known (length path) d (seen_anew (own_facts memo)) near)

pub at_mut-requires : goal.at_mut-requires
at_mut-requires t c =
    let f = further c.args.splice c.args.path.now c.args.memo.now c.if-path-eq0.false c.requires.fits in
    let b = below_renewed _ c.args.memo.now c.renew.new.memo c.renew.ensures in
    slice_get_within (out-Memo c.renew.new.memo).below (get_or c.args.path.now 0 0) f.kept (ap (λ (l : List Memo). slice_get l (get_or c.args.path.now 0 0)) b ∙ f.at)

pub change_memo-requires : goal.change_memo-requires
change_memo-requires t c =
    let path = c.args.path.now in
    let f = further c.args.splice path c.args.memo.now c.if-path-eq0.false c.requires.fits in
    let b = below_renewed _ c.args.memo.now c.renew.new.memo c.renew.ensures in
    let there = ap (λ (l : List Memo). slice_get l (get_or path 0 0)) b ∙ f.at in
    let same : f.kept ≡ c.at_mut.result.now = same_Some f.kept c.at_mut.result.now (sym there ∙ c.at_mut.ensures.value) in
    let some : length path ≡ 0 → ⊥ = c.if-path-eq0.false in
    let one = length-take (length path - 1) (drop 1 path) in
    let two = length-drop 1 path in
    let falls : length (take (length path - 1) (drop 1 path)) < length path = omega (arith, one, two) in
    let near = c.requires.known in
    (omega arith, (subst (λ (z : Memo). FitsMemo c.args.splice (take (length path - 1) (drop 1 path)) z) same f.fits, omega arith))

pub returns-then-path-eq0-clause-memo : goal.returns-then-path-eq0-clause-memo
returns-then-path-eq0-clause-memo t c =
    spliced_here (renewed_on c.args.known.now) c.args.splice c.args.memo.now c.renew.new.memo c.args.path.now c.apply_to.new.list c.if-path-eq0.true (own_read c.args.known.now c.args.path.now c.args.memo.now c.renew.new.memo _ c.requires.known c.renew.ensures)
    (c.apply_to.ensures.list ∙ ap (spliced c.args.splice) (below_renewed _ c.args.memo.now c.renew.new.memo c.renew.ensures))

pub returns-then-path-eq0-clause-taken : goal.returns-then-path-eq0-clause-taken
returns-then-path-eq0-clause-taken t c =
    taken_here c.args.splice c.args.path.now c.args.memo.now (out-Memo c.renew.new.memo).below c.apply_to.result c.if-path-eq0.true
    (below_renewed _ c.args.memo.now c.renew.new.memo c.renew.ensures) c.apply_to.ensures.taken

pub returns-else-path-eq0-clause-memo : goal.returns-else-path-eq0-clause-memo
returns-else-path-eq0-clause-memo t c =
    let b = below_renewed _ c.args.memo.now c.renew.new.memo c.renew.ensures in
    let at = ap (λ (l : List Memo). slice_get l (get_or c.args.path.now 0 0)) (sym b) ∙ c.at_mut.ensures.value in
    spliced_further (renewed_on c.args.known.now) c.args.splice c.args.memo.now c.renew.new.memo c.args.path.now (out-Memo c.renew.new.memo).below c.at_mut.result.now c.change_memo.new.memo
    c.if-path-eq0.false b at c.change_memo.ensures.memo (own_read c.args.known.now c.args.path.now c.args.memo.now c.renew.new.memo _ c.requires.known c.renew.ensures)

pub returns-else-path-eq0-clause-taken : goal.returns-else-path-eq0-clause-taken
returns-else-path-eq0-clause-taken t c =
    let b = below_renewed _ c.args.memo.now c.renew.new.memo c.renew.ensures in
    let at = ap (λ (l : List Memo). slice_get l (get_or c.args.path.now 0 0)) (sym b) ∙ c.at_mut.ensures.value in
    taken_further c.args.splice c.args.path.now c.args.memo.now c.at_mut.result.now c.change_memo.result c.if-path-eq0.false at c.change_memo.ensures.taken
