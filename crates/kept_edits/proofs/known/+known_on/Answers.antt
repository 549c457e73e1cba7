use Rattle.std.proofs.Common.{◌≡◌, ◌∙◌, refl, sym, ap, subst, ◌-◌, ◌<◌, arith, length, length-drop, length-take, get_or, take, drop, List, Result, Ok, Err, IfOk}
use Rattle.std.proofs.lemmas.Option.{same_Some, slice_get_within}
use Rattle.math_tree.specs.declared.node.Node.{Node}
use Rattle.math_tree.specs.declared.node.Node.TheViews.{out-Node}
use Rattle.embellished.specs.Facts.{facts}
use Rattle.kept_results.specs.Looking.{own_facts}
use Rattle.kept_results.specs.declared.memo.Memo.{Memo}
use Rattle.kept_results.specs.declared.memo.Memo.TheViews.{out-Memo}
use Rattle.kept_edits.specs.Changed.{FitsMemo, seen_anew}
use Rattle.kept_edits.specs.Known.{IsBeside, IsKnownOn}
use Rattle.kept_edits.specs.declared.change.Renewal.{Renewal}
use Rattle.kept_edits.proofs.OnTheWay.{beside_further, kids_are, known_further, last_read, own_alike, own_anew}
use Rattle.kept_edits.proofs.Ways.{further}
use Rattle.kept_edits.proofs.known.+known_on.Goals as goal

pub child_at-child-requires : goal.child_at-child-requires
child_at-child-requires t c =
    let f = beside_further c.args.splice.now c.args.path.now c.args.node.now c.args.memo.now c.if-path-eq0.false c.requires.beside in
    slice_get_within (out-Node c.args.node.now).children (get_or c.args.path.now 0 0) f.child f.at

pub memo_at-below-requires : goal.memo_at-below-requires
memo_at-below-requires t c =
    let f = beside_further c.args.splice.now c.args.path.now c.args.node.now c.args.memo.now c.if-path-eq0.false c.requires.beside in
    slice_get_within (out-Memo c.args.memo.now).below (get_or c.args.path.now 0 0) f.kept f.memo_at

pub known_on-requires : goal.known_on-requires
known_on-requires t c =
    let path = c.args.path.now in
    let splice = c.args.splice.now in
    let f = beside_further splice path c.args.node.now c.args.memo.now c.if-path-eq0.false c.requires.beside in
    let m = further splice path c.args.memo.now c.if-path-eq0.false c.requires.fits in
    let child = same_Some f.child c.child_at-child.result.now (sym f.at ∙ c.child_at-child.ensures) in
    let kept = same_Some f.kept c.memo_at-below.result.now (sym f.memo_at ∙ c.memo_at-below.ensures) in
    let other = same_Some m.kept c.memo_at-below.result.now (sym m.at ∙ c.memo_at-below.ensures) in
    let rest = take (length path - 1) (drop 1 path) in
    let some = c.if-path-eq0.false in
    let one = length-take (length path - 1) (drop 1 path) in
    let two = length-drop 1 path in
    let falls : length (take (length path - 1) (drop 1 path)) < length path = omega (arith, one, two) in (
      omega arith,
      (
        subst (FitsMemo splice rest) other m.fits,
        subst (λ (z : Memo). IsBeside splice rest c.child_at-child.result.now z) kept (subst (λ (n : Node). IsBeside splice rest n f.kept) child f.beside),
      ),
    )

pub kids_with-requires : goal.kids_with-requires
kids_with-requires t c =
    let f = beside_further c.args.splice.now c.args.path.now c.args.node.now c.args.memo.now c.if-path-eq0.false c.requires.beside in
    slice_get_within (out-Memo c.args.memo.now).below (get_or c.args.path.now 0 0) f.kept f.memo_at

ok_then : {E : Type 0} (result : Result (List Renewal) E) (P Q : List Renewal → Type 0) → ((known : List Renewal) → P known → Q known) → IfOk result P → IfOk result Q
ok_then (Ok known) P Q f h = f known h
ok_then (Err error) P Q f h = tt

pub add_own-requires-else-path-eq0 : goal.add_own-requires-else-path-eq0
add_own-requires-else-path-eq0 t c =
    let path = c.args.path.now in
    let f = beside_further c.args.splice.now path c.args.node.now c.args.memo.now c.if-path-eq0.false c.requires.beside in
    let child = same_Some f.child c.child_at-child.result.now (sym f.at ∙ c.child_at-child.ensures) in
    kids_are c.in_ok-kids-2.kids c.as_slice.result.now c.in_ok-known.known (out-Memo c.args.memo.now).below c.args.node.now f.child c.child_at-child.result.now c.memo_at-below.result.now path _
    c.if-path-eq0.false (c.in_ok-kids-2.ensures {u = tt}) c.as_slice.ensures (c.in_ok-known.ensures {u = tt}) child f.kids

pub returns-in_ok-kids-2 : goal.returns-in_ok-kids-2
returns-in_ok-kids-2 t c =
    let node = c.args.node.now in
    let memo = c.args.memo.now in
    ok_then c.add_own-else-path-eq0.result _ (IsKnownOn c.args.path.now node memo)
    (λ known e. known_further node c.child_at-child.result.now memo c.memo_at-below.result.now known c.in_ok-known.known (seen_anew (facts node)) c.args.path.now c.if-path-eq0.false
    c.child_at-child.ensures c.memo_at-below.ensures (c.in_ok-known.ensures {u = tt}) (own_anew node memo _) e) c.add_own-else-path-eq0.ensures

pub returns-then-is_same : goal.returns-then-is_same
returns-then-is_same t c =
    let path = c.args.path.now in
    let node = c.args.node.now in
    let memo = c.args.memo.now in
    let kept = c.memo_at-below.result.now in
    let f = beside_further c.args.splice.now path node memo c.if-path-eq0.false c.requires.beside in
    let child = same_Some f.child c.child_at-child.result.now (sym f.at ∙ c.child_at-child.ensures) in
    let kept_is = same_Some f.kept kept (sym f.memo_at ∙ c.memo_at-below.ensures) in
    let read = last_read c.as_slice.result.now c.in_ok-known.known path f.child c.child_at-child.result.now kept _ c.if-path-eq0.false c.as_slice.ensures (c.in_ok-known.ensures {u = tt}) child in
    let same : facts f.child ≡ own_facts kept = sym read ∙ c.is_same.ensures c.if-is_same.true in
    known_further node f.child memo kept c.push.new.self c.in_ok-known.known _ path c.if-path-eq0.false f.at c.memo_at-below.ensures
    (subst (λ (n : Node). IsKnownOn (take (length path - 1) (drop 1 path)) n kept c.in_ok-known.known) (sym child) (c.in_ok-known.ensures {u = tt}))
    (own_alike node f.child memo kept _ _ (sym c.if-not-is_marked.ensures) f.at c.memo_at-below.ensures same (λ e. f.same (e ∙ ap own_facts (sym kept_is))) refl refl)
    (c.in_ok-push.ensures {u = tt}).ok
