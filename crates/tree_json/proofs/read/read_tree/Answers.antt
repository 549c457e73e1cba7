use Rattle.std.proofs.Common.{◌≡◌, ap, subst, ℕ, ◌+◌, Err, arith}
use Rattle.serde_json.specs.View.{view}
use Rattle.tree_json.specs.Parts.{IsOrderedAt}
use Rattle.tree_json.specs.declared.read.Seen.{Seen}
use Rattle.tree_json.specs.declared.refusal.TreeRefusal.{TreeRefusal}
use Rattle.tree_json.proofs.ReadParts.{as_refused}
use Rattle.tree_json.proofs.Whole.{totalled, tree_is, refused}
use Rattle.tree_json.proofs.read.read_tree.Goals as goal

pub returns-in_err-root : goal.returns-in_err-root
returns-in_err-root c =
    let refusal : TreeRefusal = c.in_err-root.field-0.0 in
    let same : c.from_residual.result ≡ Err refusal =
    as_refused _ refusal c.from_residual.ensures.0 c.from_residual.ensures.1 in
    record { reads = rw same (refused (view c.args.value.now) c.read_element.new.seen refusal c.in_err-root.ensures.reads) }

pub whole-requires : goal.whole-requires
whole-requires c =
    let read = c.in_ok-root.ensures.reads in
    let count = ap (λ (s : Seen). s.elements) read.2 in
    let bytes = ap (λ (s : Seen). s.bytes) read.2 in
    let next : ℕ = c.read_element.new.seen.elements + 1 in
    rw (read.1) (totalled (view c.args.value.now) next c.read_element.new.seen.elements c.read_element.new.seen.bytes read.0
    (subst (IsOrderedAt 1) read.1 c.in_ok-root.ensures.order)
    (omega (arith, count)) (omega (arith, count)) (omega (arith, bytes)))

pub returns : goal.returns
returns c =
    let read = c.in_ok-root.ensures.reads in
    let count = ap (λ (s : Seen). s.elements) read.2 in
    let next : ℕ = c.read_element.new.seen.elements + 1 in
    record { reads = rw (c.whole.ensures, read.1) (tree_is (view c.args.value.now) next read.0 (omega (arith, count))) }
