use Rattle.std.proofs.Common.{◌≡◌, ◌∙◌, sym, ap, subst, refl, inr, ◌+◌, length, true, Some, None}
use Rattle.tree_edits.proofs.Allowed.{is_named, allows_it}
use Rattle.tree_edits.proofs.FirstReason.{unknown_node, own_first, limit_first, taken_last}
use Rattle.tree_edits.specs.Edits.{named}
use Rattle.tree_edits.specs.Paths.{Finds}
use Rattle.tree_edits.specs.Reasons.{own_reason, shown}
use Rattle.tree_edits.proofs.planning.Accepted.make.Goals as goal

pub returns-in_default-clause-refused : goal.returns-in_default-clause-refused
returns-in_default-clause-refused c =
    inr (unknown_node c.args.tree.now c.args.edit.now (subst (Finds (named c.args.edit.now) 1 c.args.tree.now.root) c.in_default.is c.requires))

pub returns-in-Some-own_reason-clause-refused : goal.returns-in-Some-own_reason-clause-refused
returns-in-Some-own_reason-clause-refused c =
    let element = c.element_at-element.result.now in
    let leads = subst (Finds (named c.args.edit.now) 1 c.args.tree.now.root) c.in-Some.is c.requires in
    let is = is_named c.args.edit.now c.args.tree.now (named c.args.edit.now) c.args.tree.now.root c.root.result.now c.in-Some.path c.as_slice.result.now element
    c.root.ensures.whole refl refl leads c.root.ensures.exact c.as_slice.ensures c.element_at-element.ensures in
    let own : own_reason c.args.edit.now (shown (1 + length c.in-Some.path) element) ≡ Some c.in-Some-own_reason.reason =
    ap (λ l. own_reason c.args.edit.now (shown l element)) (sym c.level.ensures) ∙ sym c.own_reason.ensures ∙ c.in-Some-own_reason.is in
    inr (own_first c.args.tree.now c.args.edit.now c.in-Some.path element c.in-Some-own_reason.reason is own)

pub returns-in-Some-broken_limit-clause-refused : goal.returns-in-Some-broken_limit-clause-refused
returns-in-Some-broken_limit-clause-refused c =
    let element = c.element_at-element.result.now in
    let leads = subst (Finds (named c.args.edit.now) 1 c.args.tree.now.root) c.in-Some.is c.requires in
    let is = is_named c.args.edit.now c.args.tree.now (named c.args.edit.now) c.args.tree.now.root c.root.result.now c.in-Some.path c.as_slice.result.now element
    c.root.ensures.whole refl refl leads c.root.ensures.exact c.as_slice.ensures c.element_at-element.ensures in
    let own : own_reason c.args.edit.now (shown (1 + length c.in-Some.path) element) ≡ None =
    ap (λ l. own_reason c.args.edit.now (shown l element)) (sym c.level.ensures) ∙ sym c.own_reason.ensures ∙ c.in_default-own_reason.is in
    let allows = allows_it c.args.edit.now c.args.tree.now c.in-Some.path element is own in
    inr (limit_first c.args.tree.now c.args.edit.now c.in-Some.path element c.of_edited-totals.result c.in-Some-broken_limit.reason allows c.of_edited-totals.ensures
    (sym c.broken_limit.ensures ∙ c.in-Some-broken_limit.is))

pub returns-then-branch-clause-refused : goal.returns-then-branch-clause-refused
returns-then-branch-clause-refused c =
    let element = c.element_at-element.result.now in
    let leads = subst (Finds (named c.args.edit.now) 1 c.args.tree.now.root) c.in-Some.is c.requires in
    let is = is_named c.args.edit.now c.args.tree.now (named c.args.edit.now) c.args.tree.now.root c.root.result.now c.in-Some.path c.as_slice.result.now element
    c.root.ensures.whole refl refl leads c.root.ensures.exact c.as_slice.ensures c.element_at-element.ensures in
    let own : own_reason c.args.edit.now (shown (1 + length c.in-Some.path) element) ≡ None =
    ap (λ l. own_reason c.args.edit.now (shown l element)) (sym c.level.ensures) ∙ sym c.own_reason.ensures ∙ c.in_default-own_reason.is in
    let allows = allows_it c.args.edit.now c.args.tree.now c.in-Some.path element is own in
    inr (taken_last c.args.tree.now c.args.edit.now c.in-Some.path element c.of_edited-totals.result true allows c.of_edited-totals.ensures
    (sym c.broken_limit.ensures ∙ c.in_default-broken_limit.is) (sym c.in_ok-is_taken.ensures ∙ c.if-branch.true))

pub returns-clause-accepted : goal.returns-clause-accepted
returns-clause-accepted c =
    let element = c.element_at-element.result.now in
    let leads = subst (Finds (named c.args.edit.now) 1 c.args.tree.now.root) c.in-Some.is c.requires in
    let is = is_named c.args.edit.now c.args.tree.now (named c.args.edit.now) c.args.tree.now.root c.root.result.now c.in-Some.path c.as_slice.result.now element
    c.root.ensures.whole refl refl leads c.root.ensures.exact c.as_slice.ensures c.element_at-element.ensures in
    let own : own_reason c.args.edit.now (shown (1 + length c.in-Some.path) element) ≡ None =
    ap (λ l. own_reason c.args.edit.now (shown l element)) (sym c.level.ensures) ∙ sym c.own_reason.ensures ∙ c.in_default-own_reason.is in
    record {
      element = element;
      allows = allows_it c.args.edit.now c.args.tree.now c.in-Some.path element is own;
      totals_are = c.of_edited-totals.ensures;
      within = sym c.broken_limit.ensures ∙ c.in_default-broken_limit.is;
      free = sym c.in_ok-is_taken.ensures ∙ c.if-branch.false;
    }
