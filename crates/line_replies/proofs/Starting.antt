-- A session that is started.
use Rattle.std.proofs.Common.{◌≡◌, ◌∙◌, inl, inr, sym, ap, subst, refl, ℕ, arith, [], Bool, true, false}
use Rattle.std.specs.Prelude.{Result, Ok, Err, if◌then◌else◌}
use Rattle.fixed_units.specs.declared.refusal.LayRefusal.{LayRefusal}
use Rattle.fixed_units.specs.declared.refusal.LayRefusal.TheVariants as layout
use Rattle.font_metrics.specs.Metrics.{MetricsValue}
use Rattle.math_tree.specs.Trees.{TreeValue}
use Rattle.layout_model.specs.Layout.{is_tree_in_range}
use Rattle.edit_session.specs.Counts.{TakesVisits}
use Rattle.edit_session.specs.Session.{SessionValue}
use Rattle.input_files.specs.Files.{GivesOr}
use Rattle.input_files.specs.Refusals.{of_layout}
use Rattle.input_files.specs.declared.refusal.Refusal.{Refusal}
use Rattle.input_files.specs.declared.refusal.Refusal.TheVariants.{Range}
use Rattle.line_replies.specs.Opening.{TakesToOpen, TakesToStart, started}

abbrev pub session_over : MetricsValue → TreeValue → SessionValue
session_over metrics tree = record { tree = tree; metrics = metrics }

pub in_range_started : (session : SessionValue) (metrics : MetricsValue) (tree : TreeValue)
    → session ≡ session_over metrics tree → is_tree_in_range session.metrics session.tree ≡ true
    → started metrics tree ≡ Ok session
unfolding started
in_range_started session metrics tree is e =
    let fits : is_tree_in_range metrics tree ≡ true = (λ i. is_tree_in_range (sym is i).metrics (sym is i).tree) ∙ e in
    ap (λ (fits : Bool). if fits then Ok (record { tree = tree; metrics = metrics }) else Err Range) fits ∙ ap Ok (sym is)

out_of_range : (metrics : MetricsValue) (tree : TreeValue) → is_tree_in_range metrics tree ≡ false → started metrics tree ≡ Err Range
unfolding started
out_of_range metrics tree e = ap (λ (fits : Bool). if fits then Ok (record { tree = tree; metrics = metrics }) else Err Range) e

-- the refusal of a layout is the wanted one, or want of memory
pub refused_start : (refused : LayRefusal) (metrics : MetricsValue) (tree : TreeValue) → (refused ≡ layout.Range → is_tree_in_range metrics tree ≡ false)
    → GivesOr (started metrics tree) (Err (of_layout refused))
refused_start layout.Range metrics tree h = inr (sym (out_of_range metrics tree (h refl)))
refused_start layout.Memory metrics tree h = inl refl

-- ---- the steps of opening

pub none_taken : (metrics : MetricsValue) (tree : Result TreeValue Refusal) (at : ℕ) → TakesToStart metrics tree at at
none_taken metrics (Ok tree) at = record { pairs = []; steps = omega arith; visited = tt; apart = tt }
none_taken metrics (Err refusal) at = refl

-- where a tree was read
pub read_taken : (metrics : MetricsValue) (wanted : Result TreeValue Refusal) (tree : TreeValue) {from to : ℕ} → GivesOr wanted (Ok tree) → TakesVisits metrics tree from to
    → TakesToStart metrics wanted from to
read_taken metrics wanted tree (inl none) taken = cc
read_taken metrics wanted tree {from} {to} (inr is) taken = subst (λ (w : Result TreeValue Refusal). TakesToStart metrics w from to) is taken

-- the same where metrics were read, and where none were
pub open_taken : (wanted : Result MetricsValue Refusal) (tree : Result TreeValue Refusal) (metrics : MetricsValue) (from to : ℕ) → GivesOr wanted (Ok metrics)
    → TakesToStart metrics tree from to → TakesToOpen wanted tree from to
open_taken wanted tree metrics from to (inl none) taken = cc
open_taken wanted tree metrics from to (inr is) taken = subst (λ (w : Result MetricsValue Refusal). TakesToOpen w tree from to) is taken

pub unopened_taken : (wanted : Result MetricsValue Refusal) (tree : Result TreeValue Refusal) (at : ℕ) → TakesToOpen wanted tree at at
unopened_taken (Ok metrics) tree at = none_taken metrics tree at
unopened_taken (Err refusal) tree at = refl
