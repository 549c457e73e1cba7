use Rattle.std.proofs.Common.{◌≡◌, ℕ, ◌<◌, ◌∙◌, Bool, false, List, length, take, get_or, sym, ap, subst, arith}
use Rattle.box_pool.specs.declared.cell.Cell.{Cell}
use Rattle.box_pool.specs.Runs.{runs_at, is_listed, is_marked}
use Rattle.box_pool.specs.Region.{Region}
use Rattle.box_pool.proofs.Whole.{lookup_below, whole_swept, filter_marked, idle, region_same, runs_at-is, whole_is, refilled, all_take}
use Rattle.std.specs.Option.{IsSome}
use Rattle.std.specs.List.{All, filter}
use Rattle.std.specs.List.Sorted.{IsPermutation}
use Rattle.box_pool.specs.declared.pool.RunId.{RunId}
use Rattle.box_pool.specs.Region.{cells_at}
use Rattle.box_pool.proofs.pool.Pool.sweep.Goals as goal

pub mark_listed-requires : goal.mark_listed-requires
mark_listed-requires c =
    let Live : Region → ℕ → Type 0 = λ r id. IsSome (cells_at r id) in
    let a = c.self.invariant.live in let b = c.self.invariant.runs_fit in let p = c.self.invariant.marked in
    let size = ap length c.as_mut_slice.ensures.value in
    let P : List RunId → Type 0 = λ keep. All (λ run. run.0 < length c.as_mut_slice.result.now) keep in
    subst P (sym c.as_slice.ensures) (λ k d here.
    let Of : Region → Type 0 = λ r. IsSome (cells_at r (get_or c.args.keep.now k d).0) in
    let live = subst Of (sym c.self.view_is) (c.requires.live k d here) in
    let low = lookup_below c.self.inside.places.items c.self.inside.cells.items (length c.self.inside.order.items) (get_or c.args.keep.now k d).0 (take c.self.inside.held.live c.self.inside.order.items)
    (all_take (λ id. id < length c.self.inside.order.items) c.self.inside.held.live c.self.inside.order.items (omega arith) c.self.invariant.below) live in
    omega arith)

pub invariant_of-self : goal.invariant_of-self
invariant_of-self c =
    let k = c.compact-kept.ensures in
    let marks = refilled c.self.inside.marks c.mark_listed.new.marks c.as_mut_slice.result.now c.as_mut_slice.ensures.value c.as_mut_slice.ensures.len c.mark_listed.auto.marks in
    let cells = refilled c.self.inside.cells c.compact-kept.new.cells c.as_mut_slice-2.result.now c.as_mut_slice-2.ensures.value c.as_mut_slice-2.ensures.len c.compact-kept.auto.cells in
    let places = refilled c.self.inside.places c.compact-kept.new.places c.as_mut_slice-3.result.now c.as_mut_slice-3.ensures.value c.as_mut_slice-3.ensures.len c.compact-kept.auto.places in
    let order = refilled c.self.inside.order c.compact-kept.new.order c.as_mut_slice-4.result.now c.as_mut_slice-4.ensures.value c.as_mut_slice-4.ensures.len c.compact-kept.auto.order in
    let Permuted : List ℕ → Type 0 = λ ids. IsPermutation ids c.compact-kept.new.order in
    let whole = whole_swept _ _ _ _ _ _ _ _ _ _ _ _ _ c.self.invariant cells.1 places.1 marks.1 (subst Permuted c.as_mut_slice-4.ensures.value k.permuted) k.live k.used k.follows in
    whole_is _ _ _ _ _ _ _ _ _ _ _ _ cells.0 places.0 order.0 marks.0 whole

pub returns : goal.returns
returns c =
    let k = c.compact-kept.ensures in
    let marks = refilled c.self.inside.marks c.mark_listed.new.marks c.as_mut_slice.result.now c.as_mut_slice.ensures.value c.as_mut_slice.ensures.len c.mark_listed.auto.marks in
    let cells = refilled c.self.inside.cells c.compact-kept.new.cells c.as_mut_slice-2.result.now c.as_mut_slice-2.ensures.value c.as_mut_slice-2.ensures.len c.compact-kept.auto.cells in
    let places = refilled c.self.inside.places c.compact-kept.new.places c.as_mut_slice-3.result.now c.as_mut_slice-3.ensures.value c.as_mut_slice-3.ensures.len c.compact-kept.auto.places in
    let order = refilled c.self.inside.order c.compact-kept.new.order c.as_mut_slice-4.result.now c.as_mut_slice-4.ensures.value c.as_mut_slice-4.ensures.len c.compact-kept.auto.order in
    let a = c.self.invariant.live in let b = c.self.invariant.runs_fit in let p = c.self.invariant.marked in
    let seen = c.self.view_is in
    let ids : List ℕ = take c.self.inside.held.live c.self.inside.order.items in
    let Same : List RunId → Type 0 = λ keep. (id : ℕ) → id < length c.mark_listed.new.marks → get_or c.mark_listed.new.marks id false ≡ is_listed keep id in
    let marked = subst Same c.as_slice.ensures c.mark_listed.ensures in
    let all : All (λ id. id < length c.mark_listed.new.marks) ids = all_take (λ id. id < length c.mark_listed.new.marks) c.self.inside.held.live c.self.inside.order.items (omega arith) (λ j d here. let low = c.self.invariant.below j d here in omega (arith, low, p, marks.1)) in
    let listed : List (ℕ × List Cell) = filter (λ run. is_listed c.args.keep.now run.0) c.args.self.now.runs in
    let runs : _ ≡ listed =
    runs_at-is _ _ _ _ _ _ places.0 cells.0 (ap (take c.compact-kept.result.live) order.0)
    ∙ (k.runs
    ∙ (ap (λ (ms : List Bool). filter (is_marked ms) (runs_at c.as_mut_slice-3.result.now c.as_mut_slice-2.result.now (take c.self.inside.held.live c.as_mut_slice-4.result.now))) (c.as_slice-2.ensures.value ∙ marks.0)
    ∙ (ap (filter (is_marked c.mark_listed.new.marks)) (runs_at-is _ _ _ _ _ _ c.as_mut_slice-3.ensures.value c.as_mut_slice-2.ensures.value (ap (take c.self.inside.held.live) c.as_mut_slice-4.ensures.value))
    ∙ (filter_marked _ _ _ _ marked ids all
    ∙ ap (λ (r : Region). filter (λ (run : ℕ × List Cell). is_listed c.args.keep.now run.0) r.runs) seen)))) in
    region_same _ _ _ _ _ _ _ _ runs (idle c.self.inside.begun _ _ (ap (λ (r : Region). r.checkpoint) seen ∙ c.requires.idle) ∙ ap (λ (r : Region). r.checkpoint) seen) (ap (λ (r : Region). r.cell_room) seen) (ap (λ (r : Region). r.run_room) seen)
