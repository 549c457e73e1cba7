use Rattle.std.proofs.Common.{ℕ, ◌∙◌, List, length, refl, ap, arith}
use Rattle.box_pool.specs.declared.cell.Cell.{Cell}
use Rattle.box_pool.specs.Runs.{cell_count}
use Rattle.box_pool.specs.Region.{Region, checkpoint_of}
use Rattle.box_pool.proofs.Whole.{whole_grown, runs_grown, live_counted, cells_counted, region_same, on_err}
use Rattle.std.proofs.Common.{length-take}
use Rattle.box_pool.proofs.pool.Pool.reserve.Goals as goal

pub invariant_of-self : goal.invariant_of-self
invariant_of-self c =
    let g = c.grow_all.ensures in
    let a = c.self.invariant.runs_fit in let b = c.self.invariant.cells_fit in
    let order = ap length g.order in let cells = ap length g.cells in
    whole_grown _ _ _ _ _ _ _ _ _ _ _ _ _ _ c.self.invariant g.cells g.places g.order g.distinct g.below g.placed g.marked (omega arith) (omega arith)
    (omega (arith, simp length-take at cells)) (omega (arith, simp length-take at order))

pub returns-in_err-grow_all-clause-same : goal.returns-in_err-grow_all-clause-same
returns-in_err-grow_all-clause-same c =
    let g = c.grow_all.ensures in
    let same = runs_grown _ _ _ _ _ _ _ _ _ _ _ c.self.invariant g.cells g.places g.order in
    let seen = c.self.view_is in
    region_same _ _ _ _ _ _ _ _ (same.0 ∙ ap (λ (r : Region). r.runs) seen) (ap (checkpoint_of c.self.inside.begun) same.1 ∙ ap (λ (r : Region). r.checkpoint) seen) refl refl

pub returns-in_err-grow_all-clause-err : goal.returns-in_err-grow_all-clause-err
returns-in_err-grow_all-clause-err c =
    let g = c.grow_all.ensures in
    let same = runs_grown _ _ _ _ _ _ _ _ _ _ _ c.self.invariant g.cells g.places g.order in
    on_err _ _ (region_same _ _ _ _ _ _ _ _ same.0 (ap (checkpoint_of c.self.inside.begun) same.1) refl refl ∙ c.self.view_is)

pub invariant_of-self-2 : goal.invariant_of-self-2
invariant_of-self-2 c =
    let g = c.in_ok-grow_all.ensures in
    let a = c.self.invariant.runs_fit in let b = c.self.invariant.cells_fit in
    let order = ap length g.order in let cells = ap length g.cells in
    let m = c.max-self-inside.ensures in let n = c.max-self-inside-2.ensures in
    let cr = g.cell_room in let rr = g.run_room in
    whole_grown _ _ _ _ _ _ _ _ _ _ _ _ _ _ c.self.invariant g.cells g.places g.order g.distinct g.below g.placed g.marked (omega (arith, m)) (omega (arith, n))
    (omega (arith, m, cr, simp length-take at cells)) (omega (arith, n, rr, simp length-take at order))

pub returns-clause-ok : goal.returns-clause-ok
returns-clause-ok c =
    let g = c.grow_all.ensures in
    let same = runs_grown _ _ _ _ _ _ _ _ _ _ _ c.self.invariant g.cells g.places g.order in
    let used = ap cell_count same.0 ∙ cells_counted _ _ _ _ _ _ _ _ c.self.invariant in
    let live = ap (λ (rs : List (ℕ × List Cell)). length rs) same.0 ∙ live_counted _ _ _ _ _ _ _ _ c.self.invariant in
    let m = c.max-self-inside.ensures in let n = c.max-self-inside-2.ensures in
    let some = c.in-Some.ensures in let some_runs = c.in-Some-checked_add.ensures in
    (omega (arith, used, m, some), omega (arith, live, n, some_runs))

pub returns-clause-same : goal.returns-clause-same
returns-clause-same c =
    let g = c.grow_all.ensures in
    let same = runs_grown _ _ _ _ _ _ _ _ _ _ _ c.self.invariant g.cells g.places g.order in
    let seen = c.self.view_is in
    region_same _ _ _ _ _ _ _ _ (same.0 ∙ ap (λ (r : Region). r.runs) seen) (ap (checkpoint_of c.self.inside.begun) same.1 ∙ ap (λ (r : Region). r.checkpoint) seen) refl refl
