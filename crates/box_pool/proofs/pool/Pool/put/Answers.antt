use Rattle.std.proofs.Common.{◌≡◌, ℕ, ◌+◌, ◌<◌, ◌≤◌, ◌∙◌, [], ◌∷◌, ◌++◌, length, take, set, get_or, eqb, refl, sym, ap, arith}
use Rattle.box_pool.specs.Runs.{runs_at, cell_count}
use Rattle.box_pool.specs.Region.{Region, checkpoint_of}
use Rattle.box_pool.proofs.Whole.{live_counted, cells_counted, Written, whole_put, runs_put, region_same, runs_at-is, whole_is, refilled, new_place}
use Rattle.std.proofs.lemmas.List.{get_or_read}
use Rattle.std.specs.Map.{lookup}
use Rattle.box_pool.proofs.pool.Pool.put.Goals as goal

pub write_at-requires : goal.write_at-requires
write_at-requires c =
    let used = ap (λ (r : Region). cell_count r.runs) (sym c.self.view_is) ∙ cells_counted _ _ _ _ _ _ _ _ c.self.invariant in
    let room = ap (λ (r : Region). r.cell_room) c.self.view_is in
    let spare = c.requires.spare.0 in
    let a = c.self.invariant.cells_fit in
    omega (arith, used, room, spare, ap length c.as_mut_slice.ensures.value)

pub invariant_of-self : goal.invariant_of-self
invariant_of-self c =
    let used = ap (λ (r : Region). cell_count r.runs) (sym c.self.view_is) ∙ cells_counted _ _ _ _ _ _ _ _ c.self.invariant in
    let live = ap (λ (r : Region). length r.runs) (sym c.self.view_is) ∙ live_counted _ _ _ _ _ _ _ _ c.self.invariant in
    let room = ap (λ (r : Region). r.cell_room) c.self.view_is in
    let runs = ap (λ (r : Region). r.run_room) c.self.view_is in
    let spare = c.requires.spare.0 in
    let spare_run = c.requires.spare.1 in
    let a = c.self.invariant.runs_fit in
    let below : c.self.inside.held.live < c.self.inside.run_room = omega (arith, live, runs, spare_run) in
    let fits : c.self.inside.held.used + length c.args.cells.now ≤ c.self.inside.cell_room = omega (arith, used, room, spare) in
    let id : c.index-id.result.now ≡ get_or c.self.inside.order.items c.self.inside.held.live 0 = get_or_read c.self.inside.order.items c.self.inside.held.live c.index-id.result.now (omega arith) c.index-id.ensures 0 in
    let w = refilled c.self.inside.cells c.write_at.new.cells c.as_mut_slice.result.now c.as_mut_slice.ensures.value c.as_mut_slice.ensures.len c.write_at.auto.cells in
    let whole = whole_put _ c.write_at.new.cells _ _ _ _ _ _ _ c.args.cells.now c.self.invariant w.1 fits below in
    whole_is _ _ _ _ _ _ _ _ _ _ _ _ w.0 (ap (λ (i : ℕ). set c.self.inside.places.items i (new_place c.self.inside.held c.args.cells.now)) id) refl refl whole

pub returns-clause-id : goal.returns-clause-id
returns-clause-id c =
    let used = ap (λ (r : Region). cell_count r.runs) (sym c.self.view_is) ∙ cells_counted _ _ _ _ _ _ _ _ c.self.invariant in
    let live = ap (λ (r : Region). length r.runs) (sym c.self.view_is) ∙ live_counted _ _ _ _ _ _ _ _ c.self.invariant in
    let room = ap (λ (r : Region). r.cell_room) c.self.view_is in
    let runs = ap (λ (r : Region). r.run_room) c.self.view_is in
    let spare = c.requires.spare.0 in
    let spare_run = c.requires.spare.1 in
    let a = c.self.invariant.runs_fit in
    let below : c.self.inside.held.live < c.self.inside.run_room = omega (arith, live, runs, spare_run) in
    let fits : c.self.inside.held.used + length c.args.cells.now ≤ c.self.inside.cell_room = omega (arith, used, room, spare) in
    let id : c.index-id.result.now ≡ get_or c.self.inside.order.items c.self.inside.held.live 0 = get_or_read c.self.inside.order.items c.self.inside.held.live c.index-id.result.now (omega arith) c.index-id.ensures 0 in
    let w = refilled c.self.inside.cells c.write_at.new.cells c.as_mut_slice.result.now c.as_mut_slice.ensures.value c.as_mut_slice.ensures.len c.write_at.auto.cells in
    let written : Written c.self.inside.cells.items c.write_at.new.cells c.self.inside.held.used c.args.cells.now = record { before = c.write_at.ensures.before ∙ ap (take c.self.inside.held.used) c.as_mut_slice.ensures.value; there = c.write_at.ensures.piece } in
    let put = runs_put _ _ _ _ _ _ _ _ _ _ c.self.invariant written below in
    ap (λ (r : Region). lookup (eqb c.index-id.result.now) r.runs) (sym c.self.view_is)
    ∙ (ap (λ (i : ℕ). lookup (eqb i) (runs_at c.self.inside.places.items c.self.inside.cells.items (take c.self.inside.held.live c.self.inside.order.items))) id ∙ put.2)

pub returns-clause-put : goal.returns-clause-put
returns-clause-put c =
    let used = ap (λ (r : Region). cell_count r.runs) (sym c.self.view_is) ∙ cells_counted _ _ _ _ _ _ _ _ c.self.invariant in
    let live = ap (λ (r : Region). length r.runs) (sym c.self.view_is) ∙ live_counted _ _ _ _ _ _ _ _ c.self.invariant in
    let room = ap (λ (r : Region). r.cell_room) c.self.view_is in
    let runs = ap (λ (r : Region). r.run_room) c.self.view_is in
    let spare = c.requires.spare.0 in
    let spare_run = c.requires.spare.1 in
    let a = c.self.invariant.runs_fit in
    let below : c.self.inside.held.live < c.self.inside.run_room = omega (arith, live, runs, spare_run) in
    let fits : c.self.inside.held.used + length c.args.cells.now ≤ c.self.inside.cell_room = omega (arith, used, room, spare) in
    let id : c.index-id.result.now ≡ get_or c.self.inside.order.items c.self.inside.held.live 0 = get_or_read c.self.inside.order.items c.self.inside.held.live c.index-id.result.now (omega arith) c.index-id.ensures 0 in
    let w = refilled c.self.inside.cells c.write_at.new.cells c.as_mut_slice.result.now c.as_mut_slice.ensures.value c.as_mut_slice.ensures.len c.write_at.auto.cells in
    let written : Written c.self.inside.cells.items c.write_at.new.cells c.self.inside.held.used c.args.cells.now = record { before = c.write_at.ensures.before ∙ ap (take c.self.inside.held.used) c.as_mut_slice.ensures.value; there = c.write_at.ensures.piece } in
    let put = runs_put _ _ _ _ _ _ _ _ _ _ c.self.invariant written below in
    let places = ap (λ (i : ℕ). set c.self.inside.places.items i (new_place c.self.inside.held c.args.cells.now)) id in
    let seen = c.self.view_is in
    region_same _ _ _ _ _ _ _ _
    (runs_at-is _ _ _ _ _ _ places w.0 refl ∙ (put.0 ∙ (ap (λ (i : ℕ). runs_at c.self.inside.places.items c.self.inside.cells.items (take c.self.inside.held.live c.self.inside.order.items) ++ (i, c.args.cells.now) ∷ []) (sym id)
    ∙ ap (λ (r : Region). r.runs ++ (c.index-id.result.now, c.args.cells.now) ∷ []) seen)))
    (ap (checkpoint_of c.self.inside.begun) (runs_at-is _ _ _ _ _ _ places w.0 refl ∙ put.1) ∙ ap (λ (r : Region). r.checkpoint) seen)
    (ap (λ (r : Region). r.cell_room) seen) (ap (λ (r : Region). r.run_room) seen)
