use Rattle.std.proofs.Common.{◌∙◌, refl, ap}
use Rattle.box_pool.specs.Region.{Region}
use Rattle.box_pool.proofs.Whole.{at_checkpoint, region_same}
use Rattle.box_pool.proofs.pool.Pool.rollback.Goals as goal

pub returns : goal.returns
returns c = λ before is.
    let seen = c.self.view_is in
    let same = at_checkpoint c.self.inside.begun _ before (ap (λ (r : Region). r.checkpoint) seen ∙ is) in
    region_same _ _ _ _ _ _ _ _ same refl (ap (λ (r : Region). r.cell_room) seen) (ap (λ (r : Region). r.run_room) seen)
