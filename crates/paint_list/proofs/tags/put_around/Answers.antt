use Rattle.doc_io.proofs.Written.{puts_next, puts_cut}
use Rattle.paint_list.proofs.tags.put_around.Goals as goal

pub returns-in_err-put-2 : goal.returns-in_err-put-2
returns-in_err-put-2 g c =
    puts_next _ _ _ _ _ _ _ _ _ c.in_ok-put.ensures
    (puts_cut _ _ _ _ _ _ _ _ c.in_err-put-2.ensures c.from_residual-in_err-put-2.ensures.0)

pub returns : goal.returns
returns g c =
    puts_next _ _ _ _ _ _ _ _ _ c.in_ok-put.ensures
    (puts_next _ _ _ _ _ _ _ _ _ c.in_ok-put-2.ensures c.put-3.ensures)
