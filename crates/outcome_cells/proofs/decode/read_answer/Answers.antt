use Rattle.outcome_cells.proofs.decode.read_answer.Goals as goal

pub read_numbers-requires : goal.read_numbers-requires
read_numbers-requires c =
    let o = c.requires.outcome in
    let parts = c.parts_of-parts.ensures o c.requires.cells_are in
    record { items = o.answer.cells; fits = λ k d here. tt; cells_are = parts.widths }
