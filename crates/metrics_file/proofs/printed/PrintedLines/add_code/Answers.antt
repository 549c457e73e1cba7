use Rattle.metrics_file.proofs.Padding.{code_text-written}
use Rattle.metrics_file.proofs.printed.PrintedLines.add_code.Goals as goal

pub returns : goal.returns
returns c =
    let h = rw (c.laid_out.ensures, c.in_radix.ensures, c.from.ensures, code_text-written) at c.in_ok-write.ensures.bytes in
    rw (← c.self.view_is) h
