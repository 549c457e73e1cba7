use Rattle.metrics_file.proofs.printed.PrintedLines.add_text.Goals as goal

pub returns : goal.returns
returns c = rw (← c.self.view_is) c.in_ok-push_str.ensures.bytes
