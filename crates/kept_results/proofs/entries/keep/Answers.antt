use Rattle.kept_results.proofs.Backed.{only_put}
use Rattle.kept_results.proofs.entries.keep.Goals as goal

pub returns-in-Err-push-clause-grows : goal.returns-in-Err-push-clause-grows
returns-in-Err-push-clause-grows c = only_put c.args.store.now c.put_with.new.store c.in-Ok.run'.0 c.args.outcome (c.in-Ok.ensures {u = tt}).put
