use Rattle.std.proofs.Common.{◌∙◌, None, ap, sym, arith, ◌++◌}
use Rattle.std.proofs.lemmas.List.{append-nil}
use Rattle.row_stretch.specs.declared.parts.KidPull.{KidPull}
use Rattle.row_stretch.proofs.Asks.{asks_from-none, one_more}
use Rattle.row_stretch.proofs.asking.add_asks.Goals as goal

abbrev no_kid : KidPull
no_kid = record { axis = None }

pub loop-kid-init : goal.loop-kid-init
loop-kid-init c = record {
  all = sym (append-nil c.args.asks) ∙ ap (λ asks. c.args.asks ++ asks) (sym (asks_from-none c.args.place c.args.plan));
  next = omega arith;
}

pub loop-kid-preserved : goal.loop-kid-preserved
loop-kid-preserved c = record {
  all = one_more c.args.place c.args.plan c.args.kids.now c.loop-kid.kid-index no_kid c.args.asks c.loop-kid.all c.in_ok-all.all
      c.loop-kid.next c.pull_of.result c.loop-kid-test.true c.loop-kid.invariant.all c.loop-kid.invariant.next
      c.pull_of.ensures (c.in_ok-all.ensures {u = tt});
  next = omega arith;
}
