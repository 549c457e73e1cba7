use Rattle.std.proofs.Common.{◌≡◌, ◌∙◌, ap, subst, arith, [], ◌∷◌, ◌++◌, List, length, length-append, Option, None, sym}
use Rattle.std.specs.Borrow.{Bor}
use Rattle.layout_model.specs.declared.context.Context.{Context}
use Rattle.kept_laid.specs.Last.{AreLast, seen_contexts}
use Rattle.kept_laid.proofs.LastAsked.{none_more}
use Rattle.kept_laid.proofs.last.none_asked.Goals as goal

pub loop-preserved : goal.loop-preserved
loop-preserved c =
    let before = c.loop.places.items in
    let pushed : c.push.new.self.items ≡ before ++ None ∷ [] = c.in_ok-push.ensures.items in
    record {
      as_many = ap length pushed ∙ omega (arith, length-append before (None ∷ []), c.loop.invariant.as_many);
      none = subst (λ (places : List (Option (Bor Context))). AreLast [] (seen_contexts places)) (sym pushed) (none_more before c.loop.invariant.none);
    }
