use Rattle.std.proofs.Common.{refl, subst, sym}
use Rattle.std.specs.Prelude.{map, string_bytes}
use Rattle.command_words.specs.Command.{asked_of}
use Rattle.commands.specs.Ends.{TakesNoSteps}
use Rattle.commands.specs.Steps.{TakesForRun}
use Rattle.commands.proofs.Ending.{answered_ends, usage_ends}
use Rattle.command_words.proofs.Limits.{asked_within}
use Rattle.commands.proofs.program.run.Goals as goal

pub answer-requires : goal.answer-requires
answer-requires g c = record { limits = asked_within (map string_bytes c.args.words.now) (asked_of c.in-Ok.request) c.in-Ok.ensures.ok }

pub returns-in-Err-clause-ends : goal.returns-in-Err-clause-ends
returns-in-Err-clause-ends g c = usage_ends _ _ _ _ _ _ c.in-Err.ensures.err c.as_bytes.ensures.value c.deliver.ensures

pub returns-in-Ok-clause-ends : goal.returns-in-Ok-clause-ends
returns-in-Ok-clause-ends g c = answered_ends _ _ _ _ _ _ _ c.in-Ok.ensures.ok c.answer.ensures.answered

pub returns-in-Ok-clause-steps : goal.returns-in-Ok-clause-steps
returns-in-Ok-clause-steps g c = λ none. c.answer.ensures.steps (subst (λ asked. TakesNoSteps asked c.answer.result) c.in-Ok.ensures.ok none)

pub returns-in-Ok-clause-taken : goal.returns-in-Ok-clause-taken
returns-in-Ok-clause-taken g c =
    subst (λ asked. TakesForRun asked (g.I.Inputs.told c.args.inputs.now).files c.args.steps.now c.answer.new.steps) (sym c.in-Ok.ensures.ok) c.answer.ensures.taken

pub returns-in-Err-clause-taken : goal.returns-in-Err-clause-taken
returns-in-Err-clause-taken g c =
    subst (λ asked. TakesForRun asked (g.I.Inputs.told c.args.inputs.now).files c.args.steps.now c.args.steps.now) (sym c.in-Err.ensures.err) refl
