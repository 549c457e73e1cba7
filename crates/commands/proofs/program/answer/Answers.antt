use Rattle.std.proofs.Common.{◌≡◌, inl, refl, subst, sym, ap, Ok, Err, Some, None}
use Rattle.std.specs.Option.{option_map}
use Rattle.doc_io.specs.Causes.{InputsTold, SinkTold}
use Rattle.font_metrics.specs.Metrics.{MetricsValue}
use Rattle.commands.specs.Answer.{answer, answer_with, content}
use Rattle.input_files.specs.Files.{metrics_in}
use Rattle.command_words.specs.Command.{Asked, IsInLimits, Job, asked_of, job_of, work_of}
use Rattle.commands.specs.Ends.{Answers, AnsweredJob, IsJobInParts, JobStepsStand, LacksFile}
use Rattle.commands.specs.Parts.{LacksNext}
use Rattle.commands.specs.Steps.{TakesForJob}
use Rattle.input_files.specs.declared.status.Status.{Status}
use Rattle.commands.proofs.Answering.{generated_answers, over_tree_answers, with_metrics, without_metrics}
use Rattle.commands.proofs.Ending.{told_not_done}
use Rattle.commands.proofs.Parts.{since}
use Rattle.commands.proofs.StepsTaken.{for_metrics}
use Rattle.commands.proofs.program.answer.Goals as goal

-- a job was answered, over metrics that were read
abbrev OverMetrics : Job → MetricsValue → InputsTold → InputsTold → SinkTold → SinkTold → Status → Type 0
OverMetrics job metrics before after old new status =
    AnsweredJob (IsJobInParts job) (option_map (answer_with job metrics) before.files) (LacksNext job metrics) before after old new status

-- then all that was asked for is
behind_metrics : (asked : Asked) (before mid after : InputsTold) (old new : SinkTold) (status : Status) (metrics : MetricsValue)
    → Answers (option_map (λ files. metrics_in (content files asked.metrics)) before.files) (λ files. files asked.metrics ≡ None) before mid (Ok metrics)
    → OverMetrics asked.job metrics mid after old new status
    → AnsweredJob (IsJobInParts asked.job) (option_map (answer asked) before.files) (LacksFile (Some asked)) before after old new status
behind_metrics asked before mid after old new status metrics read a = record {
  result = a.result;
  answers = with_metrics asked before mid after metrics a.result read a.answers;
  delivers = since (IsJobInParts asked.job) a.result before mid after old new status read.faults a.delivers;
  read_to_end = a.read_to_end;
}

pub answer_over-requires : goal.answer_over-requires
answer_over-requires g c = record { limits = subst (λ (job : Job). IsInLimits job) (ap job_of c.in-OverTree.is) c.requires.limits }

pub returns-in-OverTree-clause-answered : goal.returns-in-OverTree-clause-answered
returns-in-OverTree-clause-answered g c =
    let mid = g.I.Inputs.told c.load_metrics.new.inputs in
    let after = g.I.Inputs.told c.answer_over.new.inputs in
    let old = g.O.Sink.told c.args.out.now in
    let new = g.O.Sink.told c.answer_over.new.out in
    let m = c.in-Ok.metrics in
    let a = c.answer_over.ensures.answered in
    behind_metrics (asked_of c.args.request) (g.I.Inputs.told c.args.inputs.now) mid after old new c.answer_over.result m c.in-Ok.ensures
    (subst (λ (job : Job). OverMetrics job m mid after old new c.answer_over.result) (sym (ap job_of c.in-OverTree.is))
    (record {
      result = a.result;
      answers = over_tree_answers (work_of c.in-OverTree.task) c.in-OverTree.tree.now m mid after a.result a.answers;
      delivers = a.delivers;
      read_to_end = a.read_to_end;
    }))

pub returns-in-OverTree-clause-steps : goal.returns-in-OverTree-clause-steps
returns-in-OverTree-clause-steps g c = λ stands.
    c.answer_over.ensures.steps (subst (λ (job : Job). JobStepsStand job c.answer_over.result) (ap job_of c.in-OverTree.is) stands)

pub returns-in-OverTree-clause-taken : goal.returns-in-OverTree-clause-taken
returns-in-OverTree-clause-taken g c =
    for_metrics (asked_of c.args.request) _ _ c.in-Ok.metrics _ _ c.in-Ok.ensures
    (subst (λ (job : Job). TakesForJob job c.in-Ok.metrics (g.I.Inputs.told c.load_metrics.new.inputs).files c.args.steps.now c.answer_over.new.steps)
    (sym (ap job_of c.in-OverTree.is)) c.answer_over.ensures.taken)

pub returns-in-Generate-clause-answered : goal.returns-in-Generate-clause-answered
returns-in-Generate-clause-answered g c =
    let seen = g.I.Inputs.told c.load_metrics.new.inputs in
    let old = g.O.Sink.told c.args.out.now in
    let new = g.O.Sink.told c.generate_edits.new.out in
    let m = c.in-Ok.metrics in
    let w = c.generate_edits.ensures.written in
    behind_metrics (asked_of c.args.request) (g.I.Inputs.told c.args.inputs.now) seen seen old new c.generate_edits.result m c.in-Ok.ensures
    (subst (λ (job : Job). OverMetrics job m seen seen old new c.generate_edits.result) (sym (ap job_of c.in-Generate.is))
    (record {
      result = w.result;
      answers = generated_answers m c.in-Generate.seed c.in-Generate.count seen w.result w.gives;
      delivers = inl w.delivers;
      read_to_end = λ done parts. absurd parts;
    }))

pub returns-in-Generate-clause-steps : goal.returns-in-Generate-clause-steps
returns-in-Generate-clause-steps g c = λ stands.
    absurd (c.generate_edits.ensures.late (subst (λ (job : Job). JobStepsStand job c.generate_edits.result) (ap job_of c.in-Generate.is) stands))

pub returns-in-Generate-clause-taken : goal.returns-in-Generate-clause-taken
returns-in-Generate-clause-taken g c =
    for_metrics (asked_of c.args.request) _ _ c.in-Ok.metrics _ _ c.in-Ok.ensures
    (subst (λ (job : Job). TakesForJob job c.in-Ok.metrics (g.I.Inputs.told c.load_metrics.new.inputs).files c.args.steps.now c.generate_edits.new.steps)
    (sym (ap job_of c.in-Generate.is)) c.generate_edits.ensures.taken)

pub returns-in-Err-clause-answered : goal.returns-in-Err-clause-answered
returns-in-Err-clause-answered g c = record {
  result = Err c.in-Err.refusal;
  answers = without_metrics (asked_of c.args.request) _ _ c.in-Err.refusal c.in-Err.ensures;
  delivers = inl c.tell.ensures;
  read_to_end = λ done parts. absurd (told_not_done c.in-Err.refusal _ _ _ _ c.tell.ensures done);
}

pub returns-in-Err-clause-taken : goal.returns-in-Err-clause-taken
returns-in-Err-clause-taken g c = inl refl
