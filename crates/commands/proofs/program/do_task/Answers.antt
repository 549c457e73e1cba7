use Rattle.std.proofs.Common.{inl, refl, subst, sym, ap}
use Rattle.std.specs.Option.{option_map}
use Rattle.commands.specs.Answer.{done}
use Rattle.command_words.specs.Command.{IsWorkInLimits, Work, work_of}
use Rattle.commands.specs.Ends.{Answered}
use Rattle.commands.specs.Parts.{LacksScript}
use Rattle.commands.specs.Steps.{TakesForWork}
use Rattle.commands.proofs.Answering.{asked_answers, checked_answers, laid_out_answers}
use Rattle.commands.proofs.program.do_task.Goals as goal

pub remember-requires-clause-some : goal.remember-requires-clause-some
remember-requires-clause-some g c = (subst (λ (work : Work). IsWorkInLimits work) (ap work_of c.in-Remember.is) c.requires.limits).0

pub remember-requires-clause-few : goal.remember-requires-clause-few
remember-requires-clause-few g c = (subst (λ (work : Work). IsWorkInLimits work) (ap work_of c.in-Remember.is) c.requires.limits).1

pub returns-in-Layout-clause-answered : goal.returns-in-Layout-clause-answered
returns-in-Layout-clause-answered g c =
    let told = g.I.Inputs.told c.args.inputs.now in
    let m = c.args.metrics in
    let t = c.args.tree in
    let w = c.lay_out.ensures.written in
    subst (λ (work : Work). Answered work (option_map (done work m t) told.files) (LacksScript work m t) told told
    (g.O.Sink.told c.args.out.now) (g.O.Sink.told c.lay_out.new.out) c.lay_out.result)
    (sym (ap work_of c.in-Layout.is))
    (record { result = w.result; answers = laid_out_answers m t told w.result w.gives; delivers = inl w.delivers; read_to_end = λ done parts. absurd parts })

pub returns-in-Check-clause-answered : goal.returns-in-Check-clause-answered
returns-in-Check-clause-answered g c =
    let told = g.I.Inputs.told c.args.inputs.now in
    let m = c.args.metrics in
    let t = c.args.tree in
    let w = c.check-status.ensures in
    subst (λ (work : Work). Answered work (option_map (done work m t) told.files) (LacksScript work m t) told told
    (g.O.Sink.told c.args.out.now) (g.O.Sink.told c.check-status.new.out) c.check-status.result)
    (sym (ap work_of c.in-Check.is))
    (record { result = w.result; answers = checked_answers m t told w.result w.gives; delivers = inl w.delivers; read_to_end = λ done parts. absurd parts })

pub returns-in-Layout-clause-taken : goal.returns-in-Layout-clause-taken
returns-in-Layout-clause-taken g c =
    subst (λ (work : Work). TakesForWork work c.args.metrics c.args.tree (g.I.Inputs.told c.args.inputs.now).files c.args.steps.now c.lay_out.new.steps)
    (sym (ap work_of c.in-Layout.is)) c.lay_out.ensures.taken

pub returns-in-Check-clause-taken : goal.returns-in-Check-clause-taken
returns-in-Check-clause-taken g c =
    subst (λ (work : Work). TakesForWork work c.args.metrics c.args.tree (g.I.Inputs.told c.args.inputs.now).files c.args.steps.now c.args.steps.now)
    (sym (ap work_of c.in-Check.is)) refl

pub returns-in-Ask-clause-answered : goal.returns-in-Ask-clause-answered
returns-in-Ask-clause-answered g c =
    let told = g.I.Inputs.told c.args.inputs.now in
    let m = c.args.metrics in
    let t = c.args.tree in
    let w = c.ask.ensures.written in
    subst (λ (work : Work). Answered work (option_map (done work m t) told.files) (LacksScript work m t) told told
    (g.O.Sink.told c.args.out.now) (g.O.Sink.told c.ask.new.out) c.ask.result)
    (sym (ap work_of c.in-Ask.is))
    (record { result = w.result; answers = asked_answers c.in-Ask.query m t told w.result w.gives; delivers = inl w.delivers; read_to_end = λ done parts. absurd parts })

pub returns-in-Ask-clause-taken : goal.returns-in-Ask-clause-taken
returns-in-Ask-clause-taken g c =
    subst (λ (work : Work). TakesForWork work c.args.metrics c.args.tree (g.I.Inputs.told c.args.inputs.now).files c.args.steps.now c.ask.new.steps)
    (sym (ap work_of c.in-Ask.is)) c.ask.ensures.taken
