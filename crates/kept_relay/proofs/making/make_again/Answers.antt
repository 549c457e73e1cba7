use Rattle.std.proofs.Common.{◌∙◌, sym, ap, subst, All, List, [], Err}
use Rattle.std.proofs.lemmas.Option.{same_Some}
use Rattle.std.specs.Result.{result_err}
use Rattle.fixed_units.specs.declared.refusal.LayRefusal.TheVariants.{Range}
use Rattle.embellished.specs.Seen.{seen_of}
use Rattle.layout_model.specs.Answers.{answers_in, questions_in}
use Rattle.layout_model.specs.Fits.{AreAnswers, HasFont}
use Rattle.layout_model.specs.Layout.{equation}
use Rattle.layout_model.specs.Range.{outcome_fits}
use Rattle.layout_model.specs.declared.outcome.Answer.{Answer}
use Rattle.outcome_cells.specs.Store.{PutsOutcome}
use Rattle.kept_results.specs.Looking.{remade, turned, with_entry}
use Rattle.kept_results.specs.declared.memo.Entry.{Entry}
use Rattle.kept_results.specs.declared.memo.Memo.TheViews.{roll-Memo}
use Rattle.kept_relay.proofs.Replacing.{near_one, one_turned, put_back, put_twice, stands_there, turned_back}
use Rattle.kept_relay.proofs.making.make_again.Goals as goal

pub lay_again-made-requires-clause-ones : goal.lay_again-made-requires-clause-ones
lay_again-made-requires-clause-ones g c =
    ap questions_in (one_turned c.args.memo.now c.args.before.entry c.args.before.child c.args.reply c.at_mut.result.now c.turn-had.new.entry c.at_mut.ensures.value c.turn-had.ensures.turned) ∙ c.requires.ones

pub lay_again-made-requires-clause-stored : goal.lay_again-made-requires-clause-stored
lay_again-made-requires-clause-stored g c =
    subst AreAnswers
    (sym (ap answers_in (one_turned c.args.memo.now c.args.before.entry c.args.before.child c.args.reply c.at_mut.result.now c.turn-had.new.entry c.at_mut.ensures.value c.turn-had.ensures.turned)))
    c.requires.stored

pub lay_again-made-requires-clause-fonts : goal.lay_again-made-requires-clause-fonts
lay_again-made-requires-clause-fonts g c =
    subst (All (HasFont c.args.metrics.now))
    (sym (ap questions_in (one_turned c.args.memo.now c.args.before.entry c.args.before.child c.args.reply c.at_mut.result.now c.turn-had.new.entry c.at_mut.ensures.value c.turn-had.ensures.turned)))
    c.requires.fonts

pub turn-requires : goal.turn-requires
turn-requires g c =
    near_one c.args.memo.now c.args.before.entry c.args.before.child c.args.reply c.at_mut.result.now c.turn-had.new.entry c.at_mut.ensures.value c.turn-had.ensures.turned
    c.at_mut-entry.result.now c.at_mut-entry.ensures.value c.requires.asked

pub returns-in-Ok-clause-ok : goal.returns-in-Ok-clause-ok
returns-in-Ok-clause-ok g c =
    let one = ap answers_in (one_turned c.args.memo.now c.args.before.entry c.args.before.child c.args.reply c.at_mut.result.now c.turn-had.new.entry c.at_mut.ensures.value c.turn-had.ensures.turned) in
    (c.in-Ok.ensures {u = tt}).answer ∙ ap (λ (l : List Answer). (equation c.args.metrics.now (seen_of c.args.node.now) c.args.context.now l []).answer) one

pub returns-in-Ok-clause-fit : goal.returns-in-Ok-clause-fit
returns-in-Ok-clause-fit g c =
    let one = ap answers_in (one_turned c.args.memo.now c.args.before.entry c.args.before.child c.args.reply c.at_mut.result.now c.turn-had.new.entry c.at_mut.ensures.value c.turn-had.ensures.turned) in
    ap (λ (l : List Answer). outcome_fits (equation c.args.metrics.now (seen_of c.args.node.now) c.args.context.now l [])) (sym one) ∙ (c.in-Ok.ensures {u = tt}).fit

pub returns-in-Ok-clause-made : goal.returns-in-Ok-clause-made
returns-in-Ok-clause-made g c =
    let memo = c.args.memo.now in
    let place = c.args.before.entry in
    let child = c.args.before.child in
    let reply = c.args.reply in
    let entry = c.at_mut.result.now in
    let had = c.turn-had.result in
    let one = ap answers_in (one_turned memo place child reply entry c.turn-had.new.entry c.at_mut.ensures.value c.turn-had.ensures.turned) in
    let there = stands_there memo place child reply entry c.turn-had.new.entry c.at_mut.ensures.value c.turn-had.ensures.turned c.at_mut-entry.result.now c.at_mut-entry.ensures.value in
    let run = c.in-Ok.field-0.run in
    record {
      run = run;
      puts =
          subst (λ (l : List Answer). PutsOutcome c.args.store.now c.lay_again-made.new.store run.0 (equation c.args.metrics.now (seen_of c.args.node.now) c.args.context.now l [])) one
          (c.in-Ok.ensures {u = tt}).put;
      entry = entry;
      at = c.at_mut.ensures.value;
      had = had;
      has = c.turn-had.ensures.had;
      changed =
          put_twice memo place entry c.at_mut.ensures.value c.turn-had.new.entry c.remake.new.entry
          ∙ ap (λ (e : Entry). roll-Memo (with_entry memo place e)) (c.remake.ensures ∙ ap (λ (e : Entry). remade e run child had) there);
    }

pub returns-in-Err-clause-range : goal.returns-in-Err-clause-range
returns-in-Err-clause-range g c =
    λ e.
    let one = ap answers_in (one_turned c.args.memo.now c.args.before.entry c.args.before.child c.args.reply c.at_mut.result.now c.turn-had.new.entry c.at_mut.ensures.value c.turn-had.ensures.turned) in
    let same = same_Some c.in-Err.refusal Range (ap result_err e) in
    ap (λ (l : List Answer). outcome_fits (equation c.args.metrics.now (seen_of c.args.node.now) c.args.context.now l [])) (sym one)
    ∙ (c.in-Err.ensures {u = tt}).range (ap Err same)

pub returns-in-Err-clause-unchanged : goal.returns-in-Err-clause-unchanged
returns-in-Err-clause-unchanged g c =
    let memo = c.args.memo.now in
    let place = c.args.before.entry in
    let child = c.args.before.child in
    let reply = c.args.reply in
    let entry = c.at_mut.result.now in
    let had = c.turn-had.result in
    let there = stands_there memo place child reply entry c.turn-had.new.entry c.at_mut.ensures.value c.turn-had.ensures.turned c.at_mut-entry.result.now c.at_mut-entry.ensures.value in
    put_twice memo place entry c.at_mut.ensures.value c.turn-had.new.entry c.turn.new.entry
    ∙ ap (λ (e : Entry). roll-Memo (with_entry memo place e))
    (c.turn.ensures.turned ∙ ap (λ (e : Entry). turned e child had) there ∙ turned_back entry child reply had c.turn-had.ensures.had)
    ∙ put_back memo place entry c.at_mut.ensures.value
