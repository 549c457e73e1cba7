use Rattle.std.proofs.Common.{◌≡◌, ◌∙◌, sym, ap, subst, refl, true, [], All, get_or}
use Rattle.std.proofs.lemmas.Option.{slice_get_read}
use Rattle.std.specs.Option.{option_map_or}
use Rattle.embellished.specs.Seen.{seen_of}
use Rattle.layout_model.specs.Answers.{answers_in, questions_in}
use Rattle.layout_model.specs.Fits.{AreAnswers, HasFont}
use Rattle.layout_model.specs.Layout.{equation}
use Rattle.layout_model.specs.Questions.{first}
use Rattle.layout_model.specs.Range.{outcome_fits}
use Rattle.outcome_cells.specs.Store.{PutsOutcome}
use Rattle.child_questions.specs.Surveys.{has_one_wave, survey_of}
use Rattle.kept_results.specs.Looking.{one_at}
use Rattle.kept_results.specs.declared.memo.Memo.TheViews.{out-Memo}
use Rattle.kept_relay.proofs.making.lay_again.Goals as goal

pub outcome_of-requires-clause-one_wave : goal.outcome_of-requires-clause-one_wave
outcome_of-requires-clause-one_wave g c =
    subst (λ n. has_one_wave (survey_of c.args.metrics.now (seen_of n) c.args.context.now) ≡ true)
    (sym c.of-view.ensures) c.requires.one_wave

pub outcome_of-requires-clause-ones : goal.outcome_of-requires-clause-ones
outcome_of-requires-clause-ones g c =
    let one : one_at (out-Memo c.args.memo.now) c.args.entry ≡ c.index-as_slice-entry.result.one =
    ap (λ o. option_map_or (λ e. e.one) o []) (slice_get_read (out-Memo c.args.memo.now).entries _ c.args.entry c.index-as_slice-entry.result refl c.requires.entry (c.index-as_slice-entry.is ∙ ap (λ l. get_or l c.args.entry c.index-as_slice-entry.result) c.as_slice.ensures)) in
    ap questions_in (sym one) ∙ c.requires.ones ∙ ap (λ n. first c.args.metrics.now (seen_of n) c.args.context.now) (sym c.of-view.ensures)

pub outcome_of-requires-clause-stored : goal.outcome_of-requires-clause-stored
outcome_of-requires-clause-stored g c =
    let one : one_at (out-Memo c.args.memo.now) c.args.entry ≡ c.index-as_slice-entry.result.one =
    ap (λ o. option_map_or (λ e. e.one) o []) (slice_get_read (out-Memo c.args.memo.now).entries _ c.args.entry c.index-as_slice-entry.result refl c.requires.entry (c.index-as_slice-entry.is ∙ ap (λ l. get_or l c.args.entry c.index-as_slice-entry.result) c.as_slice.ensures)) in
    subst (λ l. AreAnswers (answers_in l)) one c.requires.stored

pub outcome_of-requires-clause-fonts : goal.outcome_of-requires-clause-fonts
outcome_of-requires-clause-fonts g c =
    let one : one_at (out-Memo c.args.memo.now) c.args.entry ≡ c.index-as_slice-entry.result.one =
    ap (λ o. option_map_or (λ e. e.one) o []) (slice_get_read (out-Memo c.args.memo.now).entries _ c.args.entry c.index-as_slice-entry.result refl c.requires.entry (c.index-as_slice-entry.is ∙ ap (λ l. get_or l c.args.entry c.index-as_slice-entry.result) c.as_slice.ensures)) in
    subst (λ l. All (HasFont c.args.metrics.now) (questions_in l)) one c.requires.fonts

pub returns-in-Ok-clause-fit : goal.returns-in-Ok-clause-fit
returns-in-Ok-clause-fit g c =
    let one : one_at (out-Memo c.args.memo.now) c.args.entry ≡ c.index-as_slice-entry.result.one =
    ap (λ o. option_map_or (λ e. e.one) o []) (slice_get_read (out-Memo c.args.memo.now).entries _ c.args.entry c.index-as_slice-entry.result refl c.requires.entry (c.index-as_slice-entry.is ∙ ap (λ l. get_or l c.args.entry c.index-as_slice-entry.result) c.as_slice.ensures)) in
    ap (λ l. outcome_fits (equation c.args.metrics.now (seen_of c.args.node.now) c.args.context.now (answers_in l) [])) one
    ∙ ap (λ n. outcome_fits (equation c.args.metrics.now (seen_of n) c.args.context.now (answers_in c.index-as_slice-entry.result.one) [])) (sym c.of-view.ensures)
    ∙ (c.in_ok-outcome.ensures {u = tt}).fit

pub returns-in-Ok-clause-put : goal.returns-in-Ok-clause-put
returns-in-Ok-clause-put g c =
    let one : one_at (out-Memo c.args.memo.now) c.args.entry ≡ c.index-as_slice-entry.result.one =
    ap (λ o. option_map_or (λ e. e.one) o []) (slice_get_read (out-Memo c.args.memo.now).entries _ c.args.entry c.index-as_slice-entry.result refl c.requires.entry (c.index-as_slice-entry.is ∙ ap (λ l. get_or l c.args.entry c.index-as_slice-entry.result) c.as_slice.ensures)) in
    subst (PutsOutcome c.args.store.now c.keep_again.new.store c.in-Ok.laid.run.0)
    ((c.in_ok-outcome.ensures {u = tt}).ok
    ∙ ap (λ n. equation c.args.metrics.now (seen_of n) c.args.context.now (answers_in c.index-as_slice-entry.result.one) []) c.of-view.ensures
    ∙ ap (λ l. equation c.args.metrics.now (seen_of c.args.node.now) c.args.context.now (answers_in l) []) (sym one))
    (c.in-Ok.ensures {u = tt}).put

pub returns-in-Ok-clause-answer : goal.returns-in-Ok-clause-answer
returns-in-Ok-clause-answer g c =
    let one : one_at (out-Memo c.args.memo.now) c.args.entry ≡ c.index-as_slice-entry.result.one =
    ap (λ o. option_map_or (λ e. e.one) o []) (slice_get_read (out-Memo c.args.memo.now).entries _ c.args.entry c.index-as_slice-entry.result refl c.requires.entry (c.index-as_slice-entry.is ∙ ap (λ l. get_or l c.args.entry c.index-as_slice-entry.result) c.as_slice.ensures)) in
    (c.in-Ok.ensures {u = tt}).answer
    ∙ ap (λ o. o.answer)
    ((c.in_ok-outcome.ensures {u = tt}).ok
    ∙ ap (λ n. equation c.args.metrics.now (seen_of n) c.args.context.now (answers_in c.index-as_slice-entry.result.one) []) c.of-view.ensures
    ∙ ap (λ l. equation c.args.metrics.now (seen_of c.args.node.now) c.args.context.now (answers_in l) []) (sym one))
