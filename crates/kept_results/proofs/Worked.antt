-- Worked figures: of three questions, that to the child on the way has its style found anew, and no other; entries that a pass
-- made, and one that it made anew, undone; and the only child that a pass can have touched.
use Rattle.std.proofs.Common.{◌≡◌, refl, ℕ, true, false, List, [], ◌∷◌, map, None, Some}
use Rattle.font_metrics.specs.Metrics.{MetricsValue}
use Rattle.op_dictionary.specs.declared.operator.Form.TheVariants.{Infix}
use Rattle.embellished.specs.Seen.{Seen}
use Rattle.embellished.specs.declared.facts.Facts.{Facts}
use Rattle.layout_model.specs.Contexts.{kid_style}
use Rattle.layout_model.specs.declared.context.Context.{Context}
use Rattle.layout_model.specs.declared.context.Question.{Question}
use Rattle.layout_model.specs.declared.outcome.Answer.{Answer}
use Rattle.layout_model.specs.declared.reply.Reply.{Reply}
use Rattle.layout_model.specs.declared.context.Stretch.TheVariants.{None as Unstretched}
use Rattle.style_scope.specs.declared.style.Style.{Style}
use Rattle.box_pool.specs.declared.pool.RunId.{RunId}
use Rattle.kept_results.specs.Ends.{all_undone}
use Rattle.kept_results.specs.Looking.{remade, turned}
use Rattle.kept_results.specs.Regular.{restyled_at}
use Rattle.kept_results.specs.Tidy.{is_calm, only_touched}
use Rattle.kept_results.specs.declared.memo.Entry.{Entry}
use Rattle.kept_results.specs.declared.memo.Memo.{Memo}
use Rattle.kept_results.specs.declared.memo.Memo.TheOpen.{Memo-F}
use Rattle.kept_results.specs.declared.memo.Origin.{Origin}
use Rattle.kept_results.specs.declared.memo.Origin.TheVariants.{Made, Standing}

abbrev question : ℕ → Style → Question
question kid style = record { kid = kid; context = record { style = style; form = Infix; stretch = Unstretched } }

the_one_on_the_way : (m : MetricsValue) (seen : Seen) (context : Context) (style : Style)
    → map (restyled_at m seen context 1) (question 0 style ∷ question 1 style ∷ question 2 style ∷ [])
    ≡ question 0 style ∷ question 1 (kid_style m seen context.style 1) ∷ question 2 style ∷ []
the_one_on_the_way m seen context style = refl

none_on_the_way : (m : MetricsValue) (seen : Seen) (context : Context) (style : Style)
    → map (restyled_at m seen context 3) (question 0 style ∷ question 1 style ∷ []) ≡ question 0 style ∷ question 1 style ∷ []
none_on_the_way m seen context style = refl

-- ---- undone

-- an entry in a context, of a regular element
abbrev entry : Context → RunId → List Reply → Origin → Entry
entry context run one origin = record { context = context; run = run; one = one; two = []; regular = true; origin = origin }

abbrev reply : ℕ → Style → Answer → Reply
reply kid style answer = record { question = question kid style; answer = answer }

what_was_made_goes : (context : Context) (a b : RunId)
    → all_undone (entry context a [] Standing ∷ entry context b [] Made ∷ []) ≡ entry context a [] Standing ∷ []
what_was_made_goes context a b = refl

-- the second child was asked in another style, and answered something else
abbrev stood : Context → RunId → Style → Answer → Answer → Entry
stood context a old first was = entry context a (reply 0 old first ∷ reply 1 old was ∷ []) Standing

what_was_made_anew_is_what_it_was : (context : Context) (a b : RunId) (old new : Style) (first was now : Answer)
    → all_undone (remade (turned (stood context a old first was) 1 (reply 1 new now)) b 1 (reply 1 old was) ∷ [])
    ≡ stood context a old first was ∷ []
what_was_made_anew_is_what_it_was context a b old new first was now = refl

-- ---- touched

-- an element that is marked, and seen as before but for its third child
abbrev layer : Facts → List Entry → Memo-F Memo
layer facts entries = record { former = Some record { facts = facts; alike_but = Some 2 }; facts = facts; entries = entries; below = [] }

only_the_third : (facts : Facts) (context : Context) (a b : RunId) (style : Style) (was : Answer)
    → only_touched (layer facts (remade (entry context a [] Standing) b 2 (reply 2 style was) ∷ [])) ≡ Some 2
only_the_third facts context a b style was = refl

any_where_one_is_new : (facts : Facts) (context : Context) (a : RunId) → only_touched (layer facts (entry context a [] Made ∷ [])) ≡ None
any_where_one_is_new facts context a = refl

a_marked_one_is_not_calm : (facts : Facts) → is_calm (layer facts []) ≡ false
a_marked_one_is_not_calm facts = refl
