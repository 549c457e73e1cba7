-- What an element sees of its children before it asks them.
use Rattle.std.specs.Prelude.{Bool, true, false, not, ◌&&◌, codes, is_none}
use Rattle.std.specs.List.{list_all}
use Rattle.font_metrics.specs.Metrics.{MetricsValue}
use Rattle.embellished.specs.Fences.{fences_in}
use Rattle.embellished.specs.Seen.{Seen}
use Rattle.layout_model.specs.Contexts.{is_true}
use Rattle.layout_model.specs.Questions.{asking, kid_pulls}
use Rattle.layout_model.specs.declared.asking.Asking.{Asking}
use Rattle.layout_model.specs.declared.asking.Asking.TheVariants.{AsTable}
use Rattle.layout_model.specs.declared.context.Context.{Context}
use Rattle.child_questions.specs.declared.survey.Survey.{Survey}

-- how it asks them in a context, which of them are fences, along which axis each stretches, and
-- whether what stands over it and under it are accents
abbrev pub survey_of : MetricsValue → Seen → Context → Survey
survey_of m seen context = record {
  asking = asking m seen context;
  fences = fences_in seen.kids;
  pulls = kid_pulls m seen context;
  accent = is_true (codes "accent") seen.head.attributes;
  accentunder = is_true (codes "accentunder") seen.head.attributes;
}

abbrev pub is_as_table : Asking → Bool
is_as_table AsTable = true
is_as_table other = false

-- an element that isn't asked as a table, and of which no child stretches, has no second wave
abbrev pub has_one_wave : Survey → Bool
has_one_wave survey = not (is_as_table survey.asking)
    && list_all (λ pull. is_none pull.axis) survey.pulls
