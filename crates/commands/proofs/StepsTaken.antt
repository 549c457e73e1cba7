-- The steps of the lines of a file, and of what stands before them.
use Rattle.std.proofs.Common.{◌≡◌, ◌⊎◌, inl, inr, ◌∙◌, ap, sym, refl, subst, ℕ, List, [], take, Option, Some, None, IfSome}
use Rattle.std.specs.Prelude.{Result, Ok, Err, IsSome, unwrap_or}
use Rattle.std.specs.Option.{option_map}
use Rattle.std.specs.Io.KnownBytes.{prepend_known}
use Rattle.doc_io.specs.Causes.{Files, InputsTold}
use Rattle.doc_io.specs.LineReader.{ReaderValue, lines_of, most_lines}
use Rattle.font_metrics.specs.Metrics.{MetricsValue}
use Rattle.math_tree.specs.Trees.{TreeValue}
use Rattle.line_replies.specs.Sessions.{SessionValue, TakesVisits}
use Rattle.command_words.specs.Command.{Asked, Work}
use Rattle.commands.specs.Answer.{content}
use Rattle.input_files.specs.Files.{metrics_in, tree_in}
use Rattle.line_replies.specs.Opening.{started}
use Rattle.commands.specs.Ends.{Answers, IsCut}
use Rattle.commands.specs.Parts.{OpensScript}
use Rattle.script_answers.specs.Responders.{LineSteps, Responder}
use Rattle.script_answers.specs.Script.{within}
use Rattle.script_answers.specs.Steps.{TakesForScript, lines_left}
use Rattle.commands.specs.Steps.{TakesBehindStart, TakesForEdits, TakesForJob, TakesForRun, TakesForWork, TakesOverMetrics, script_lines}
use Rattle.input_files.specs.declared.refusal.Refusal.{Refusal}
use Rattle.commands.proofs.TwoParts.{ok_is_not_cut}
use Rattle.script_answers.proofs.StepsTaken.{Front, for_no_lines}

-- the lines that are left to a new reader of a file are those of the file
pub for_file : (R : Responder) (Takes : LineSteps R) (known : R.Known) (name : List ℕ) (before mid : InputsTold) (reader : ReaderValue) (from to : ℕ)
    → OpensScript before mid name (Ok reader) → TakesForScript R Takes known (lines_left reader mid) from to
    → TakesForScript R Takes known (script_lines name before.files) from to
for_file R Takes known name before mid reader from to o t = record {
  lines = t.lines;
  front = by before.files o.selects.found;
  steps = t.steps;
}
  where
    left : Front t.lines (lines_left (record { held = []; line = []; given = 0 }) mid)
    left = subst (λ r. Front t.lines (lines_left r mid)) o.fresh t.front

    of_file : (file rest : Option (List ℕ)) → IsSome file → rest ≡ file
        → Front t.lines (option_map (λ bytes. within most_lines (lines_of bytes)) (prepend_known [] rest))
        → (n : ℕ) × (t.lines ≡ take n (within most_lines (lines_of (unwrap_or file []))))
    of_file None rest some is h = absurd (let e = some in cc)
    of_file (Some bytes) None some is h = absurd cc
    of_file (Some bytes) (Some left) some is h =
        let same : left ≡ bytes = cc in (h.0, h.1 ∙ ap (λ bs. take h.0 (within most_lines (lines_of bs))) same)

    by : (files : Option Files) → IfSome files (λ f. IsSome (f name) × (mid.rest ≡ f name)) → Front t.lines (script_lines name files)
    by None found = tt
    by (Some f) found = of_file (f name) mid.rest found.0 found.1 left

-- ---- behind the first layout

-- it is refused
pub for_no_session : (R : Responder) (Takes : LineSteps R) (first : SessionValue → R.Known) (metrics : MetricsValue) (tree : TreeValue)
    (script : Option (List (List ℕ))) (from to : ℕ) → TakesVisits metrics tree from to → TakesForEdits R Takes first metrics tree script from to
for_no_session R Takes first metrics tree script from to visits = record { laid = to; start = visits; lines = by (started metrics tree) }
  where
    by : (said : Result SessionValue Refusal) → TakesBehindStart R Takes first said script to to
    by (Ok session) = for_no_lines R Takes (first session) script to to refl
    by (Err refusal) = refl

pub for_session : (R : Responder) (Takes : LineSteps R) (first : SessionValue → R.Known) (metrics : MetricsValue) (tree : TreeValue) (session : SessionValue)
    (known : R.Known) (script : Option (List (List ℕ))) (from laid to : ℕ) → started metrics tree ≡ Ok session → known ≡ first session
    → TakesVisits metrics tree from laid → TakesForScript R Takes known script laid to → TakesForEdits R Takes first metrics tree script from to
for_session R Takes first metrics tree session known script from laid to is begun visits lines = record {
  laid = laid;
  start = visits;
  lines = subst (λ said. TakesBehindStart R Takes first said script laid to) (sym is) (subst (λ k. TakesForScript R Takes k script laid to) begun lines);
}

-- ---- files that are read

-- what a part gave is what the files say, where they are told
pub read_as : {V : Type 0} (first : Files → Result V Refusal) (lacks : Files → Type 0) (before mid : InputsTold) (value : V)
    → Answers (option_map first before.files) lacks before mid (Ok value) → IfSome before.files (λ f. first f ≡ Ok value)
read_as first lacks before mid value a = by before.files a.answer
  where
    by : (files : Option Files) → IfSome (option_map first files) (λ w. IsCut (Ok value) ⊎ (Ok value ≡ w)) → IfSome files (λ f. first f ≡ Ok value)
    by None h = tt
    by (Some f) (inl cut) = absurd (ok_is_not_cut value cut)
    by (Some f) (inr same) = sym same

-- a tree was read
pub for_tree : (work : Work) (metrics : MetricsValue) (name : List ℕ) (before mid : InputsTold) (tree : TreeValue) (from to : ℕ)
    → Answers (option_map (λ files. tree_in (content files name)) before.files) (λ files. files name ≡ None) before mid (Ok tree)
    → TakesForWork work metrics tree mid.files from to → TakesOverMetrics work metrics name before.files from to
for_tree work metrics name before mid tree from to a steps = inr (record {
  tree = tree;
  is = read_as (λ files. tree_in (content files name)) (λ files. files name ≡ None) before mid tree a;
  steps = subst (λ files. TakesForWork work metrics tree files from to) a.files steps;
})

-- and metrics
pub for_metrics : (asked : Asked) (before mid : InputsTold) (metrics : MetricsValue) (from to : ℕ)
    → Answers (option_map (λ files. metrics_in (content files asked.metrics)) before.files) (λ files. files asked.metrics ≡ None) before mid (Ok metrics)
    → TakesForJob asked.job metrics mid.files from to → TakesForRun (Some asked) before.files from to
for_metrics asked before mid metrics from to a steps = inr (record {
  metrics = metrics;
  is = read_as (λ files. metrics_in (content files asked.metrics)) (λ files. files asked.metrics ≡ None) before mid metrics a;
  steps = subst (λ files. TakesForJob asked.job metrics files from to) a.files steps;
})
