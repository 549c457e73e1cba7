-- The answers of works, scripts, jobs and the two files, part by part.
use Rattle.std.proofs.Common.{◌≡◌, ◌⊎◌, inl, inr, ℕ, List, refl, ap, sym, ◌∙◌, subst, arith, Option, Some, None, IfSome}
use Rattle.std.specs.Prelude.{[], unwrap_or, Result, Ok, Err, IsSome, IsSomeAnd, IsOk, Bool, true, false, if◌then◌else◌}
use Rattle.std.specs.Option.{option_map}
use Rattle.std.specs.Io.KnownBytes.{prepend_known}
use Rattle.doc_io.specs.Causes.{Files, InputsTold, SinkTold}
use Rattle.doc_io.specs.LineReader.{ReaderValue}
use Rattle.fixed_units.specs.declared.refusal.LayRefusal.{LayRefusal}
use Rattle.fixed_units.specs.declared.refusal.LayRefusal.TheVariants as layout
use Rattle.font_metrics.specs.Metrics.{MetricsValue}
use Rattle.math_tree.specs.Trees.{TreeValue}
use Rattle.layout_model.specs.Layout.{is_tree_in_range}
use Rattle.line_replies.specs.Sessions.{SessionValue}
use Rattle.generator.specs.Generated.{generated}
use Rattle.seeded_edits.specs.Start.{start_tree}
use Rattle.seeded_edits.specs.Summary.{lines_of as lines_of_summary}
use Rattle.seeded_edits.specs.declared.summary.Summary.{Summary}
use Rattle.queries.specs.Queries.{IsCause, answer_to}
use Rattle.page_queries.specs.declared.query.Query.{Query}
use Rattle.page_queries.specs.declared.query.QueryRefusal.{QueryRefusal}
use Rattle.page_queries.specs.declared.query.QueryRefusal.TheVariants as refused_query
use Rattle.command_words.specs.Command.{Asked, Job, OverTree, Generates, Work, LaysOut, Edits, Checks, Asks, Remembers}
use Rattle.script_answers.specs.Texts.{Text, whole_text, answers_to}
use Rattle.commands.specs.Answer.{content, lines_of_page, answered, asked_of_page, of_answer, checked, laid_out, scripted, done, generates, told_of_edits, answer_over, answer_with, answer}
use Rattle.input_files.specs.Files.{metrics_in, tree_in, GivesOr}
use Rattle.line_replies.specs.Opening.{◌>>=◌, started}
use Rattle.input_files.specs.Refusals.{of_layout, of_query}
use Rattle.commands.specs.Ends.{LacksFile, IsCut, Answers, IsReachedNext, IsScript, start_of}
use Rattle.script_answers.specs.Responders.{Responder}
use Rattle.line_replies.specs.Replies.{by_session}
use Rattle.line_replies.specs.HistorySteps.{by_history, kept_at_first}
use Rattle.script_answers.specs.Lines.{AnswersLines, replies_left}
use Rattle.commands.specs.Parts.{LacksNext, LacksScript, LacksTree, OpensScript}
use Rattle.input_files.specs.declared.status.Status.{Status}
use Rattle.input_files.specs.declared.refusal.Refusal.{Refusal}
use Rattle.input_files.specs.declared.refusal.Refusal.TheVariants.{ReadFault, Range, Memory}
use Rattle.line_replies.proofs.Starting.{refused_start, session_over}
use Rattle.commands.proofs.TwoParts.{continued, cut_again, err_again, refused, without_files}

-- ---- work on a tree

-- no tree fails to be laid out for a read
started_no_fault : (metrics : MetricsValue) (tree : TreeValue) → started metrics tree ≡ Err ReadFault → ⊥
unfolding started
started_no_fault metrics tree h = by (is_tree_in_range metrics tree) h
  where
    by : (fits : Bool) → (if fits then Ok (session_over metrics tree) else Err Range) ≡ Err ReadFault → ⊥
    by true h = cc
    by false h = cc

told_no_fault : (said : Result SessionValue Refusal) (text : SessionValue → List ℕ) → ¬ (said ≡ Err ReadFault)
    → (said >>= λ session. Ok (whole_text (text session))) ≡ Err ReadFault → ⊥
told_no_fault (Ok session) text own h = cc
told_no_fault (Err refusal) text own h = own (err_again {A = Text} {B = SessionValue} refusal ReadFault h)

abbrev DoneAnswer : Work → MetricsValue → TreeValue → InputsTold → InputsTold → Result Text Refusal → Type 0
DoneAnswer work metrics tree before after result =
    Answers (option_map (done work metrics tree) before.files) (LacksScript work metrics tree) before after result

module _ (metrics : MetricsValue) (tree : TreeValue) (seen : InputsTold) (result : Result Text Refusal) where
  pub laid_out_answers : GivesOr (laid_out metrics tree) result → DoneAnswer LaysOut metrics tree seen seen result
  unfolding done
  laid_out_answers gives =
      without_files (laid_out metrics tree) result seen
      (told_no_fault (started metrics tree) lines_of_page (started_no_fault metrics tree)) gives

  pub checked_answers : GivesOr (Ok (whole_text (checked metrics tree))) result → DoneAnswer Checks metrics tree seen seen result
  unfolding done
  checked_answers gives = without_files (Ok (whole_text (checked metrics tree))) result seen (λ e. cc) gives

-- ---- a query, over a session

-- no query fails for a read
answered_no_fault : (said : Result (List ℕ) QueryRefusal) → of_answer said ≡ Err ReadFault → ⊥
answered_no_fault (Ok bytes) h = cc
answered_no_fault (Err (refused_query.NoNode id)) h = cc
answered_no_fault (Err refused_query.TooMany) h = cc
answered_no_fault (Err refused_query.Memory) h = cc

asked_no_fault : (query : Query) (said : Result SessionValue Refusal) → ¬ (said ≡ Err ReadFault) → (said >>= λ session. answered query session) ≡ Err ReadFault → ⊥
asked_no_fault query (Ok session) own h = answered_no_fault (answer_to query session) h
asked_no_fault query (Err refusal) own h = own (err_again {A = Text} {B = SessionValue} refusal ReadFault h)

-- why there is no answer, or want of memory
pub not_answered : (r : QueryRefusal) (said : Result (List ℕ) QueryRefusal) → IsCause said r → GivesOr (of_answer said) (Err (of_query r))
not_answered (refused_query.NoNode id) said is = inr (sym (ap of_answer is))
not_answered refused_query.TooMany said is = inr (sym (ap of_answer is))
not_answered refused_query.Memory said is = inl refl

pub asked_answers : (query : Query) (metrics : MetricsValue) (tree : TreeValue) (seen : InputsTold) (result : Result Text Refusal)
    → GivesOr (asked_of_page query metrics tree) result → DoneAnswer (Asks query) metrics tree seen seen result
unfolding done
asked_answers query metrics tree seen result gives =
    without_files (asked_of_page query metrics tree) result seen
    (asked_no_fault query (started metrics tree) (started_no_fault metrics tree)) gives

-- what the session answers is what the page of the tree answers, where there is a session
pub asked_over : (query : Query) (metrics : MetricsValue) (tree : TreeValue) (session : SessionValue) (result : Result Text Refusal)
    → started metrics tree ≡ Ok session → GivesOr (answered query session) result → GivesOr (asked_of_page query metrics tree) result
asked_over query metrics tree session result is (inl memory) = inl memory
asked_over query metrics tree session result is (inr same) = inr (same ∙ sym (ap (λ said. said >>= λ s. answered query s) is))

-- and nothing, where there is none
pub not_asked : (query : Query) (metrics : MetricsValue) (tree : TreeValue) (r : Refusal) → GivesOr (started metrics tree) (Err r)
    → GivesOr (asked_of_page query metrics tree) (Err r)
not_asked query metrics tree r (inl memory) = inl (err_again r Memory memory)
not_asked query metrics tree r (inr same) = inr (ap (λ said. said >>= λ s. answered query s) same)

-- ---- the script, by what answers it

abbrev ScriptedAnswer : (R : Responder) → List ℕ → R.Known → InputsTold → InputsTold → Result Text Refusal → Type 0
ScriptedAnswer R name known before after result =
    Answers (option_map (scripted R name known) before.files) (λ f. f name ≡ None) before after result

module _ (R : Responder) (name : List ℕ) (known : R.Known) (before : InputsTold) where
  -- a file that isn't there wasn't selected
  there : (files : Option Files) (rest : Option (List ℕ)) → IfSome files (λ f. IsSome (f name) × (rest ≡ f name))
      → IsSomeAnd files (λ f. f name ≡ None) → ⊥
  there None rest found away = away
  there (Some f) rest found away = let e = subst IsSome away found.0 in cc

  pub without_script : (after : InputsTold) (r : Refusal) → OpensScript before after name (Err r)
      → ScriptedAnswer R name known before after (Err r)
  without_script after r o = record {
    answer = by before.files;
    fault = λ is. o.selects.fault (err_again r ReadFault is);
    lacking = λ away. cut;
    files = o.selects.files;
    faults = o.selects.faults;
    missing = o.selects.missing;
  }
    where
      cut : IsCut {V = Text} (Err r)
      cut = cut_again r o.selects.cut

      by : (files : Option Files) → IfSome (option_map (scripted R name known) files) (λ w. IsCut {V = Text} (Err r) ⊎ (Err r ≡ w))
      by None = tt
      by (Some f) = inl cut

  pub with_script : (mid after : InputsTold) (old new : SinkTold) (status : Status) (reader : ReaderValue) → OpensScript before mid name (Ok reader)
      → (a : AnswersLines R known reader mid after old new status) → ScriptedAnswer R name known before after (Ok a.text)
  with_script mid after old new status reader o a = record {
    answer = by before.files o.selects.found;
    fault = λ is. absurd (let e = is in cc);
    lacking = λ away. absurd (there before.files mid.rest o.selects.found away);
    files = a.files ∙ o.selects.files;
    faults = omega (arith, o.selects.faults, a.faults);
    missing = omega (arith, o.selects.missing, a.missing);
  }
    where
      wanted : IfSome (replies_left R known (record { held = []; line = []; given = 0 }) mid) (λ replies. a.text ≡ replies)
      wanted = subst (λ r. IfSome (replies_left R known r mid) (λ replies. a.text ≡ replies)) o.fresh a.wanted

      of_file : (file rest : Option (List ℕ)) → IsSome file → rest ≡ file
          → IfSome (option_map (λ bytes. answers_to R known bytes) (prepend_known [] rest)) (λ replies. a.text ≡ replies)
          → a.text ≡ answers_to R known (unwrap_or file [])
      of_file None rest some is h = absurd (let e = some in cc)
      of_file (Some bytes) None some is h = absurd cc
      of_file (Some bytes) (Some left) some is h = let same : left ≡ bytes = cc in h ∙ ap (answers_to R known) same

      by : (files : Option Files) → IfSome files (λ f. IsSome (f name) × (mid.rest ≡ f name))
          → IfSome (option_map (scripted R name known) files) (λ w. IsCut {V = Text} (Ok a.text) ⊎ (Ok a.text ≡ w))
      by None found = tt
      by (Some f) found = inr (ap Ok (of_file (f name) mid.rest found.0 found.1 wanted))

-- ---- the session of a tree, and then a script

abbrev Started : MetricsValue → TreeValue → InputsTold → Result SessionValue Refusal → Type 0
Started metrics tree seen result = Answers (option_map (λ f. started metrics tree) seen.files) (λ f. ⊥) seen seen result

ok_value : {A : Type 0} (said : Result A Refusal) → IsOk said → (value : A) × (said ≡ Ok value)
ok_value (Ok value) h = (value, refl)
ok_value (Err r) h = absurd (let e = h in cc)

-- which begins with what is known of the session
module _ (R : Responder) (first : SessionValue → R.Known) (name : List ℕ) (metrics : MetricsValue) (tree : TreeValue) (before : InputsTold) where
  abbrev Lacks : Files → Type 0
  Lacks f = IsOk (started metrics tree) × (f name ≡ None)

  abbrev wanted : Files → Result Text Refusal
  wanted f = started metrics tree >>= λ session. scripted R name (first session) f

  which_script : (f : Files) → Lacks f → ⊥ ⊎ ((session : SessionValue) × (started metrics tree ≡ Ok session) × (f name ≡ None))
  which_script f lack = let is = ok_value (started metrics tree) lack.0 in inr (is.0, is.1, lack.1)

  pub without_session : (r : Refusal) → GivesOr (started metrics tree) (Err r)
      → Answers (option_map wanted before.files) Lacks before before (Err r)
  without_session r gives =
      refused (λ f. started metrics tree) (λ session f. scripted R name (first session) f) (λ f. ⊥) (λ session f. f name ≡ None) Lacks
      which_script before before r (λ f lack. absurd lack)
      (without_files (started metrics tree) (Err r) before (started_no_fault metrics tree) gives)

  pub with_session : (after : InputsTold) (session : SessionValue) (known : R.Known) (result : Result Text Refusal)
      → GivesOr (started metrics tree) (Ok session) → known ≡ first session → ScriptedAnswer R name known before after result
      → Answers (option_map wanted before.files) Lacks before after result
  with_session after session known result gives begun b =
      continued (λ f. started metrics tree) (λ session f. scripted R name (first session) f) (λ f. ⊥) (λ session f. f name ≡ None) Lacks
      which_script before before after session result (λ f is lack. (subst IsOk (sym is) refl, lack))
      (without_files (started metrics tree) (Ok session) before (started_no_fault metrics tree) gives)
      (subst (λ k. ScriptedAnswer R name k before after result) begun b)

-- of a session itself, and of one whose edits can be undone
pub edited_answers : (name : List ℕ) (metrics : MetricsValue) (tree : TreeValue) (before after : InputsTold) (result : Result Text Refusal)
    → Answers (option_map (wanted by_session (λ session. session) name metrics tree before) before.files)
    (Lacks by_session (λ session. session) name metrics tree before) before after result
    → DoneAnswer (Edits name) metrics tree before after result
unfolding done
edited_answers name metrics tree before after result a = a

pub remembered_answers : (depth : ℕ) (name : List ℕ) (metrics : MetricsValue) (tree : TreeValue) (before after : InputsTold) (result : Result Text Refusal)
    → Answers (option_map (wanted by_history (kept_at_first depth) name metrics tree before) before.files)
    (Lacks by_history (kept_at_first depth) name metrics tree before) before after result
    → DoneAnswer (Remembers depth name) metrics tree before after result
unfolding done
remembered_answers depth name metrics tree before after result a = a

-- ---- the tree file, over metrics

abbrev TreeAnswer : List ℕ → InputsTold → InputsTold → Result TreeValue Refusal → Type 0
TreeAnswer name before after result =
    Answers (option_map (λ f. tree_in (content f name)) before.files) (λ f. f name ≡ None) before after result

abbrev OverAnswer : Work → MetricsValue → List ℕ → InputsTold → InputsTold → Result Text Refusal → Type 0
OverAnswer work metrics name before after result =
    Answers (option_map (answer_over work metrics name) before.files) (LacksTree work metrics name) before after result

module _ (work : Work) (metrics : MetricsValue) (name : List ℕ) (before mid : InputsTold) where
  pub without_tree : (r : Refusal) → TreeAnswer name before mid (Err r) → OverAnswer work metrics name before mid (Err r)
  unfolding answer_over
  without_tree r a =
      refused (λ f. tree_in (content f name)) (done work metrics) (λ f. f name ≡ None) (LacksScript work metrics) (LacksTree work metrics name)
      (λ f lack. lack) before mid r (λ f lack. inl lack) a

  pub with_tree : (after : InputsTold) (tree : TreeValue) (result : Result Text Refusal) → TreeAnswer name before mid (Ok tree)
      → DoneAnswer work metrics tree mid after result → OverAnswer work metrics name before after result
  unfolding answer_over
  with_tree after tree result a b =
      continued (λ f. tree_in (content f name)) (done work metrics) (λ f. f name ≡ None) (LacksScript work metrics) (LacksTree work metrics name)
      (λ f lack. lack) before mid after tree result (λ f is lack. inr (tree, is, lack)) a b

-- ---- a job, over metrics

abbrev NextAnswer : Job → MetricsValue → InputsTold → InputsTold → Result Text Refusal → Type 0
NextAnswer job metrics before after result =
    Answers (option_map (answer_with job metrics) before.files) (LacksNext job metrics) before after result

pub over_tree_answers : (work : Work) (name : List ℕ) (metrics : MetricsValue) (before after : InputsTold) (result : Result Text Refusal)
    → OverAnswer work metrics name before after result → NextAnswer (OverTree work name) metrics before after result
unfolding answer_with
over_tree_answers work name metrics before after result answers = answers

pub generated_answers : (metrics : MetricsValue) (seed count : ℕ) (seen : InputsTold) (result : Result Text Refusal)
    → GivesOr (generates metrics seed count) result → NextAnswer (Generates seed count) metrics seen seen result
unfolding answer_with
generated_answers metrics seed count seen result gives =
    without_files (generates metrics seed count) result seen
    (told_no_fault (started metrics start_tree) (λ session. told_of_edits session.metrics seed count) (started_no_fault metrics start_tree)) gives

-- ---- the metrics file, then the job

abbrev MetricsAnswer : Asked → InputsTold → InputsTold → Result MetricsValue Refusal → Type 0
MetricsAnswer asked before after result =
    Answers (option_map (λ f. metrics_in (content f asked.metrics)) before.files) (λ f. f asked.metrics ≡ None) before after result

abbrev WholeAnswer : Asked → InputsTold → InputsTold → Result Text Refusal → Type 0
WholeAnswer asked before after result =
    Answers (option_map (answer asked) before.files) (LacksFile (Some asked)) before after result

-- what the first two files give, where they give a session
started_by : (metrics : Result MetricsValue Refusal) (tree : Result TreeValue Refusal)
    → IsOk (metrics >>= λ m. tree >>= λ t. started m t)
    → (m : MetricsValue) × (metrics ≡ Ok m) × (t : TreeValue) × (tree ≡ Ok t) × IsOk (started m t)
started_by (Ok m) (Ok t) h = (m, refl, t, refl, h)
started_by (Ok m) (Err r) h = absurd (let e = h in cc)
started_by (Err r) tree h = absurd (let e = h in cc)

-- a script that isn't there, where the two files give a session
script_lacks : (work : Work) (name : List ℕ) (metrics : MetricsValue) (tree : TreeValue) (f : Files) → IsScript work name
    → f name ≡ None → IsOk (started metrics tree) → LacksScript work metrics tree f
script_lacks LaysOut name metrics tree f named away is = absurd named
script_lacks (Edits script) name metrics tree f named away is = (is, subst (λ n. f n ≡ None) named away)
script_lacks Checks name metrics tree f named away is = absurd named
script_lacks (Asks query) name metrics tree f named away is = absurd named
script_lacks (Remembers depth script) name metrics tree f named away is = (is, subst (λ n. f n ≡ None) named away)

-- which file isn't there behind the metrics file
which_next : (job : Job) (file : List ℕ) (f : Files) (name : List ℕ) → IsReachedNext job file f name → f name ≡ None
    → (metrics : MetricsValue) × (metrics_in (content f file) ≡ Ok metrics) × LacksNext job metrics f
which_next (OverTree work tree) file f name (inl reached) away =
    let is = ok_value (metrics_in (content f file)) reached.1 in
    (is.0, is.1, inl (subst (λ n. f n ≡ None) reached.0 away))
which_next (OverTree work tree) file f name (inr reached) away =
    let is = started_by (metrics_in (content f file)) (tree_in (content f tree)) reached.1 in
    (is.0, is.1, inr (is.2, is.3, script_lacks work name is.0 is.2 f reached.0 away is.4))
which_next (Generates seed count) file f name reached away = absurd reached

-- which file isn't there
which_file : (asked : Asked) (f : Files) → LacksFile (Some asked) f
    → (f asked.metrics ≡ None)
    ⊎ ((metrics : MetricsValue) × (metrics_in (content f asked.metrics) ≡ Ok metrics) × LacksNext asked.job metrics f)
which_file asked f (name, inl named, away) = inl (subst (λ n. f n ≡ None) named away)
which_file asked f (name, inr reached, away) = inr (which_next asked.job asked.metrics f name reached away)

-- the name of a script that isn't there
lacked_script : (work : Work) (metrics : MetricsValue) (tree : TreeValue) (f : Files) → LacksScript work metrics tree f
    → (name : List ℕ) × IsScript work name × (f name ≡ None) × IsOk (started metrics tree)
lacked_script LaysOut metrics tree f lack = absurd lack
lacked_script (Edits script) metrics tree f lack = (script, refl, lack.1, lack.0)
lacked_script Checks metrics tree f lack = absurd lack
lacked_script (Asks query) metrics tree f lack = absurd lack
lacked_script (Remembers depth script) metrics tree f lack = (script, refl, lack.1, lack.0)

lacked_next : (job : Job) (file : List ℕ) (f : Files) (metrics : MetricsValue) → metrics_in (content f file) ≡ Ok metrics
    → LacksNext job metrics f → (name : List ℕ) × IsReachedNext job file f name × (f name ≡ None)
lacked_next (OverTree work tree) file f metrics is (inl away) = (tree, inl (refl, subst IsOk (sym is) refl), away)
lacked_next (OverTree work tree) file f metrics is (inr (value, read, lack)) =
    let script = lacked_script work metrics value f lack in
    let start : start_of file tree f ≡ started metrics value =
    ap (λ x. x >>= λ m. tree_in (content f tree) >>= λ t. started m t) is
    ∙ ap (λ x. x >>= λ t. started metrics t) read in
    (script.0, inr (script.1, subst IsOk (sym start) script.3), script.2)
lacked_next (Generates seed count) file f metrics is lack = absurd lack

lacked_file : (asked : Asked) (f : Files) (metrics : MetricsValue) → metrics_in (content f asked.metrics) ≡ Ok metrics
    → LacksNext asked.job metrics f → LacksFile (Some asked) f
lacked_file asked f metrics is lack =
    let next = lacked_next asked.job asked.metrics f metrics is lack in (next.0, inr next.1, next.2)

module _ (asked : Asked) (before mid : InputsTold) where
  pub without_metrics : (r : Refusal) → MetricsAnswer asked before mid (Err r) → WholeAnswer asked before mid (Err r)
  unfolding answer
  without_metrics r a =
      refused (λ f. metrics_in (content f asked.metrics)) (λ metrics f. answer_with asked.job metrics f)
      (λ f. f asked.metrics ≡ None) (LacksNext asked.job) (LacksFile (Some asked)) (which_file asked) before mid r
      (λ f lack. (asked.metrics, inl refl, lack)) a

  pub with_metrics : (after : InputsTold) (metrics : MetricsValue) (result : Result Text Refusal) → MetricsAnswer asked before mid (Ok metrics)
      → NextAnswer asked.job metrics mid after result → WholeAnswer asked before after result
  unfolding answer
  with_metrics after metrics result a b =
      continued (λ f. metrics_in (content f asked.metrics)) (λ metrics f. answer_with asked.job metrics f)
      (λ f. f asked.metrics ≡ None) (LacksNext asked.job) (LacksFile (Some asked)) (which_file asked) before mid after metrics result
      (λ f is lack. lacked_file asked f metrics is lack) a b

-- ---- the definition, by what the metrics file gives

pub refused_by_metrics : (asked : Asked) (f : Files) (r : Refusal) → metrics_in (content f asked.metrics) ≡ Err r → answer asked f ≡ Err r
unfolding answer
refused_by_metrics asked f r h = ap (λ x. x >>= λ metrics. answer_with asked.job metrics f) h

-- ---- the session of a tree

-- a session that was started, and what is made of it
pub laid_out_of : (metrics : MetricsValue) (tree : TreeValue) (session : SessionValue) (result : Result Text Refusal)
    → GivesOr (started metrics tree) (Ok session) → GivesOr (Ok (whole_text (lines_of_page session))) result → GivesOr (laid_out metrics tree) result
laid_out_of metrics tree session result (inl memory) next = absurd (let e = memory in cc)
laid_out_of metrics tree session result (inr same) (inl memory) = inl memory
laid_out_of metrics tree session result (inr same) (inr is) = inr (is ∙ ap (λ x. x >>= λ s. Ok (whole_text (lines_of_page s))) same)

-- none was started, for this
pub not_laid_out : (metrics : MetricsValue) (tree : TreeValue) (r : Refusal) → GivesOr (started metrics tree) (Err r) → GivesOr (laid_out metrics tree) (Err r)
not_laid_out metrics tree r (inl memory) = inl (err_again r Memory memory)
not_laid_out metrics tree r (inr same) = inr (ap (λ x. x >>= λ s. Ok (whole_text (lines_of_page s))) same)

-- ---- edits that are drawn

-- what is made of what came of them, where the tree that they begin with can be laid out
pub generates_told : (metrics : MetricsValue) (seed count : ℕ) (told : Summary) (result : Result Text Refusal)
    → is_tree_in_range metrics start_tree ≡ true → told ≡ generated metrics seed count
    → GivesOr (Ok (whole_text (lines_of_summary told))) result → GivesOr (generates metrics seed count) result
unfolding started
generates_told metrics seed count told result fit is (inl memory) = inl memory
generates_told metrics seed count told result fit is (inr same) =
    inr (same
    ∙ ap (λ (t : Summary). Ok (whole_text (lines_of_summary t))) is
    ∙ sym (ap (λ (fits : Bool). (if fits then Ok (session_over metrics start_tree) else Err Range) >>= λ session. Ok (whole_text (told_of_edits session.metrics seed count))) fit))

-- none are made, for this
pub not_generated : (refused : LayRefusal) (metrics : MetricsValue) (seed count : ℕ) → (refused ≡ layout.Range → is_tree_in_range metrics start_tree ≡ false)
    → GivesOr (generates metrics seed count) (Err (of_layout refused))
not_generated refused metrics seed count range = elim (refused_start refused metrics start_tree range) [
  | inl memory ↦ inl (err_again (of_layout refused) Memory memory)
  | inr same ↦ inr (ap (λ x. x >>= λ session. Ok (whole_text (told_of_edits session.metrics seed count))) same)
]
