-- How the answer and its delivery make the ending of a run.
use Rattle.std.proofs.Common.{◌≡◌, ◌⊎◌, inl, inr, ℕ, zero, suc, ◌≤◌, List, ◌∷◌, take, refl, ap, sym, ◌∙◌, subst, Option, Some, None, IfSome, arith}
use Rattle.std.specs.Prelude.{Bool, true, false, [], Result, Ok, Err, IsErrOf, IsSomeAnd, IsNone}
use Rattle.std.specs.Option.{option_map}
use Rattle.std.specs.List.{concat}
use Rattle.std.specs.Io.KnownBytes.{Appends, IsAtEnd, Keeps}
use Rattle.doc_io.specs.Causes.{Files, InputsTold, Rose, SinkTold}
use Rattle.doc_io.proofs.Known.{appends_kept, kept_of_nothing}
use Rattle.command_words.specs.Command.{Asked, usage_line}
use Rattle.input_files.specs.Refusals.{status_of}
use Rattle.script_answers.specs.Texts.{Text, status_of_end}
use Rattle.commands.specs.Answer.{answer, Output, output_of, output, parts_of}
use Rattle.script_answers.specs.Delivering.{Delivers, Breaks}
use Rattle.commands.specs.Ends.{LacksFile, HasReadCause, IsCut, IsCutShort, IsDelivered, IsJobInParts, Answers, AnsweredJob, Ends}
use Rattle.input_files.specs.declared.status.Status.{Status}
use Rattle.input_files.specs.declared.status.Status.TheVariants as status
use Rattle.input_files.specs.declared.refusal.Refusal.{Refusal}
use Rattle.input_files.specs.declared.refusal.Refusal.TheVariants.{MetricsLong, Metrics, TreeLong, TreeJson, Tree, Range, NoNode, PaintMany, ReadFault, Memory}

-- the status tells a failed read and want of memory
is_read_fault : (refusal : Refusal) → status_of refusal ≡ status.ReadFault → refusal ≡ ReadFault
is_read_fault MetricsLong e = cc
is_read_fault (Metrics fault) e = cc
is_read_fault TreeLong e = cc
is_read_fault TreeJson e = cc
is_read_fault (Tree fault) e = cc
is_read_fault Range e = cc
is_read_fault (NoNode id) e = cc
is_read_fault PaintMany e = cc
is_read_fault ReadFault e = refl
is_read_fault Memory e = cc

is_memory : (refusal : Refusal) → status_of refusal ≡ status.Memory → refusal ≡ Memory
is_memory MetricsLong e = cc
is_memory (Metrics fault) e = cc
is_memory TreeLong e = cc
is_memory TreeJson e = cc
is_memory (Tree fault) e = cc
is_memory Range e = cc
is_memory (NoNode id) e = cc
is_memory PaintMany e = cc
is_memory ReadFault e = cc
is_memory Memory e = refl

-- no refusal's status is that of words which are no command
not_usage : (refusal : Refusal) → status_of refusal ≡ status.Usage → ⊥
not_usage MetricsLong e = cc
not_usage (Metrics fault) e = cc
not_usage TreeLong e = cc
not_usage TreeJson e = cc
not_usage (Tree fault) e = cc
not_usage Range e = cc
not_usage (NoNode id) e = cc
not_usage PaintMany e = cc
not_usage ReadFault e = cc
not_usage Memory e = cc

-- no refusal's own status is that of a failed write
pub not_write_fault : (refusal : Refusal) → status_of refusal ≡ status.WriteFault → ⊥
not_write_fault MetricsLong e = cc
not_write_fault (Metrics fault) e = cc
not_write_fault TreeLong e = cc
not_write_fault TreeJson e = cc
not_write_fault (Tree fault) e = cc
not_write_fault Range e = cc
not_write_fault (NoNode id) e = cc
not_write_fault PaintMany e = cc
not_write_fault ReadFault e = cc
not_write_fault Memory e = cc

-- the status of a text is one of two
end_not : (whole : Bool) (s : Status) → ¬ (s ≡ status.Done) → ¬ (s ≡ status.ScriptLimit) → ¬ (status_of_end whole ≡ s)
end_not true s done limit e = done (sym e)
end_not false s done limit e = limit (sym e)

-- nor is it that of work which was done
not_done : (refusal : Refusal) → status_of refusal ≡ status.Done → ⊥
not_done MetricsLong e = cc
not_done (Metrics fault) e = cc
not_done TreeLong e = cc
not_done TreeJson e = cc
not_done (Tree fault) e = cc
not_done Range e = cc
not_done (NoNode id) e = cc
not_done PaintMany e = cc
not_done ReadFault e = cc
not_done Memory e = cc

-- a refusal that was told
pub told_not_done : (refusal : Refusal) (text : List ℕ) (old new : SinkTold) (s : Status) → Delivers text (status_of refusal) old new s
    → s ≡ status.Done → ⊥
told_not_done refusal text old new s d is = elim d.whole [ inl w ↦ absurd cc | inr e ↦ not_done refusal (sym e.0 ∙ is) ]

-- an answer as it is delivered
abbrev DeliversAnswer : Result Text Refusal → SinkTold → SinkTold → Status → Type 0
DeliversAnswer result old new s = Delivers (output_of result).bytes (output_of result).status old new s

abbrev BreaksOff : Result Text Refusal → InputsTold → InputsTold → SinkTold → SinkTold → Status → Type 0
BreaksOff result before after old new s = Breaks (output_of result).bytes (parts_of result) before after old new s

-- the status of what was cut short on the way
cut_status : (text : List ℕ) (parts : List (List ℕ)) (before after : InputsTold) (old new : SinkTold) (s : Status) → Breaks text parts before after old new s
    → (s ≡ status.ReadFault) ⊎ (s ≡ status.Memory)
cut_status text parts before after old new s b = elim b.cause [ inl memory ↦ inr memory | inr read ↦ inl read.0 ]

cut_not : (wanted s : Status) → ¬ (status.ReadFault ≡ wanted) → ¬ (status.Memory ≡ wanted) → (s ≡ status.ReadFault) ⊎ (s ≡ status.Memory)
    → s ≡ wanted → ⊥
cut_not wanted s read memory (inl is) e = read (sym is ∙ e)
cut_not wanted s read memory (inr is) e = memory (sym is ∙ e)

cut_short : (s : Status) → (s ≡ status.ReadFault) ⊎ (s ≡ status.Memory) → IsCutShort s
cut_short s (inl read) = inl read
cut_short s (inr memory) = inr (inr memory)

-- a run that was cut short wrote nothing, and its status says why
cut_ends : (result : Result Text Refusal) (old new : SinkTold) (s : Status) → IsCut result → DeliversAnswer result old new s
    → ((s ≡ status.ReadFault) ⊎ (s ≡ status.Memory)) × Keeps old.written new.written
cut_ends result old new s (inl fault) d =
    let end = (subst (λ r. DeliversAnswer r old new s) fault d).silent refl in (inl end.0, end.1)
cut_ends result old new s (inr memory) d =
    let end = (subst (λ r. DeliversAnswer r old new s) memory d).silent refl in (inr end.0, end.1)

no_front : (n : ℕ) (text : List ℕ) → text ≡ [] → take n text ≡ []
no_front zero text none = refl
no_front (suc n) [] none = refl
no_front (suc n) (b ∷ bs) none = absurd cc

-- of no text nothing was written
nothing_of : (text : List ℕ) (parts : List (List ℕ)) (before after : InputsTold) (old new : SinkTold) (s : Status) → text ≡ [] → Breaks text parts before after old new s
    → Keeps old.written new.written
nothing_of text parts before after old new s none out =
    kept_of_nothing old.written new.written (subst (Appends old.written new.written) (no_front out.front.0 text none) out.front.1)

cut_breaks : (result : Result Text Refusal) (before after : InputsTold) (old new : SinkTold) (s : Status) → IsCut result
    → BreaksOff result before after old new s → Keeps old.written new.written
cut_breaks result before after old new s (inl fault) out = nothing_of _ _ before after old new s (ap (λ r. (output_of r).bytes) fault) out
cut_breaks result before after old new s (inr memory) out = nothing_of _ _ before after old new s (ap (λ r. (output_of r).bytes) memory) out

told_fault : (result : Result Text Refusal) (old new : SinkTold) (s : Status) → DeliversAnswer result old new s
    → s ≡ status.ReadFault → IsErrOf result ReadFault
told_fault (Ok text) old new s d is = elim d.whole [
  | inl w ↦ absurd cc
  | inr e ↦ absurd (end_not text.whole s (λ f. cc) (λ f. cc) (sym e.0))
]
told_fault (Err r) old new s d is = elim d.whole [ inl w ↦ absurd cc | inr e ↦ ap Err (is_read_fault r (sym e.0 ∙ is)) ]

never_usage : (result : Result Text Refusal) (old new : SinkTold) (s : Status) → DeliversAnswer result old new s
    → s ≡ status.Usage → ⊥
never_usage (Ok text) old new s d is = elim d.whole [
  | inl w ↦ absurd cc
  | inr e ↦ absurd (end_not text.whole s (λ f. cc) (λ f. cc) (sym e.0))
]
never_usage (Err r) old new s d is = elim d.whole [ inl w ↦ absurd cc | inr e ↦ not_usage r (sym e.0 ∙ is) ]

told_memory : (result : Result Text Refusal) (old new : SinkTold) (s : Status) → DeliversAnswer result old new s
    → s ≡ status.Memory → IsErrOf result Memory
told_memory (Ok text) old new s d is = elim d.whole [
  | inl w ↦ absurd cc
  | inr e ↦ absurd (end_not text.whole s (λ f. cc) (λ f. cc) (sym e.0))
]
told_memory (Err r) old new s d is = elim d.whole [ inl w ↦ absurd cc | inr e ↦ ap Err (is_memory r (sym e.0 ∙ is)) ]

-- the bytes and the status are those of an output, or the run was cut short
abbrev IsOutput : Output → SinkTold → SinkTold → Status → Type 0
IsOutput o old new s = IsCutShort s ⊎ ((s ≡ o.status) × Appends old.written new.written o.bytes)

abbrev HasFront : Output → SinkTold → SinkTold → Type 0
HasFront o old new = (n : ℕ) × Appends old.written new.written (take n o.bytes)

told_output : (parts : Type 0) (result wanted : Result Text Refusal) (before after : InputsTold) (old new : SinkTold) (s : Status)
    → IsDelivered parts result before after old new s → IsCut result ⊎ (result ≡ wanted) → IsOutput (output_of wanted) old new s × HasFront (output_of wanted) old new
told_output parts result wanted before after old new s (inl d) (inl cut) =
    let end = cut_ends result old new s cut d in
    (inl (elim end.0 [ inl r ↦ inl r | inr m ↦ inr (inr m) ]), (0, appends_kept old.written new.written end.1))
told_output parts result wanted before after old new s (inl d) (inr same) =
    let whole = subst (λ r. DeliversAnswer r old new s) same d in
    (elim whole.whole [ inl w ↦ inl (inr (inl w)) | inr e ↦ inr e ], whole.front)
told_output parts result wanted before after old new s (inr p) (inl cut) =
    (inl (cut_short s (cut_status _ _ before after old new s p.1)), (0, appends_kept old.written new.written (cut_breaks result before after old new s cut p.1)))
told_output parts result wanted before after old new s (inr p) (inr same) =
    let out = subst (λ r. BreaksOff r before after old new s) same p.1 in
    (inl (cut_short s (cut_status _ _ before after old new s out)), out.front)

IfSome-first : {X : Type 0} (o : Option X) (P Q : X → Type 0) → IfSome o (λ x. P x × Q x) → IfSome o P
IfSome-first None P Q h = tt
IfSome-first (Some x) P Q h = h.0

IfSome-second : {X : Type 0} (o : Option X) (P Q : X → Type 0) → IfSome o (λ x. P x × Q x) → IfSome o Q
IfSome-second None P Q h = tt
IfSome-second (Some x) P Q h = h.1

-- told files of which none that is needed lacks, and no count risen: no read had a cause to fail
no_cause : (lacks : Files → Type 0) (before after : InputsTold) (files : Files) → before.files ≡ Some files
    → ¬ lacks files → ¬ Rose before.faults after.faults → HasReadCause lacks before after → ⊥
no_cause lacks before after files is none still (inl rose) = still rose
no_cause lacks before after files is none still (inr (inl lack)) = none (subst (λ o. IsSomeAnd o lacks) is lack)
no_cause lacks before after files is none still (inr (inr untold)) = let e = subst IsNone is untold.0 in cc

-- the whole ending of a command
module _ (asked : Asked) (before after : InputsTold) (old new : SinkTold) (s : Status) (result : Result Text Refusal)
    (a : Answers (option_map (answer asked) before.files) (LacksFile (Some asked)) before after result) where
  whole : IsDelivered (IsJobInParts asked.job) result before after old new s
      → (files : Option Files) → IfSome (option_map (answer asked) files) (λ wanted. IsCut result ⊎ (result ≡ wanted))
      → IfSome files (λ f. IsOutput (output (Some asked) f) old new s × HasFront (output (Some asked) f) old new)
  whole d None h = tt
  whole d (Some f) h = told_output (IsJobInParts asked.job) result (answer asked f) before after old new s d h

  complete : IsDelivered (IsJobInParts asked.job) result before after old new s → (files : Option Files) → before.files ≡ files
      → IfSome (option_map (answer asked) files) (λ wanted. IsCut result ⊎ (result ≡ wanted))
      → IfSome files (λ f. ¬ LacksFile (Some asked) f → ¬ Rose before.faults after.faults → ¬ Rose old.faults new.faults
      → (s ≡ (output (Some asked) f).status) ⊎ (s ≡ status.Memory))
  complete d None is h = tt
  complete (inr p) (Some f) is h = λ there reads writes. elim p.1.cause [ inl memory ↦ inr memory | inr read ↦ absurd (reads read.1) ]
  complete (inl d) (Some f) is h = λ there reads writes. elim d.whole [
    | inl w ↦ absurd (writes (d.fault w))
    | inr e ↦ elim h [
      | inl cut ↦ elim cut [
        | inl fault ↦ absurd (no_cause (LacksFile (Some asked)) before after f is there reads (a.fault fault))
        | inr memory ↦ inr (e.0 ∙ ap (λ r. (output_of r).status) memory)
      ]
      | inr same ↦ inl (e.0 ∙ ap (λ r. (output_of r).status) same)
    ]
  ]

  read_fault : IsDelivered (IsJobInParts asked.job) result before after old new s → s ≡ status.ReadFault
      → HasReadCause (LacksFile (Some asked)) before after
  read_fault (inl d) is = a.fault (told_fault result old new s d is)
  read_fault (inr p) is = elim p.1.cause [ inl memory ↦ absurd cc | inr read ↦ inl read.1 ]

  unread_cut : IsDelivered (IsJobInParts asked.job) result before after old new s → s ≡ status.ReadFault → ¬ IsJobInParts asked.job
      → Keeps old.written new.written
  unread_cut (inl d) is not = (cut_ends result old new s (inl (told_fault result old new s d is)) d).1
  unread_cut (inr p) is not = absurd (not p.0)

  memory_cut : IsDelivered (IsJobInParts asked.job) result before after old new s → s ≡ status.Memory → ¬ IsJobInParts asked.job → Keeps old.written new.written
  memory_cut (inl d) is not = (cut_ends result old new s (inr (told_memory result old new s d is)) d).1
  memory_cut (inr p) is not = absurd (not p.0)

  -- nothing was written, or whole replies
  between : IsDelivered (IsJobInParts asked.job) result before after old new s
      → (files : Option Files) → IfSome (option_map (answer asked) files) (λ wanted. IsCut result ⊎ (result ≡ wanted))
      → (s ≡ status.ReadFault) ⊎ (s ≡ status.Memory)
      → IfSome files (λ f. (n : ℕ) × Appends old.written new.written (concat (take n (parts_of (answer asked f)))))
  between d None h cut = tt
  between (inl d) (Some f) h cut =
      let kept : Keeps old.written new.written = elim cut [
        | inl is ↦ (cut_ends result old new s (inl (told_fault result old new s d is)) d).1
        | inr is ↦ (cut_ends result old new s (inr (told_memory result old new s d is)) d).1
      ] in
      (0, appends_kept old.written new.written kept)
  between (inr p) (Some f) (inl none) cut =
      (0, appends_kept old.written new.written (cut_breaks result before after old new s none p.1))
  between (inr p) (Some f) (inr same) cut = (subst (λ r. BreaksOff r before after old new s) same p.1).between

  lacking : IsDelivered (IsJobInParts asked.job) result before after old new s → IsSomeAnd before.files (LacksFile (Some asked))
      → ((s ≡ status.ReadFault) ⊎ (s ≡ status.Memory)) × Keeps old.written new.written
  lacking (inl d) lack = cut_ends result old new s (a.lacking lack) d
  lacking (inr p) lack = (cut_status _ _ before after old new s p.1, cut_breaks result before after old new s (a.lacking lack) p.1)

  write_fault : IsDelivered (IsJobInParts asked.job) result before after old new s → s ≡ status.WriteFault → Rose old.faults new.faults
  write_fault (inl d) is = d.fault is
  write_fault (inr p) is = absurd (cut_not status.WriteFault s (λ e. cc) (λ e. cc) (cut_status _ _ before after old new s p.1) is)

  usage : IsDelivered (IsJobInParts asked.job) result before after old new s → s ≡ status.Usage → ⊥
  usage (inl d) is = never_usage result old new s d is
  usage (inr p) is = cut_not status.Usage s (λ e. cc) (λ e. cc) (cut_status _ _ before after old new s p.1) is

  later : IsDelivered (IsJobInParts asked.job) result before after old new s → old.faults ≤ new.faults
  later (inl d) = d.later
  later (inr p) = p.1.later

  pub ends : IsDelivered (IsJobInParts asked.job) result before after old new s
      → (s ≡ status.Done → IsJobInParts asked.job → IsAtEnd after.rest) → Ends (Some asked) before after old new s
  ends d at_end = record {
    outcome = IfSome-first _ _ _ (whole d before.files a.answer);
    front = IfSome-second _ _ _ (whole d before.files a.answer);
    read_fault = read_fault d;
    write_fault = write_fault d;
    lacking = lacking d;
    unread_cut = unread_cut d;
    memory_cut = memory_cut d;
    between = between d before.files a.answer;
    complete = complete d before.files refl a.answer;
    read_to_end = at_end;
    usage = λ is. absurd (usage d is);
    no_command = λ none. absurd cc;
    unread = λ none. absurd cc;
    files = a.files;
    faults = a.faults;
    missing = a.missing;
    write_faults = later d;
  }

-- the same, where the request was handed on
pub answered_ends : (asked : Option Asked) (shown : Asked) (before after : InputsTold) (old new : SinkTold) (s : Status) → asked ≡ Some shown
    → AnsweredJob (IsJobInParts shown.job) (option_map (answer shown) before.files) (LacksFile (Some shown)) before after old new s → Ends asked before after old new s
answered_ends asked shown before after old new s is a =
    subst (λ o. Ends o before after old new s) (sym is) (ends shown before after old new s a.result a.answers a.delivers a.read_to_end)

-- ---- words that are no command

-- the status is that of the usage line, or a write failed
usage_or_fault : (old new : SinkTold) (s : Status) → Delivers usage_line status.Usage old new s
    → (s ≡ status.ReadFault) ⊎ (s ≡ status.Memory) → ⊥
usage_or_fault old new s d (inl is) = elim d.whole [ inl w ↦ cc | inr e ↦ let f = e.0 in cc ]
usage_or_fault old new s d (inr is) = elim d.whole [ inl w ↦ cc | inr e ↦ let f = e.0 in cc ]

IfSome-each : {X : Type 0} (o : Option X) (P : X → Type 0) → ((x : X) → P x) → IfSome o P
IfSome-each None P h = tt
IfSome-each (Some x) P h = h x

lacks_none : (files : Option Files) → IsSomeAnd files (LacksFile None) → ⊥
lacks_none None lack = lack
lacks_none (Some f) (name, reached, away) = reached

told_usage : (seen : InputsTold) (old new : SinkTold) (s : Status) → Delivers usage_line status.Usage old new s → Ends None seen seen old new s
told_usage seen old new s d = record {
  outcome = IfSome-each seen.files _ (λ f. elim d.whole [ inl w ↦ inl (inr (inl w)) | inr e ↦ inr e ]);
  front = IfSome-each seen.files _ (λ f. d.front);
  read_fault = λ is. absurd (usage_or_fault old new s d (inl is));
  write_fault = d.fault;
  lacking = λ lack. absurd (lacks_none seen.files lack);
  unread_cut = λ is not. absurd (usage_or_fault old new s d (inl is));
  memory_cut = λ is not. absurd (usage_or_fault old new s d (inr is));
  between = λ cut. absurd (usage_or_fault old new s d cut);
  complete = IfSome-each seen.files _ (λ f there reads writes. elim d.whole [ inl w ↦ absurd (writes (d.fault w)) | inr e ↦ inl e.0 ]);
  usage = λ is. refl;
  no_command = λ none. elim d.whole [ inl w ↦ inr w | inr e ↦ inl e ];
  read_to_end = λ done parts. absurd parts;
  unread = λ none. refl;
  files = refl;
  faults = omega arith;
  missing = omega arith;
  write_faults = d.later;
}

-- the same, where the words and the text were handed on
pub usage_ends : (asked : Option Asked) (seen : InputsTold) (old new : SinkTold) (s : Status) (text : List ℕ) → asked ≡ None → text ≡ usage_line
    → Delivers text status.Usage old new s → Ends asked seen seen old new s
usage_ends asked seen old new s text none is d =
    subst (λ o. Ends o seen seen old new s) (sym none)
    (told_usage seen old new s (subst (λ t. Delivers t status.Usage old new s) is d))
