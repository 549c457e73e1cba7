-- What a file's bytes, or the lack of them, make of an answer.
use Rattle.std.proofs.Common.{◌≡◌, ◌⊎◌, inl, inr, ℕ, ◌<◌, ◌≤◌, List, [], length, refl, ap, sym, ◌∙◌, subst, Option, Some, None, IfSome, true, false, nat_lt, unwrap_or}
use Rattle.std.specs.Prelude.{Result, Ok, Err, IsErrOf, IsSomeAnd, IsNone}
use Rattle.std.specs.Option.{option_map}
use Rattle.std.proofs.lemmas.Bool.{le-ltb, lt-ltb}
use Rattle.doc_io.specs.Causes.{Files, InputsTold, Rose}
use Rattle.doc_io.specs.Whole.{ReadsAll}
use Rattle.doc_io.specs.declared.whole.ReadRefusal.{ReadRefusal}
use Rattle.doc_io.specs.declared.whole.ReadRefusal.TheVariants as reading
use Rattle.font_metrics.specs.Metrics.{MetricsValue}
use Rattle.metrics_file.specs.Reading.{Fault, metrics_of, most_file_bytes}
use Rattle.math_tree.specs.Trees.{TreeValue}
use Rattle.tree_json.specs.Reading.{tree_of}
use Rattle.tree_json.specs.declared.fault.TreeFault.{TreeFault}
use Rattle.serde_json.specs.Data.{Data}
use Rattle.input_files.specs.Refusals.{of_reading}
use Rattle.tree_edits.specs.Commands.{json_in}
use Rattle.commands.specs.Answer.{content}
use Rattle.input_files.specs.Files.{tree_limit, of_metrics_file, metrics_in, of_tree_file, tree_of_json, tree_in, GivesOr}
use Rattle.commands.specs.Ends.{IsCut, Answers}
use Rattle.input_files.specs.declared.refusal.Refusal.{Refusal}
use Rattle.input_files.specs.declared.refusal.Refusal.TheVariants.{MetricsLong, TreeLong, TreeJson, ReadFault, Memory}

-- ---- a file's bytes

-- an answer has one refusal
err_same : {V : Type 0} (a b : Refusal) → IsErrOf {T = V} (Err a) b → a ≡ b
err_same a b h = cc

-- a missing file isn't there
gone : (files : Option Files) (name bytes : List ℕ) → IfSome files (λ f. f name ≡ Some bytes) → IsSomeAnd files (λ f. f name ≡ None) → ⊥
gone None name bytes there away = away
gone (Some f) name bytes there away = let e = sym there ∙ away in absurd cc

module _ {V : Type 0} (in_bytes : List ℕ → Result V Refusal) (limit : ℕ) (name : List ℕ) (before after : InputsTold) where
  -- the file was read: its bytes decide
  pub read_whole : (bytes : List ℕ) (result : Result V Refusal)
      → ReadsAll before after name limit (Ok bytes)
      → GivesOr (in_bytes bytes) result → ¬ (in_bytes bytes ≡ Err ReadFault)
      → Answers (option_map (λ f. in_bytes (content f name)) before.files) (λ f. f name ≡ None) before after result
  read_whole bytes result reads gives own = record {
    answer = by before.files reads.whole;
    fault = λ is. elim gives [ inl m ↦ absurd (let e = sym is ∙ m in cc) | inr g ↦ absurd (own (sym g ∙ is)) ];
    lacking = λ away. absurd (gone before.files name bytes reads.whole away);
    files = reads.files;
    faults = reads.faults;
    missing = reads.missing;
  }
    where
      by : (files : Option Files) → IfSome files (λ f. f name ≡ Some bytes)
          → IfSome (option_map (λ f. in_bytes (content f name)) files) (λ w. IsCut result ⊎ (result ≡ w))
      by None there = tt
      by (Some f) there = elim gives [
        | inl m ↦ inl (inr m)
        | inr g ↦ inr (g ∙ ap in_bytes (sym (ap (λ o. unwrap_or o []) there)))
      ]

  unread : (refused : ReadRefusal) (long : Refusal)
      → ReadsAll before after name limit (Err refused)
      → ((bytes : List ℕ) → limit < length bytes → in_bytes bytes ≡ Err long) → ¬ (long ≡ ReadFault)
      → Answers {V = V} (option_map (λ f. in_bytes (content f name)) before.files) (λ f. f name ≡ None) before after (Err (of_reading refused long))
  unread reading.ReadFault long reads too_long own = record {
    answer = by before.files;
    fault = λ is. cause before.files (reads.fault refl);
    lacking = λ away. inl refl;
    files = reads.files;
    faults = reads.faults;
    missing = reads.missing;
  }
    where
      by : (files : Option Files) → IfSome (option_map (λ f. in_bytes (content f name)) files) (λ w. IsCut {V = V} (Err ReadFault) ⊎ (Err ReadFault ≡ w))
      by None = tt
      by (Some f) = inl (inl refl)

      cause : (files : Option Files) → Rose before.faults after.faults ⊎ (Rose before.missing after.missing × IfSome files (λ f. f name ≡ None))
          → Rose before.faults after.faults ⊎ (IsSomeAnd files (λ f. f name ≡ None) ⊎ (IsNone files × Rose before.missing after.missing))
      cause files (inl rose) = inl rose
      cause None (inr rose) = inr (inr (refl, rose.0))
      cause (Some f) (inr rose) = inr (inl rose.1)
  unread reading.TooLong long reads too_long own = record {
    answer = by before.files (reads.long refl);
    fault = λ is. absurd (own (err_same long ReadFault is));
    lacking = λ away. absurd (there before.files (reads.long refl) away);
    files = reads.files;
    faults = reads.faults;
    missing = reads.missing;
  }
    where
      by : (files : Option Files) → IfSome files (λ f. (bytes : List ℕ) × (f name ≡ Some bytes) × (limit < length bytes))
          → IfSome (option_map (λ f. in_bytes (content f name)) files) (λ w. IsCut {V = V} (Err long) ⊎ (Err long ≡ w))
      by None h = tt
      by (Some f) h = inr (sym (ap in_bytes (ap (λ o. unwrap_or o []) h.1) ∙ too_long h.0 h.2))

      there : (files : Option Files) → IfSome files (λ f. (bytes : List ℕ) × (f name ≡ Some bytes) × (limit < length bytes))
          → IsSomeAnd files (λ f. f name ≡ None) → ⊥
      there None h away = away
      there (Some f) h away = let e = sym h.1 ∙ away in absurd cc
  unread reading.Memory long reads too_long own = record {
    answer = by before.files;
    fault = λ is. absurd cc;
    lacking = λ away. inr refl;
    files = reads.files;
    faults = reads.faults;
    missing = reads.missing;
  }
    where
      by : (files : Option Files) → IfSome (option_map (λ f. in_bytes (content f name)) files) (λ w. IsCut {V = V} (Err Memory) ⊎ (Err Memory ≡ w))
      by None = tt
      by (Some f) = inl (inr refl)

  -- it wasn't: the inputs failed, the file is too long, or memory was refused
  pub not_read : (refused : ReadRefusal) (long why : Refusal) → why ≡ of_reading refused long
      → ReadsAll before after name limit (Err refused)
      → ((bytes : List ℕ) → limit < length bytes → in_bytes bytes ≡ Err long) → ¬ (long ≡ ReadFault)
      → Answers {V = V} (option_map (λ f. in_bytes (content f name)) before.files) (λ f. f name ≡ None) before after (Err why)
  not_read refused long why is reads too_long own =
      subst (λ r. Answers {V = V} (option_map (λ f. in_bytes (content f name)) before.files) (λ f. f name ≡ None) before after (Err r)) (sym is)
      (unread refused long reads too_long own)

-- ---- metrics

metrics_no_fault : (said : Result MetricsValue Fault) → of_metrics_file said ≡ Err ReadFault → ⊥
metrics_no_fault (Ok metrics) h = cc
metrics_no_fault (Err fault) h = let e = err_same _ ReadFault h in cc

metrics_short : (bytes : List ℕ) → length bytes ≤ most_file_bytes → metrics_in bytes ≡ of_metrics_file (metrics_of bytes)
unfolding metrics_in
metrics_short bytes short = let no : nat_lt most_file_bytes (length bytes) ≡ false = le-ltb most_file_bytes (length bytes) short in rw no refl

pub metrics_long : (bytes : List ℕ) → most_file_bytes < length bytes → metrics_in bytes ≡ Err MetricsLong
unfolding metrics_in
metrics_long bytes long = let yes : nat_lt most_file_bytes (length bytes) ≡ true = lt-ltb most_file_bytes (length bytes) long in rw yes refl

-- the bytes that were read, as they were handed on
pub metrics_read : (name bytes shown : List ℕ) (before after : InputsTold) (result : Result MetricsValue Refusal)
    → ReadsAll before after name most_file_bytes (Ok bytes)
    → shown ≡ bytes → GivesOr (of_metrics_file (metrics_of shown)) result
    → Answers (option_map (λ f. metrics_in (content f name)) before.files) (λ f. f name ≡ None) before after result
metrics_read name bytes shown before after result reads is gives =
    let whole : metrics_in bytes ≡ of_metrics_file (metrics_of shown) =
    metrics_short bytes reads.short ∙ ap (λ b. of_metrics_file (metrics_of b)) (sym is) in
    read_whole metrics_in most_file_bytes name before after bytes result reads
    (subst (λ w. GivesOr w result) (sym whole) gives)
    (λ fault. metrics_no_fault (metrics_of shown) (sym whole ∙ fault))

-- ---- trees

pub tree_short : (bytes : List ℕ) → length bytes ≤ tree_limit → tree_in bytes ≡ tree_of_json (json_in bytes)
unfolding tree_in
tree_short bytes short = let no : nat_lt tree_limit (length bytes) ≡ false = le-ltb tree_limit (length bytes) short in rw no refl

pub tree_long : (bytes : List ℕ) → tree_limit < length bytes → tree_in bytes ≡ Err TreeLong
unfolding tree_in
tree_long bytes long = let yes : nat_lt tree_limit (length bytes) ≡ true = lt-ltb tree_limit (length bytes) long in rw yes refl

tree_no_fault : (said : Result TreeValue TreeFault) → of_tree_file said ≡ Err ReadFault → ⊥
tree_no_fault (Ok tree) h = cc
tree_no_fault (Err fault) h = let e = err_same _ ReadFault h in cc

json_no_fault : (json : Option Data) → tree_of_json json ≡ Err ReadFault → ⊥
json_no_fault None h = let e = err_same TreeJson ReadFault h in cc
json_no_fault (Some value) h = tree_no_fault (tree_of value) h

pub tree_read : (name bytes shown : List ℕ) (before after : InputsTold) (result : Result TreeValue Refusal)
    → ReadsAll before after name tree_limit (Ok bytes)
    → shown ≡ bytes → GivesOr (tree_of_json (json_in shown)) result
    → Answers (option_map (λ f. tree_in (content f name)) before.files) (λ f. f name ≡ None) before after result
tree_read name bytes shown before after result reads is gives =
    let whole : tree_in bytes ≡ tree_of_json (json_in shown) =
    tree_short bytes reads.short ∙ ap (λ b. tree_of_json (json_in b)) (sym is) in
    read_whole tree_in tree_limit name before after bytes result reads
    (subst (λ w. GivesOr w result) (sym whole) gives)
    (λ fault. json_no_fault (json_in shown) (sym whole ∙ fault))
