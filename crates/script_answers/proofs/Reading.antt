-- How the lines that a reader gives are answered, where what is left is told and where it isn't.
use Rattle.std.proofs.Common.{◌≡◌, ◌⊎◌, inl, inr, ◌∙◌, ap, sym, refl, subst, ℕ, ◌+◌, ◌-◌, suc, ◌<◌, ◌≤◌, Bool, true, false, List, [], ◌∷◌, ◌++◌, append_assoc, append-nil, arith, Option, Some, None, IfSome}
use Rattle.std.specs.Prelude.{Result, Ok, Err, IsErrOf, IsSomeAnd}
use Rattle.std.specs.List.{concat}
use Rattle.std.specs.Option.{option_map}
use Rattle.std.specs.Io.KnownBytes.{Appends, IsAtEnd}
use Rattle.doc_io.specs.Causes.{InputsTold, SinkTold}
use Rattle.doc_io.specs.LineReader.{GivesLine, ReaderValue, behind_line, first_line, is_short, left_of, lines_of, most_lines}
use Rattle.doc_io.specs.declared.line_reader.Line.{Line}
use Rattle.doc_io.specs.declared.line_reader.Line.TheVariants.{Whole, End}
use Rattle.doc_io.specs.declared.line_reader.LineRefusal.{LineRefusal}
use Rattle.doc_io.specs.declared.line_reader.LineRefusal.TheVariants as reading
use Rattle.doc_io.proofs.Known.{appends_both}
use Rattle.doc_io.proofs.LineLaws.{given_end, given_line, no_lines, refused_line, short_line}
use Rattle.script_answers.specs.Responders.{Responder}
use Rattle.script_answers.specs.Texts.{Text, replies_within, status_of_end}
use Rattle.script_answers.specs.Lines.{AnswersEach, AnswersLines, AnswersNext, ComesToLine, Tells, replies_left, status_of_stop, told_line}
use Rattle.script_answers.specs.declared.stop.Stop.{Stop}
use Rattle.script_answers.specs.declared.stop.Stop.TheVariants as stop
use Rattle.input_files.specs.declared.status.Status.{Status}
use Rattle.input_files.specs.declared.status.Status.TheVariants as status
use Rattle.script_answers.proofs.Continuing.{Continues, appends_nothing, breaks_at_read, closes, more_replies, no_replies, stopped_replies, stops}

-- one part more behind others
concat_more : (parts : List (List ℕ)) (part : List ℕ) → concat (parts ++ part ∷ []) ≡ concat parts ++ part
concat_more [] part = append-nil part
concat_more (first ∷ parts) part = ap (λ bs. first ++ bs) (concat_more parts part) ∙ sym (append_assoc first (concat parts) part)

-- what was written and the replies to what is left are those that are wanted, where both are told
pub record Sends (wanted left : Option Text) (first now : SinkTold) : Type 0 where
  pub sent : List ℕ
  pub appended : Appends first.written now.written sent
  pub later : first.faults ≤ now.faults
  -- in whole parts
  pub parts : List (List ℕ)
  pub split : sent ≡ concat parts
  pub together : IfSome wanted (λ w. IsSomeAnd left (λ l. (sent ++ l.bytes ≡ w.bytes) × (l.whole ≡ w.whole) × (parts ++ l.parts ≡ w.parts)))

pub nothing_sent : (wanted : Option Text) (now : SinkTold) → Sends wanted wanted now now
nothing_sent wanted now = record {
  sent = [];
  appended = appends_nothing now.written;
  later = omega arith;
  parts = [];
  split = refl;
  together = by wanted;
}
  where
    by : (o : Option Text) → IfSome o (λ w. IsSomeAnd o (λ l. ([] ++ l.bytes ≡ w.bytes) × (l.whole ≡ w.whole) × ([] ++ l.parts ≡ w.parts)))
    by None = tt
    by (Some w) = (refl, refl, refl)

-- the whole text, where what is left is this one or isn't told
pub whole_of : (wanted left : Option Text) (l : Text) (first now : SinkTold) → IfSome left (λ o. o ≡ l) → Sends wanted left first now
    → (w : Text) × IfSome wanted (λ o. w ≡ o) × Continues w l first now
whole_of None left l first now is s = (
  record { bytes = s.sent ++ l.bytes; parts = s.parts ++ l.parts; whole = l.whole },
  tt,
  record { sent = s.sent; together = refl; parts = s.parts; split = s.split; parts_together = refl; whole = refl; appended = s.appended; later = s.later },
)
whole_of (Some w) None l first now is s = absurd s.together
whole_of (Some w) (Some o) l first now is s = (
  w,
  refl,
  record {
    sent = s.sent;
    together = ap (λ (o : Text). s.sent ++ o.bytes) (sym is) ∙ s.together.0;
    parts = s.parts;
    split = s.split;
    parts_together = ap (λ (o : Text). s.parts ++ o.parts) (sym is) ∙ s.together.2;
    whole = ap (λ (o : Text). o.whole) (sym is) ∙ s.together.1;
    appended = s.appended;
    later = s.later;
  },
)

-- what is left, or no text where it isn't told
pub some_text : (left : Option Text) → (l : Text) × IfSome left (λ o. o ≡ l)
some_text None = (record { bytes = []; parts = []; whole = true }, tt)
some_text (Some l) = (l, refl)

-- a reply comes before the replies to what is left behind it
abbrev ComesBefore : List ℕ → Option Text → Option Text → Type 0
ComesBefore reply left left' = IfSome left (λ l. IsSomeAnd left' (λ l'. (l.bytes ≡ reply ++ l'.bytes) × (l.whole ≡ l'.whole) × (l.parts ≡ reply ∷ l'.parts)))

sends_more : (wanted left left' : Option Text) (first now later : SinkTold) (reply : List ℕ) → ComesBefore reply left left'
    → Tells reply now later (Ok tt) → Sends wanted left first now → Sends wanted left' first later
sends_more wanted left left' first now later reply before told s = record {
  sent = s.sent ++ reply;
  appended = appends_both first.written now.written later.written s.sent reply s.appended told.whole;
  later = omega (arith, s.later, told.later);
  parts = s.parts ++ reply ∷ [];
  split = ap (λ bs. bs ++ reply) s.split ∙ sym (concat_more s.parts reply);
  together = by wanted left left' s.together before;
}
  where
    by : (wanted left left' : Option Text)
        → IfSome wanted (λ w. IsSomeAnd left (λ l. (s.sent ++ l.bytes ≡ w.bytes) × (l.whole ≡ w.whole) × (s.parts ++ l.parts ≡ w.parts)))
        → ComesBefore reply left left'
        → IfSome wanted (λ w. IsSomeAnd left' (λ l. ((s.sent ++ reply) ++ l.bytes ≡ w.bytes) × (l.whole ≡ w.whole) × ((s.parts ++ reply ∷ []) ++ l.parts ≡ w.parts)))
    by None left left' t b = tt
    by (Some w) None left' t b = absurd t
    by (Some w) (Some l) None t b = absurd b
    by (Some w) (Some l) (Some m) t b = (
      append_assoc s.sent reply m.bytes ∙ ap (λ bs. s.sent ++ bs) (sym b.0) ∙ t.0,
      sym b.1 ∙ t.1,
      append_assoc s.parts (reply ∷ []) m.parts ∙ ap (λ ps. s.parts ++ ps) (sym b.2) ∙ t.2,
    )

-- what is left, where a reply comes first
reply_left : (left left' : Option Text) (reply : List ℕ) → ComesBefore reply left left'
    → (l : Text) × IfSome left (λ o. o ≡ l) × (others : List ℕ) × (l.bytes ≡ reply ++ others)
reply_left None left' reply b = (record { bytes = reply; parts = reply ∷ []; whole = true }, tt, [], sym (append-nil reply))
reply_left (Some l) None reply b = absurd b
reply_left (Some l) (Some m) reply b = (l, refl, m.bytes, b.0)

-- ---- what a call of the reader makes of what is left

module _ (R : Responder) (known : R.Known) (reader next : ReaderValue) (now after : InputsTold) where
  -- a line
  pub line_left : (known' : R.Known) → known' ≡ R.after_line known next.line → GivesLine reader next now after (Ok Whole)
      → ComesBefore (R.told_of known next.line) (replies_left R known reader now) (replies_left R known' next after)
  line_left known' is g = by (left_of reader now) refl
    where
      room : most_lines - reader.given ≡ suc (most_lines - (reader.given + 1))
      room = omega (arith, g.few refl)

      by : (left : Option (List ℕ)) → left_of reader now ≡ left
          → ComesBefore (R.told_of known next.line) (option_map (λ bytes. replies_within R (most_lines - reader.given) known (lines_of bytes)) left)
          (replies_left R known' next after)
      by None e = tt
      by (Some bytes) e =
          let given = given_line (record { reader = reader; inputs = now }) (record { reader = next; inputs = after }) bytes e g in
          let lines = lines_of (behind_line bytes) in
          let short : is_short next.line ≡ true = short_line next.line (g.short refl) in
          let same : replies_within R (most_lines - (reader.given + 1)) (R.after_line known next.line) lines ≡ replies_within R (most_lines - next.given) known' lines =
          λ i. replies_within R (most_lines - sym g.given i) (sym is i) lines in
          let more : replies_within R (most_lines - reader.given) known (lines_of bytes)
          ≡ record { bytes = R.told_of known next.line ++ (replies_within R (most_lines - (reader.given + 1)) (R.after_line known next.line) lines).bytes; parts = R.told_of known next.line ∷ (replies_within R (most_lines - (reader.given + 1)) (R.after_line known next.line) lines).parts; whole = (replies_within R (most_lines - (reader.given + 1)) (R.after_line known next.line) lines).whole } =
          (λ i. replies_within R (room i) known (given.0 i)) ∙ more_replies R (most_lines - (reader.given + 1)) known next.line lines short in
          subst (λ (o : Option (List ℕ)). IsSomeAnd (option_map (λ bytes. replies_within R (most_lines - next.given) known' (lines_of bytes)) o)
          (λ l'. ((replies_within R (most_lines - reader.given) known (lines_of bytes)).bytes ≡ R.told_of known next.line ++ l'.bytes)
          × ((replies_within R (most_lines - reader.given) known (lines_of bytes)).whole ≡ l'.whole)
          × ((replies_within R (most_lines - reader.given) known (lines_of bytes)).parts ≡ R.told_of known next.line ∷ l'.parts)))
          (sym given.1) (
            ap (λ (o : Text). o.bytes) more ∙ ap (λ (o : Text). R.told_of known next.line ++ o.bytes) same,
            ap (λ (o : Text). o.whole) more ∙ ap (λ (o : Text). o.whole) same,
            ap (λ (o : Text). o.parts) more ∙ ap (λ (o : Text). R.told_of known next.line ∷ o.parts) same,
          )

  -- the end
  pub end_left : GivesLine reader next now after (Ok End)
      → IfSome (replies_left R known reader now) (λ o. o ≡ record { bytes = []; parts = []; whole = true })
  end_left g = by (left_of reader now) refl
    where
      by : (left : Option (List ℕ)) → left_of reader now ≡ left
          → IfSome (option_map (λ bytes. replies_within R (most_lines - reader.given) known (lines_of bytes)) left) (λ o. o ≡ record { bytes = []; parts = []; whole = true })
      by None e = tt
      by (Some bytes) e =
          let none : bytes ≡ [] = given_end (record { reader = reader; inputs = now }) (record { reader = next; inputs = after }) bytes e g in
          ap (λ b. replies_within R (most_lines - reader.given) known (lines_of b)) none
          ∙ ap (replies_within R (most_lines - reader.given) known) no_lines
          ∙ no_replies R (most_lines - reader.given) known

  -- a limit
  pub limit_left : (e : LineRefusal) → ¬ (e ≡ reading.ReadFault) → GivesLine reader next now after (Err e)
      → IfSome (replies_left R known reader now) (λ o. o ≡ record { bytes = []; parts = []; whole = false })
  limit_left refusal own g = by (left_of reader now) refl
    where
      by : (left : Option (List ℕ)) → left_of reader now ≡ left
          → IfSome (option_map (λ bytes. replies_within R (most_lines - reader.given) known (lines_of bytes)) left) (λ o. o ≡ record { bytes = []; parts = []; whole = false })
      by None e = tt
      by (Some bytes) e =
          let why = refused_line (record { reader = reader; inputs = now }) (record { reader = next; inputs = after }) bytes refusal e own g in
          let limit : (most_lines - reader.given ≡ 0) ⊎ (is_short (first_line bytes) ≡ false) =
          elim why.1 [ inl most ↦ inl (omega (arith, most)) | inr long ↦ inr long ] in
          ap (replies_within R (most_lines - reader.given) known) why.0
          ∙ stopped_replies R (most_lines - reader.given) known (first_line bytes) (lines_of (behind_line bytes)) limit

-- ---- a run of lines

module _ (R : Responder) (known : R.Known) (reader : ReaderValue) (start : InputsTold) (first : SinkTold) where
  abbrev Wanted : Option Text
  Wanted = replies_left R known reader start

  -- how it stands after some lines
  pub record Stands (known' : R.Known) (reader' : ReaderValue) (now : InputsTold) (out : SinkTold) : Type 0 where
    pub sends : Sends Wanted (replies_left R known' reader' now) first out
    pub files : now.files ≡ start.files
    pub faults : start.faults ≤ now.faults
    pub missing : now.missing ≡ start.missing

  pub stands_first : Stands known reader start first
  stands_first = record {
    sends = nothing_sent Wanted first;
    files = refl;
    faults = omega arith;
    missing = refl;
  }

  module _ (known' : R.Known) (reader' next : ReaderValue) (now after : InputsTold) (out : SinkTold)
      (s : Stands known' reader' now out) where
    -- a line was answered
    pub stands_next : (known'' : R.Known) (later : SinkTold) → known'' ≡ R.after_line known' next.line
        → GivesLine reader' next now after (Ok Whole) → Tells (R.told_of known' next.line) out later (Ok tt)
        → Stands known'' next after later
    stands_next known'' later is g told = record {
      sends = sends_more Wanted (replies_left R known' reader' now) (replies_left R known'' next after) first out later (R.told_of known' next.line)
          (line_left R known' reader' next now after known'' is g) told s.sends;
      files = g.files ∙ s.files;
      faults = omega (arith, g.faults, s.faults);
      missing = g.missing ∙ s.missing;
    }

    -- no line is left, or the next one passes a limit
    closed : (r : Result Line LineRefusal) (whole : Bool) → GivesLine reader' next now after r
        → IfSome (replies_left R known' reader' now) (λ o. o ≡ record { bytes = []; parts = []; whole = whole })
        → (status_of_end whole ≡ status.Done → IsAtEnd after.rest)
        → AnswersLines R known reader start after first out (status_of_end whole)
    closed r whole g left end =
        let w = whole_of Wanted (replies_left R known' reader' now) (record { bytes = []; parts = []; whole = whole }) first out left s.sends in
        record {
          text = w.0;
          wanted = w.1;
          delivers = inl (closes w.0 (record { bytes = []; parts = []; whole = whole }) first out whole refl w.2);
          read_to_end = end;
          files = g.files ∙ s.files;
          faults = omega (arith, g.faults, s.faults);
          missing = g.missing ∙ s.missing;
        }

    -- the reply to a line wasn't written
    pub stops_at_reply : (later : SinkTold) (why : Stop) → GivesLine reader' next now after (Ok Whole)
        → Tells (R.told_of known' next.line) out later (Err why) → AnswersLines R known reader start after first later (status_of_stop why)
    stops_at_reply later why g told =
        let l = reply_left (replies_left R known' reader' now) (replies_left R (R.after_line known' next.line) next after) (R.told_of known' next.line)
        (line_left R known' reader' next now after (R.after_line known' next.line) refl g) in
        let w = whole_of Wanted (replies_left R known' reader' now) l.0 first out l.1 s.sends in
        record {
          text = w.0;
          wanted = w.1;
          delivers = stops w.0 l.0 start after first out later (R.told_of known' next.line) l.2 why l.3 w.2 told;
          read_to_end = λ done. absurd (not_done why told.causes done);
          files = g.files ∙ s.files;
          faults = omega (arith, g.faults, s.faults);
          missing = g.missing ∙ s.missing;
        }
      where
        not_done : (why : Stop) → (IsErrOf {T = Unit {0}} (Err why) stop.WriteFault) ⊎ (IsErrOf {T = Unit {0}} (Err why) stop.Memory) → ¬ (status_of_stop why ≡ status.Done)
        not_done stop.ReadFault c e = cc
        not_done stop.ScriptLimit c e = cc
        not_done stop.WriteFault c e = cc
        not_done stop.Memory c e = cc

    by_reading : (why : Stop) (r : Result Line LineRefusal) → GivesLine reader' next now after r → Err why ≡ told_line r
        → AnswersLines R known reader start after first out (status_of_stop why)
    by_reading why (Ok Whole) g is = absurd cc
    by_reading why (Ok End) g is = absurd cc
    by_reading why (Err reading.ReadFault) g is =
        let l = some_text (replies_left R known' reader' now) in
        let w = whole_of Wanted (replies_left R known' reader' now) l.0 first out l.1 s.sends in
        let same : status.ReadFault ≡ status_of_stop why = let e : why ≡ stop.ReadFault = cc in sym (ap status_of_stop e) in
        let rose = g.fault refl in
        subst (λ (end : Status). AnswersLines R known reader start after first out end) same
        (record {
          text = w.0;
          wanted = w.1;
          delivers = inr (breaks_at_read w.0 l.0 start after first out w.2 (omega (arith, rose, s.faults)));
          read_to_end = λ done. absurd cc;
          files = g.files ∙ s.files;
          faults = omega (arith, g.faults, s.faults);
          missing = g.missing ∙ s.missing;
        })
    by_reading why (Err reading.LineLong) g is =
        let same : status.ScriptLimit ≡ status_of_stop why = let e : why ≡ stop.ScriptLimit = cc in sym (ap status_of_stop e) in
        subst (λ (end : Status). AnswersLines R known reader start after first out end) same
        (closed (Err reading.LineLong) false g (limit_left R known' reader' next now after reading.LineLong (λ e. cc) g) (λ e. absurd cc))
    by_reading why (Err reading.LinesSpent) g is =
        let same : status.ScriptLimit ≡ status_of_stop why = let e : why ≡ stop.ScriptLimit = cc in sym (ap status_of_stop e) in
        subst (λ (end : Status). AnswersLines R known reader start after first out end) same
        (closed (Err reading.LinesSpent) false g (limit_left R known' reader' next now after reading.LinesSpent (λ e. cc) g) (λ e. absurd cc))

    -- no line came
    pub stops_at_reading : (why : Stop) → ComesToLine reader' next now after (Err why)
        → AnswersLines R known reader start after first out (status_of_stop why)
    stops_at_reading why c = by_reading why c.line c.gives c.told

    pub ends_at_end : GivesLine reader' next now after (Ok End) → AnswersLines R known reader start after first out status.Done
    ends_at_end g = closed (Ok End) true g (end_left R known' reader' next now after g) (λ e. g.end refl)

-- a line came
pub came : (reader next : ReaderValue) (now after : InputsTold) (b : Bool) → b ≡ true → ComesToLine reader next now after (Ok b)
    → GivesLine reader next now after (Ok Whole)
came reader next now after b there c = by c.line c.gives (sym (ap Ok there) ∙ c.told)
  where
    by : (r : Result Line LineRefusal) → GivesLine reader next now after r → Ok true ≡ told_line r → GivesLine reader next now after (Ok Whole)
    by (Ok Whole) g is = g
    by (Ok End) g is = absurd cc
    by (Err r) g is = absurd cc

-- none did
pub ended : (reader next : ReaderValue) (now after : InputsTold) (b : Bool) → b ≡ false → ComesToLine reader next now after (Ok b)
    → GivesLine reader next now after (Ok End)
ended reader next now after b away c = by c.line c.gives (sym (ap Ok away) ∙ c.told)
  where
    by : (r : Result Line LineRefusal) → GivesLine reader next now after r → Ok false ≡ told_line r → GivesLine reader next now after (Ok End)
    by (Ok Whole) g is = absurd cc
    by (Ok End) g is = g
    by (Err r) g is = absurd cc

-- ---- how the run goes on, by what became of the next line

module _ (R : Responder) (known : R.Known) (reader : ReaderValue) (start : InputsTold) (first : SinkTold) (known' known'' : R.Known)
    (reader' next : ReaderValue) (now after : InputsTold) (out later : SinkTold) (s : Stands R known reader start first known' reader' now out) where
  pub goes_on : (b : Bool) → b ≡ true → AnswersNext R known' known'' reader' next now after out later (Ok b)
      → Stands R known reader start first known'' next after later
  goes_on b there a =
      let line = a.line (ap Ok there) in
      stands_next R known reader start first known' reader' next now after out s known'' later line.2 line.0 line.1

  pub fewer : (b : Bool) → b ≡ true → AnswersNext R known' known'' reader' next now after out later (Ok b)
      → most_lines - next.given < most_lines - reader'.given
  fewer b there a =
      let g = (a.line (ap Ok there)).0 in
      let one : next.given ≡ reader'.given + 1 = g.given in
      omega (arith, g.few refl, one)

  pub goes_no_further : (b : Bool) → b ≡ false → AnswersNext R known' known'' reader' next now after out later (Ok b)
      → AnswersLines R known reader start after first later status.Done
  goes_no_further b away a =
      let end = a.end (ap Ok away) in
      subst (λ o. AnswersLines R known reader start after first o status.Done) (sym end.1)
      (ends_at_end R known reader start first known' reader' next now after out s end.0)

  pub goes_wrong : (why : Stop) → AnswersNext R known' known'' reader' next now after out later (Err why)
      → AnswersLines R known reader start after first later (status_of_stop why)
  goes_wrong why a = elim a.stop [
    | inl read ↦
        subst (λ o. AnswersLines R known reader start after first o (status_of_stop why)) (sym read.1)
        (stops_at_reading R known reader start first known' reader' next now after out s why read.0)
    | inr reply ↦ stops_at_reply R known reader start first known' reader' next now after out s later why reply.0 reply.1
  ]

  pub goes_wrong_as : (why : Stop) (result : Result (Unit {0}) Stop) → result ≡ Err why
      → AnswersNext R known' known'' reader' next now after out later (Err why)
      → AnswersEach R known reader start after first later result
  goes_wrong_as why result is a = subst (AnswersEach R known reader start after first later) (sym is) (goes_wrong why a)

-- what became of the next line, where none was answered whole
pub stopped_next : (R : Responder) (known known' : R.Known) (reader next : ReaderValue) (now after : InputsTold) (out later : SinkTold) (why : Stop)
    (result : Result Bool Stop) → result ≡ Err why
    → (ComesToLine reader next now after (Err why) × (later ≡ out))
    ⊎ (GivesLine reader next now after (Ok Whole) × Tells (R.told_of known next.line) out later (Err why))
    → AnswersNext R known known' reader next now after out later result
stopped_next R known known' reader next now after out later why result is stopped =
    subst (AnswersNext R known known' reader next now after out later) (sym is) (record { line = λ e. absurd cc; end = λ e. absurd cc; stop = stopped })
