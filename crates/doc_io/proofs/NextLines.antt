-- What the next line is, by the bytes that are held and what is left of the file.
use Rattle.std.proofs.Common.{◌≡◌, ◌≢◌, ◌⊎◌, inl, inr, ℕ, ◌+◌, ◌-◌, ◌<◌, ◌≤◌, min, nat_le, nat_lt, Bool, true, false, List, [], ◌∷◌, ◌++◌, length, take, drop, ap, sym, refl, subst, ◌∙◌, arith, append_assoc, append-nil, length-append, length-take, Option, Some, None, IfSome}
use Rattle.std.specs.Prelude.{Result, Ok, Err, IsErrOf, if◌then◌else◌}
use Rattle.std.proofs.lemmas.Bool.Decides.{nat_tests}
use Rattle.std.proofs.lemmas.List.{drop-append-le, drop_min, take-append-le, drop_all, take_all}
use Rattle.std.specs.Io.KnownBytes.{Consumes, IsAtEnd, Keeps, prepend_known}
use Rattle.std.specs.List.{position_or_len}
use Rattle.doc_io.specs.Causes.{InputsTold, Rose}
use Rattle.doc_io.specs.Held.{ReadsOn}
use Rattle.doc_io.specs.LineEnds.{BeginsLine, EndsLine, TakesMore}
use Rattle.doc_io.specs.LineReader.{GivesLine, HoldsLine, ReaderValue, answer_of, behind_line, first_line, is_feed, is_short, left_of, left_after, longest_line, most_lines}
use Rattle.doc_io.specs.declared.line_reader.Line.{Line}
use Rattle.doc_io.specs.declared.line_reader.Line.TheVariants.{Whole, End}
use Rattle.doc_io.specs.declared.line_reader.LineRefusal.{LineRefusal}
use Rattle.doc_io.specs.declared.line_reader.LineRefusal.TheVariants.{ReadFault, LineLong, LinesSpent}
use Rattle.doc_io.proofs.FirstLines.{line_behind, line_front, line_more, line_within}
use Rattle.doc_io.proofs.Known.{consumes_both}

-- ---- bytes that are read stay among what is left

pub left_stays : (before after : InputsTold) (held held' : List ℕ) → TakesMore before after held held'
    → IfSome (prepend_known held before.rest) (λ bytes. prepend_known held' after.rest ≡ Some bytes)
left_stays before after held held' (read, is, taken) = by before.rest after.rest taken
  where
    by : (a b : Option (List ℕ)) → Consumes a b read → IfSome (prepend_known held a) (λ bytes. prepend_known held' b ≡ Some bytes)
    by None b h = tt
    by (Some x) None h = absurd h
    by (Some x) (Some y) h = ap Some (ap (λ l. l ++ y) is ∙ append_assoc held read y ∙ ap (λ l. held ++ l) (sym h))

pub takes_nothing : (before after : InputsTold) (held held' : List ℕ) → held' ≡ held → Keeps before.rest after.rest
    → TakesMore before after held held'
takes_nothing before after held held' is kept = ([], is ∙ sym (append-nil held), by before.rest after.rest kept)
  where
    by : (a b : Option (List ℕ)) → Keeps a b → Consumes a b []
    by None b h = tt
    by (Some x) None h = absurd h
    by (Some x) (Some y) h = sym h

pub takes_both : (a b c : InputsTold) (held mid held' : List ℕ) → TakesMore a b held mid → TakesMore b c mid held' → TakesMore a c held held'
takes_both a b c held mid held' (first, is, taken) (next, is', taken') = (
  first ++ next,
  is' ∙ ap (λ l. l ++ next) is ∙ append_assoc held first next,
  consumes_both a.rest b.rest c.rest first next taken taken',
)

-- a line that is held to its end is so behind a read, too
holds_more : (held held' read : List ℕ) → held' ≡ held ++ read → HoldsLine held → HoldsLine held'
holds_more held held' read is h =
    subst HoldsLine (sym is) (omega (arith, line_front is_feed held read h, length-append held read, h))

-- where no line feed was found among bytes that came behind held ones, none was held
pub unended : (before after : InputsTold) (held held' : List ℕ) (n : ℕ) → TakesMore before after held held' → n ≡ position_or_len is_feed held'
    → n ≡ length held' → HoldsLine held → ⊥
unended before after held held' n (read, is, taken) size all h = let more = holds_more held held' read is h in omega (arith, more, size, all)

-- ---- the end of the first line, behind bytes in which it didn't end

nothing_read : (read : List ℕ) → length read ≡ 0 → read ≡ []
nothing_read [] h = refl
nothing_read (b ∷ bs) h = absurd (omega (arith, h))

module _ {E : Type 0} (before mid after : InputsTold) (held held' held'' : List ℕ) (files : mid.files ≡ before.files)
    (faults : before.faults ≤ mid.faults) (missing : mid.missing ≡ before.missing) (bytes : TakesMore before mid held held')
    (unheld : HoldsLine held → ⊥) where
  -- a read failed
  pub fails_behind : (e : E) (result : Result ℕ LineRefusal) → result ≡ Err ReadFault → ReadsOn mid after held' held'' (Err e)
      → EndsLine before after held held'' result
  fails_behind e result is r = subst (EndsLine before after held held'') (sym is) (record {
    files = r.files ∙ files;
    faults = omega (arith, faults, r.faults);
    missing = r.missing ∙ missing;
    bytes = takes_both before mid after held held' held'' bytes (takes_nothing mid after held' held'' r.bytes.0 r.bytes.1);
    unread = λ h. absurd (unheld h);
    line = tt;
    short = tt;
    ended = tt;
    long = λ e. absurd cc;
    fault = λ e. omega (arith, faults, r.failed);
    refused = inr refl;
  })

  -- nothing was left to read
  pub ends_behind : (n count : ℕ) → n ≡ position_or_len is_feed held' → n ≤ longest_line → count ≡ 0
      → ReadsOn {E = E} mid after held' held'' (Ok count) → EndsLine before after held held'' (Ok n)
  ends_behind n count size short none r =
      let empty : r.bytes.0 ≡ [] = nothing_read r.bytes.0 (omega (arith, r.bytes.2, none)) in
      let same : held'' ≡ held' = r.bytes.1 ∙ ap (λ l. held' ++ l) empty ∙ append-nil held' in
      record {
        files = r.files ∙ files;
        faults = omega (arith, faults, r.faults);
        missing = r.missing ∙ missing;
        bytes = takes_both before mid after held held' held'' bytes (r.bytes.0, r.bytes.1, r.bytes.3);
        unread = λ h. absurd (unheld h);
        line = size ∙ ap (position_or_len is_feed) (sym same);
        short = short;
        ended = inr (r.bytes.4 none);
        long = λ e. absurd cc;
        fault = λ e. absurd cc;
        refused = tt;
      }

-- ---- answers that give no line

IfSome-next : {X : Type 0} (o : Option X) (P Q : X → Type 0) → ((x : X) → P x → Q x) → IfSome o P → IfSome o Q
IfSome-next None P Q f h = tt
IfSome-next (Some x) P Q f h = f x h

none_left : (held : List ℕ) (rest : Option (List ℕ)) (bytes : List ℕ) → held ≡ [] → IsAtEnd rest → prepend_known held rest ≡ Some bytes → bytes ≡ []
none_left held None bytes none end is = absurd cc
none_left held (Some x) bytes none end is =
    let both : held ++ x ≡ bytes = cc in
    sym both ∙ ap (λ l. l ++ x) none ∙ end

some_left : (held : List ℕ) (rest : Option (List ℕ)) (bytes : List ℕ) → prepend_known held rest ≡ Some bytes
    → (behind : List ℕ) × (held ++ behind ≡ bytes) × (rest ≡ Some behind)
some_left held None bytes is = absurd cc
some_left held (Some x) bytes is = (x, cc, refl)

end_of : (given : ℕ) (bytes : List ℕ) → bytes ≡ [] → answer_of given bytes ≡ Ok End
unfolding answer_of
end_of given [] h = refl
end_of given (b ∷ bs) h = absurd cc

spent_of : (given : ℕ) (bytes : List ℕ) → 0 < length bytes → most_lines ≤ given → answer_of given bytes ≡ Err LinesSpent
unfolding answer_of
spent_of given [] some most = absurd (omega (arith, some))
spent_of given (b ∷ bs) some most =
    let past : nat_lt given most_lines ≡ false = grind (arith, nat_tests) in
    ap (λ (c : Bool). if c then (if is_short (first_line (b ∷ bs)) then Ok Whole else Err LineLong) else Err LinesSpent) past

by_length : (given : ℕ) (bytes : List ℕ) (short : Bool) → 0 < length bytes → given < most_lines → is_short (first_line bytes) ≡ short
    → answer_of given bytes ≡ (if short then Ok Whole else Err LineLong)
unfolding answer_of
by_length given [] short some few is = absurd (omega (arith, some))
by_length given (b ∷ bs) short some few is =
    let more : nat_lt given most_lines ≡ true = grind (arith, nat_tests) in
    ap (λ (c : Bool). if c then (if is_short (first_line (b ∷ bs)) then Ok Whole else Err LineLong) else Err LinesSpent) more
    ∙ ap (λ (c : Bool). if c then Ok Whole else Err LineLong) is

first_size : (bytes : List ℕ) → length (first_line bytes) ≡ position_or_len is_feed bytes
first_size bytes = omega (arith, length-take (position_or_len is_feed bytes) bytes, line_within is_feed bytes)

short_line : (bytes : List ℕ) → position_or_len is_feed bytes ≤ longest_line → is_short (first_line bytes) ≡ true
unfolding is_short
short_line bytes short = let size = first_size bytes in grind (arith, nat_tests)

long_line : (bytes : List ℕ) → longest_line < position_or_len is_feed bytes → is_short (first_line bytes) ≡ false
unfolding is_short
long_line bytes long = let size = first_size bytes in grind (arith, nat_tests)

module _ (before after : ReaderValue) (old new : InputsTold) (files : new.files ≡ old.files) (faults : old.faults ≤ new.faults)
    (missing : new.missing ≡ old.missing) (bytes : TakesMore old new before.held after.held) where
  stays : IfSome (left_of before old) (λ bytes. left_of after new ≡ Some bytes)
  stays = left_stays old new before.held after.held bytes

  not_whole : (e : LineRefusal) → Err e ≡ Ok Whole → ⊥
  not_whole e h = cc

  -- the end
  pub gives_end : after.given ≡ before.given → after.line ≡ [] → after.held ≡ [] → IsAtEnd new.rest → GivesLine before after old new (Ok End)
  gives_end given empty none end = record {
    files = files;
    faults = faults;
    missing = missing;
    answer = IfSome-next (left_of before old) _ _
        (λ left is. inr (sym (end_of before.given left (none_left after.held new.rest left none end is)))) stays;
    fault = λ e. absurd cc;
    end = λ e. end;
    line = λ e. absurd cc;
    none = λ e. empty;
    unread = λ held. absurd (omega (arith, held, ap length bytes.1, length-append before.held bytes.0, ap length none));
    short = λ e. absurd cc;
    few = λ e. absurd cc;
    left = stays;
    given = given;
  }

  -- a refusal, which what is left gives, or a failed read
  pub gives_none : (e : LineRefusal) → after.given ≡ before.given → after.line ≡ [] → (HoldsLine before.held → new ≡ old)
      → ((left : List ℕ) → left_of after new ≡ Some left → (e ≡ ReadFault) ⊎ (answer_of before.given left ≡ Err e))
      → (e ≡ ReadFault → Rose old.faults new.faults) → GivesLine before after old new (Err e)
  gives_none e given empty unread why fault = record {
    files = files;
    faults = faults;
    missing = missing;
    answer = IfSome-next (left_of before old) _ _
        (λ left is. elim (why left is) [ inl read ↦ inl (ap Err read) | inr same ↦ inr (sym same) ]) stays;
    fault = λ is. fault cc;
    end = λ is. absurd cc;
    line = λ is. absurd (not_whole e is);
    none = λ is. empty;
    unread = unread;
    short = λ is. absurd (not_whole e is);
    few = λ is. absurd (not_whole e is);
    left = stays;
    given = given;
  }

  -- more lines than are given
  pub gives_spent : after.given ≡ before.given → after.line ≡ [] → (HoldsLine before.held → new ≡ old) → most_lines ≤ before.given → 0 < length after.held
      → GivesLine before after old new (Err LinesSpent)
  gives_spent given empty unread most some = gives_none LinesSpent given empty unread
      (λ left is. let behind = some_left after.held new.rest left is in
      inr (spent_of before.given left (omega (arith, ap length behind.1, length-append after.held behind.0, some)) most)) (λ e. absurd cc)

  -- too long a line
  pub gives_long : after.given ≡ before.given → after.line ≡ [] → (HoldsLine before.held → new ≡ old) → before.given < most_lines
      → longest_line < position_or_len is_feed after.held → GivesLine before after old new (Err LineLong)
  gives_long given empty unread few long = gives_none LineLong given empty unread
      (λ left is.
      let behind = some_left after.held new.rest left is in
      let more : position_or_len is_feed after.held ≤ position_or_len is_feed left = subst (λ l. position_or_len is_feed after.held ≤ position_or_len is_feed l) behind.1 (line_more is_feed after.held behind.0) in
      let within = line_within is_feed left in
      inr (by_length before.given left false (omega (arith, long, more, within)) few (long_line left (omega (arith, long, more)))))
      (λ e. absurd cc)

  pub gives_fault : after.given ≡ before.given → after.line ≡ [] → (HoldsLine before.held → new ≡ old) → Rose old.faults new.faults
      → GivesLine before after old new (Err ReadFault)
  gives_fault given empty unread rose = gives_none ReadFault given empty unread (λ left is. inl refl) (λ e. rose)

-- ---- a line that is given

module _ (held : List ℕ) (n : ℕ) (rest : Option (List ℕ)) (size : n ≡ position_or_len is_feed held)
    (ended : (n < length held) ⊎ IsAtEnd rest) where
  within : n ≤ length held
  within = subst (λ m. m ≤ length held) (sym size) (line_within is_feed held)

  -- the line ends at the same place among what is left
  same_end : (behind : List ℕ) → rest ≡ Some behind → position_or_len is_feed (held ++ behind) ≡ n
  same_end behind is = elim ended [
    | inl before ↦ line_front is_feed held behind (subst (λ m. m < length held) size before) ∙ sym size
    | inr end ↦
        let none : behind ≡ [] = subst IsAtEnd is end in
        ap (λ l. position_or_len is_feed (held ++ l)) none ∙ ap (position_or_len is_feed) (append-nil held) ∙ sym size
  ]

  line_is : (behind : List ℕ) → rest ≡ Some behind → take n held ≡ first_line (held ++ behind)
  line_is behind is =
      sym (take-append-le n held behind within) ∙ ap (λ m. take m (held ++ behind)) (sym (same_end behind is))

  behind_is : (behind : List ℕ) → rest ≡ Some behind → drop (min (length held) (n + 1)) held ++ behind ≡ behind_line (held ++ behind)
  behind_is behind is = elim ended [
    | inl before ↦
        let next : min (length held) (n + 1) ≡ n + 1 = omega (arith, before) in
        ap (λ m. drop m held ++ behind) next ∙ sym (drop-append-le (n + 1) held behind (omega (arith, before)))
        ∙ ap (λ m. drop (m + 1) (held ++ behind)) (sym (same_end behind is))
    | inr end ↦
        let none : behind ≡ [] = subst IsAtEnd is end in
        ap (λ l. drop (min (length held) (n + 1)) held ++ l) none
        ∙ append-nil (drop (min (length held) (n + 1)) held)
        ∙ rest_of
        ∙ sym (ap (λ l. drop (n + 1) (held ++ l)) none ∙ ap (drop (n + 1)) (append-nil held))
        ∙ ap (λ m. drop (m + 1) (held ++ behind)) (sym (same_end behind is))
  ]
    where
      rest_of : drop (min (length held) (n + 1)) held ≡ drop (n + 1) held
      rest_of =
          let other : min (length held) (n + 1) ≡ min (n + 1) (length held) = omega arith in
          ap (λ m. drop m held) other ∙ drop_min (n + 1) held

pub gives_line : (before : ReaderValue) (held : List ℕ) (n : ℕ) (old new : InputsTold) → new.files ≡ old.files → old.faults ≤ new.faults
    → new.missing ≡ old.missing → TakesMore old new before.held held → (HoldsLine before.held → new ≡ old)
    → n ≡ position_or_len is_feed held → n ≤ longest_line
    → (n < length held) ⊎ IsAtEnd new.rest → 0 < length held → before.given < most_lines
    → GivesLine before (record { held = drop (min (length held) (n + 1)) held; line = take n held; given = before.given + 1 }) old new (Ok Whole)
gives_line before held n old new files faults missing bytes unread size short ended some few = record {
  files = files;
  faults = faults;
  missing = missing;
  answer = IfSome-next (left_of before old) _ _ (λ left is. inr (sym (answer left (some_left held new.rest left is)))) stays;
  fault = λ e. absurd cc;
  end = λ e. absurd cc;
  line = λ e. IfSome-next (left_of before old) _ _ (λ left is.
      let behind = some_left held new.rest left is in
      line_is held n new.rest size ended behind.0 behind.2 ∙ ap first_line behind.1) stays;
  none = λ no. absurd (no refl);
  unread = unread;
  short = λ e. omega (arith, length-take n held, short);
  few = λ e. few;
  left = IfSome-next (left_of before old) _ _ (λ left is.
      let behind = some_left held new.rest left is in
      ap (prepend_known (drop (min (length held) (n + 1)) held)) behind.2
      ∙ ap Some (behind_is held n new.rest size ended behind.0 behind.2 ∙ ap behind_line behind.1)) stays;
  given = refl;
}
  where
    stays : IfSome (left_of before old) (λ left. prepend_known held new.rest ≡ Some left)
    stays = left_stays old new before.held held bytes

    answer : (left : List ℕ) → (behind : List ℕ) × (held ++ behind ≡ left) × (new.rest ≡ Some behind) → answer_of before.given left ≡ Ok Whole
    answer left behind =
        let end : position_or_len is_feed left ≡ n = ap (position_or_len is_feed) (sym behind.1) ∙ same_end held n new.rest size ended behind.0 behind.2 in
        by_length before.given left true (omega (arith, ap length behind.1, length-append held behind.0, some)) few
        (short_line left (subst (λ m. m ≤ longest_line) (sym end) short))

-- ---- a call, by what its two parts did

module _ {E : Type 0} (before : ReaderValue) (held held' held'' : List ℕ) (old mid new : InputsTold) (b : Bool) (is : held ≡ before.held)
    (begins : BeginsLine {E = E} old mid held held' (Ok b)) where
  first_bytes : TakesMore old mid before.held held'
  first_bytes = subst (λ h. TakesMore old mid h held') is begins.bytes

  -- nothing was read for a line that was held to its end
  first_unread : HoldsLine before.held → mid ≡ old
  first_unread h = begins.unread (omega (arith, h, ap length is))

  next_unread : (HoldsLine held' → new ≡ mid) → HoldsLine before.held → new ≡ old
  next_unread ends h = ends (holds_more before.held held' first_bytes.0 first_bytes.1 h) ∙ first_unread h

  -- no byte was left
  pub ends_here : b ≡ false → GivesLine before (record { held = held'; line = []; given = before.given }) old mid (Ok End)
  ends_here away =
      let end = begins.ended away in
      gives_end before (record { held = held'; line = []; given = before.given }) old mid begins.files begins.faults begins.missing first_bytes
      refl refl end.0 end.1

  -- a byte was, but no more lines are given
  pub spends_here : b ≡ true → most_lines ≤ before.given
      → GivesLine before (record { held = held'; line = []; given = before.given }) old mid (Err LinesSpent)
  spends_here there most =
      gives_spent before (record { held = held'; line = []; given = before.given }) old mid begins.files begins.faults begins.missing first_bytes
      refl refl first_unread most (begins.begun there)

  -- the line isn't given
  pub refuses_here : (e : LineRefusal) (result : Result Line LineRefusal) → result ≡ Err e → before.given < most_lines
      → EndsLine mid new held' held'' (Err e)
      → GivesLine before (record { held = held''; line = []; given = before.given }) old new result
  refuses_here e result same few ends =
      subst (λ r. GivesLine before (record { held = held''; line = []; given = before.given }) old new r) (sym same) (by ends.refused)
    where
      files : new.files ≡ old.files
      files = ends.files ∙ begins.files

      faults : old.faults ≤ new.faults
      faults = omega (arith, ends.faults, begins.faults)

      missing : new.missing ≡ old.missing
      missing = ends.missing ∙ begins.missing

      bytes : TakesMore old new before.held held''
      bytes = takes_both old mid new before.held held' held'' first_bytes ends.bytes

      by : (IsErrOf {T = ℕ} (Err e) LineLong) ⊎ (IsErrOf {T = ℕ} (Err e) ReadFault)
          → GivesLine before (record { held = held''; line = []; given = before.given }) old new (Err e)
      by (inl long) =
          let which : LineLong ≡ e = cc in
          subst (λ e. GivesLine before (record { held = held''; line = []; given = before.given }) old new (Err e)) which
          (gives_long before (record { held = held''; line = []; given = before.given }) old new files faults missing bytes refl refl (next_unread ends.unread) few (ends.long long))
      by (inr fault) =
          let which : ReadFault ≡ e = cc in
          let rose = ends.fault fault in
          subst (λ e. GivesLine before (record { held = held''; line = []; given = before.given }) old new (Err e)) which
          (gives_fault before (record { held = held''; line = []; given = before.given }) old new files faults missing bytes refl refl (next_unread ends.unread) (omega (arith, rose, begins.faults)))

  -- the line is given
  pub gives_here : (n taken : ℕ) → b ≡ true → before.given < most_lines → EndsLine mid new held' held'' (Ok n)
      → taken ≡ min (length held'') (n + 1)
      → GivesLine before (record { held = drop taken held''; line = take n held''; given = before.given + 1 }) old new (Ok Whole)
  gives_here n taken there few ends size =
      subst (λ t. GivesLine before (record { held = drop t held''; line = take n held''; given = before.given + 1 }) old new (Ok Whole)) (sym size)
      (gives_line before held'' n old new (ends.files ∙ begins.files) (omega (arith, ends.faults, begins.faults)) (ends.missing ∙ begins.missing)
      (takes_both old mid new before.held held' held'' first_bytes ends.bytes) (next_unread ends.unread) ends.line ends.short ends.ended some few)
    where
      some : 0 < length held''
      some = omega (arith, begins.begun there, ap length ends.bytes.1, length-append held' ends.bytes.0)
