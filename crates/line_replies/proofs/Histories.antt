-- What a call of a ring makes of the history that it keeps, and what is answered to it.
use Rattle.std.proofs.Common.{◌≡◌, ◌∙◌, inl, sym, ap, refl, subst, pos, ℕ, Bool, true, false, List, [], ◌∷◌, Option, Some, None}
use Rattle.std.specs.Prelude.{Result, Ok, Err, IsErr, if◌then◌else◌, unwrap_or}
use Rattle.std.specs.List.{All}
use Rattle.std.proofs.lemmas.Option.{same_Some}
use Rattle.font_metrics.specs.Metrics.{MetricsValue}
use Rattle.font_metrics.specs.Taken.{IsTaken}
use Rattle.math_tree.specs.Forms.{is_white_space}
use Rattle.math_tree.specs.Trees.{TreeValue}
use Rattle.math_tree.specs.declared.node.Node.TheViews.{out-Node}
use Rattle.tree_edits.specs.Commands.{command_in}
use Rattle.tree_edits.specs.Edits.{edited}
use Rattle.tree_edits.specs.declared.command.Command.{Command}
use Rattle.tree_edits.specs.declared.command.Command.TheVariants.{Show, Change}
use Rattle.tree_edits.specs.declared.edit.Edit.{Edit}
use Rattle.edit_session.specs.Counts.{TakesNeeded}
use Rattle.layout_model.proofs.LaidTrees.{drawn_law}
use Rattle.layout_model.specs.Layout.{is_tree_in_range, laid_tree, root_context}
use Rattle.box_writer.specs.Items.{IsOfFont}
use Rattle.box_writer.specs.declared.placed.PlacedItem.{PlacedItem}
use Rattle.edit_session.specs.Session.{SessionValue, page}
use Rattle.placement.proofs.Glyphs.{glyph_law}
use Rattle.placement.specs.Placing.{placed}
use Rattle.edit_ring.specs.Grounds.{IsStanding}
use Rattle.edit_ring.specs.Rings.{History, RingEdits, RingMoves, RingState, TakesMove, after_redo, after_undo, back_over, back_to, forth_over, forth_to, history_of, redone, trail, undone}
use Rattle.edit_ring.specs.declared.ground.GroundRefusal.{GroundRefusal}
use Rattle.edit_ring.specs.declared.ground.GroundRefusal.TheVariants.{Edit as Refuses, Range as PassesRange, Memory as LacksMemory}
use Rattle.edit_ring.specs.declared.ring.RingRefusal.{RingRefusal}
use Rattle.edit_ring.specs.declared.ring.RingRefusal.TheVariants.{Nothing as HoldsNone, Memory as HasNoMemory}
use Rattle.command_reader.proofs.Commands.{no_move}
use Rattle.command_reader.specs.Moves.{move_in}
use Rattle.edit_session.specs.Undoable.{told}
use Rattle.command_reader.specs.declared.moves.Move.{Move}
use Rattle.command_reader.specs.declared.moves.Move.TheVariants.{Undo, Redo, Other}
use Rattle.line_replies.specs.EditSteps.{accepted_by}
use Rattle.line_replies.specs.History.{Remembered, after_command, after_line, after_move, after_reply, moved_to, reply_by_move, reply_to, reply_to_move, session_in}
use Rattle.line_replies.specs.HistoryParts.{Makes, TellsEdit, TellsMove, kept_after_move}
use Rattle.line_replies.specs.HistorySteps.{Kept, TakesForLine, TakesForMove, TakesUnlessWhite, kept_after, kept_by, ring_after, ring_after_move, ring_after_reply, session_under}
use Rattle.line_replies.specs.Replies.{reply_by, reply_to_edit}
use Rattle.line_replies.proofs.EditSteps.{none_for_edit}
use Rattle.line_replies.specs.declared.reply.Cause.TheVariants.{NoCommand, Unmade, OutOfRange}
use Rattle.line_replies.specs.declared.reply.Reply.{Reply}
use Rattle.line_replies.specs.declared.reply.Reply.TheVariants.{Nothing, Accepted, Refused, Shown}

-- where memory is refused nothing is said
unmade : {E : Type 0} (wanted : Reply) (kept : Kept) (old new : RingState) (result : Result Reply E) → IsErr result → new ≡ old → Makes wanted kept old new result
unmade wanted kept old new (Ok reply) none same = absurd (let e = none in cc)
unmade wanted kept old new (Err e) none same = record { reply = tt; glyphs = tt; after = tt; unchanged = same }

-- ---- moves

-- a ring that was moved keeps its metrics and its depth
pub record Keeps (before after : RingState) : Type 0 where
  pub metrics : after.told.metrics ≡ before.told.metrics
  pub depth : after.depth ≡ before.depth

kept_of : (before moved after : RingState) → moved.told.metrics ≡ before.told.metrics → moved.depth ≡ before.depth → Some moved ≡ Some after → Keeps before after
kept_of before moved after m d is =
    let same : moved ≡ after = same_Some moved after is in
    record { metrics = ap (λ (s : RingState). s.told.metrics) (sym same) ∙ m; depth = ap (λ (s : RingState). s.depth) (sym same) ∙ d }

pub back_keeps : (before after : RingState) (es : List Edit) → back_over es before ≡ Some after → Keeps before after
back_keeps before after [] h = absurd cc
back_keeps before after (e ∷ es) h = kept_of before _ after refl refl h

pub forth_keeps : (before after : RingState) (es : List Edit) → forth_over es before ≡ Some after → Keeps before after
forth_keeps before after [] h = absurd cc
forth_keeps before after (e ∷ es) h = kept_of before _ after refl refl h

back_none : (before : RingState) (es : List Edit) → back_to (trail before.told.tree es) (history_of before) ≡ None → back_over es before ≡ None
back_none before [] h = refl
back_none before (e ∷ es) h = absurd cc

forth_none : (before : RingState) (es : List Edit) → forth_to (trail before.told.tree es) (history_of before) ≡ None → forth_over es before ≡ None
forth_none before [] h = refl
forth_none before (e ∷ es) h = absurd cc

module _ (way : RingState → Option RingState) (next : History → Option History) (before after : RingState) (kept : List Edit) (s t : ℕ)
    (keeps : way before ≡ Some after → Keeps before after) (none : next (history_of before) ≡ None → way before ≡ None) where
  abbrev Then : Kept
  Then = record { history = moved_to (next (history_of before)) (kept_by before).history; ring = unwrap_or (way before) before }

  moved_makes : {E : Type 0} (moved : Result (Unit {0}) RingRefusal) (result : Result Reply E)
      → RingMoves TakesNeeded way next before after kept s t moved → TellsMove moved result
      → Makes (reply_to_move (next (history_of before))) Then before after result
  moved_makes (Ok done) result m tells =
      let k = keeps m.state in
      subst (Makes (reply_to_move (next (history_of before))) Then before after) (sym tells) (record {
        reply = sym (ap reply_to_move m.history);
        glyphs = tt;
        after = λ i. record {
          history = ((λ j. record { history = history_of after; next_id = m.next_id j; metrics = k.metrics j; depth = k.depth j })
              ∙ sym (ap (λ o. moved_to o (kept_by before).history) m.history)) i;
          ring = sym (ap (λ o. unwrap_or o before) m.state) i;
        };
        unchanged = tt;
      })
  moved_makes (Err HoldsNone) result m tells =
      let away : next (history_of before) ≡ None = m.nothing.0 refl in
      subst (Makes (reply_to_move (next (history_of before))) Then before after) (sym tells) (record {
        reply = sym (ap reply_to_move away);
        glyphs = tt;
        after = ap kept_by m.unchanged ∙ (λ i. record {
          history = sym (ap (λ o. moved_to o (kept_by before).history) away) i;
          ring = sym (ap (λ o. unwrap_or o before) (none away)) i;
        });
        unchanged = tt;
      })
  moved_makes (Err HasNoMemory) result m tells = unmade (reply_to_move (next (history_of before))) Then before after result tells m.unchanged

pub undo_makes : {E : Type 0} (before after : RingState) (s t : ℕ) (moved : Result (Unit {0}) RingRefusal) (result : Result Reply E)
    → RingMoves TakesNeeded undone after_undo before after before.past s t moved → TellsMove moved result
    → Makes (reply_by_move Undo (kept_by before).history None) (kept_after_move Undo (kept_by before) None) before after result
undo_makes before after s t moved result m tells =
    moved_makes undone after_undo before after before.past s t (back_keeps before after before.past) (back_none before before.past) moved result m tells

pub redo_makes : {E : Type 0} (before after : RingState) (s t : ℕ) (moved : Result (Unit {0}) RingRefusal) (result : Result Reply E)
    → RingMoves TakesNeeded redone after_redo before after before.future s t moved → TellsMove moved result
    → Makes (reply_by_move Redo (kept_by before).history None) (kept_after_move Redo (kept_by before) None) before after result
redo_makes before after s t moved result m tells =
    moved_makes redone after_redo before after before.future s t (forth_keeps before after before.future) (forth_none before before.future) moved result m tells

-- ---- edits

module _ (session : SessionValue) (past future : List Edit) (depth : ℕ) (after : RingState) (edit : Edit) (s t : ℕ) where
  abbrev before : RingState
  before = record { told = told session; past = past; future = future; depth = depth }

  abbrev wanted : Reply
  wanted = reply_to_edit (session_in (kept_by before).history) edit

  abbrev changed : Kept
  changed = kept_after_move Other (kept_by before) (Some (Change edit))

  -- what is kept, by the reply
  by_reply : (reply : Reply) → wanted ≡ reply
      → changed ≡ record { history = after_reply reply (kept_by before).history edit; ring = ring_after_reply reply before edit }
  by_reply reply is = λ i. record {
    history = after_reply (is i) (kept_by before).history edit;
    ring = ring_after_reply (is i) before edit;
  }

  pub edit_makes : {E : Type 0} (made : Result (Unit {0}) GroundRefusal) (result : Result Reply E)
      → RingEdits TakesNeeded before after edit s t made → TellsEdit made result → Makes wanted changed before after result
  edit_makes (Ok done) result e tells =
      let is : wanted ≡ Accepted = λ i. reply_by (e.accepted i) (e.good i) in
      subst (Makes wanted changed before after) (sym tells) (record {
        reply = sym is;
        glyphs = tt;
        after = (λ i. record {
          history = record { history = e.history i; next_id = (e.told i).tree.next_id; metrics = (e.told i).metrics; depth = e.depth i };
          ring = record { told = e.told i; past = e.past i; future = e.future i; depth = e.depth i };
        }) ∙ sym (by_reply Accepted is);
        unchanged = tt;
      })
  edit_makes (Err (Refuses reason)) result e tells =
      let is : wanted ≡ Refused (Unmade reason) = ap (λ refused. reply_by refused (before.told.is_good (edited session.tree edit).root)) e.refused.0 in
      subst (Makes wanted changed before after) (sym tells)
      (record { reply = sym is; glyphs = tt; after = ap kept_by e.unchanged ∙ sym (by_reply (Refused (Unmade reason)) is); unchanged = tt })
  edit_makes (Err PassesRange) result e tells =
      let is : wanted ≡ Refused OutOfRange = λ i. reply_by (e.refused.0 i) (e.refused.1 i) in
      subst (Makes wanted changed before after) (sym tells)
      (record { reply = sym is; glyphs = tt; after = ap kept_by e.unchanged ∙ sym (by_reply (Refused OutOfRange) is); unchanged = tt })
  edit_makes (Err LacksMemory) result e tells = unmade wanted changed before after result tells e.unchanged

-- ---- the boxes

-- the glyphs of a page are glyphs of the font
glyphs_known : (m : MetricsValue) (tree : TreeValue) → IsTaken m → is_tree_in_range m tree ≡ true → All (IsOfFont m) (placed (laid_tree m tree) (pos 0) (pos 0))
glyphs_known m tree taken fit =
    glyph_law m (laid_tree m tree) (pos 0) (pos 0) (drawn_law m tree.root (root_context m (out-Node tree.root).head) taken fit)

pub show_makes : {E : Type 0} (session : SessionValue) (past future : List Edit) (depth : ℕ) (after : RingState) (items : List PlacedItem)
    → IsTaken session.metrics → IsStanding (told session) → items ≡ page session
    → after ≡ record { told = told session; past = past; future = future; depth = depth }
    → Makes {E = E} (Shown (page session)) (kept_by (record { told = told session; past = past; future = future; depth = depth }))
    (record { told = told session; past = past; future = future; depth = depth }) after (Ok (Shown items))
show_makes session past future depth after items taken stands boxes unchanged = record {
  reply = ap Shown boxes;
  glyphs = subst (All (IsOfFont session.metrics)) (sym boxes) (glyphs_known session.metrics session.tree taken stands.good);
  after = ap kept_by unchanged;
  unchanged = tt;
}

-- ---- a line

pub nothing_made : {E : Type 0} (ring : RingState) (line : List ℕ) → is_white_space line ≡ true
    → Makes {E = E} (reply_to (kept_by ring).history line) (kept_after (kept_by ring) line) ring ring (Ok Nothing)
unfolding reply_to after_line ring_after
nothing_made ring line white = record {
  reply = sym (ap (λ (b : Bool). if b then Nothing else reply_by_move (move_in line) (kept_by ring).history (command_in line)) white);
  glyphs = tt;
  after = λ i. record {
    history = sym (ap (λ (b : Bool). if b then (kept_by ring).history else after_move (move_in line) (kept_by ring).history (command_in line)) white) i;
    ring = sym (ap (λ (b : Bool). if b then ring else ring_after_move (move_in line) ring (command_in line)) white) i;
  };
  unchanged = tt;
}

module _ {E : Type 0} (old new : RingState) (line : List ℕ) (result : Result Reply E) (black : is_white_space line ≡ false) where
  made_by : Makes (reply_by_move (move_in line) (kept_by old).history (command_in line)) (kept_after_move (move_in line) (kept_by old) (command_in line)) old new result
      → Makes (reply_to (kept_by old).history line) (kept_after (kept_by old) line) old new result
  unfolding reply_to after_line ring_after
  made_by m = subst (λ (b : Bool). Makes
      (if b then Nothing else reply_by_move (move_in line) (kept_by old).history (command_in line))
      (record {
        history = if b then (kept_by old).history else after_move (move_in line) (kept_by old).history (command_in line);
        ring = if b then old else ring_after_move (move_in line) old (command_in line);
      }) old new result) (sym black) m

  pub line_makes : (move : Move) → move ≡ move_in line
      → Makes (reply_by_move move (kept_by old).history (command_in line)) (kept_after_move move (kept_by old) (command_in line)) old new result
      → Makes (reply_to (kept_by old).history line) (kept_after (kept_by old) line) old new result
  line_makes move is m =
      made_by (subst (λ (w : Move). Makes (reply_by_move w (kept_by old).history (command_in line)) (kept_after_move w (kept_by old) (command_in line)) old new result) is m)

-- ---- steps

pub none_for_move : (move : Move) (ring : RingState) (asked : Option Command) (from to : ℕ) → to ≡ from → TakesForMove move ring asked from to
none_for_move Undo ring asked from to none = stay ring.past
  where
    stay : (es : List Edit) → TakesMove TakesNeeded ring.told es from to
    stay [] = none
    stay (e ∷ es) = inl none
none_for_move Redo ring asked from to none = stay ring.future
  where
    stay : (es : List Edit) → TakesMove TakesNeeded ring.told es from to
    stay [] = none
    stay (e ∷ es) = inl none
none_for_move Other ring asked from to none = none_for_edit (session_under ring) (accepted_by (session_under ring) asked) from to none

pub no_steps : (ring : RingState) (line : List ℕ) (from to : ℕ) → to ≡ from → TakesForLine ring line from to
no_steps ring line from to none = by (is_white_space line)
  where
    by : (white : Bool) → TakesUnlessWhite white ring line from to
    by true = none
    by false = none_for_move (move_in line) ring (command_in line) from to none

pub line_takes : (ring : RingState) (line : List ℕ) (move : Move) (from to : ℕ) → is_white_space line ≡ false → move ≡ move_in line
    → TakesForMove move ring (command_in line) from to → TakesForLine ring line from to
line_takes ring line move from to black is steps =
    subst (λ (white : Bool). TakesUnlessWhite white ring line from to) (sym black)
    (subst (λ (w : Move). TakesForMove w ring (command_in line) from to) is steps)

-- ---- what a line asks for otherwise

module _ {E : Type 0} (old new : RingState) (line : List ℕ) (result : Result Reply E) where
  pub asked_makes : (asked : Option Command) → command_in line ≡ asked
      → Makes (reply_by_move Other (kept_by old).history asked) (kept_after_move Other (kept_by old) asked) old new result
      → Makes (reply_by_move Other (kept_by old).history (command_in line)) (kept_after_move Other (kept_by old) (command_in line)) old new result
  asked_makes asked is m =
      subst (λ (a : Option Command). Makes (reply_by_move Other (kept_by old).history a) (kept_after_move Other (kept_by old) a) old new result) (sym is) m

-- the way that a line goes
module _ {E : Type 0} (old new : RingState) (result : Result Reply E) where
  pub way_makes : (move way : Move) → move ≡ way
      → Makes (reply_by_move move (kept_by old).history None) (kept_after_move move (kept_by old) None) old new result
      → Makes (reply_by_move way (kept_by old).history None) (kept_after_move way (kept_by old) None) old new result
  way_makes move way is m =
      subst (λ (w : Move). Makes (reply_by_move w (kept_by old).history None) (kept_after_move w (kept_by old) None) old new result) is m

pub way_takes : (ring : RingState) (move way : Move) (from to : ℕ) → move ≡ way → TakesForMove move ring None from to → TakesForMove way ring None from to
way_takes ring move way from to is steps = subst (λ (w : Move). TakesForMove w ring None from to) is steps

-- a line that is a command goes no way through the history
module _ {E : Type 0} (old new : RingState) (line : List ℕ) (result : Result Reply E) (black : is_white_space line ≡ false) where
  pub command_makes : (command : Command) → command_in line ≡ Some command
      → Makes (reply_by_move Other (kept_by old).history (Some command)) (kept_after_move Other (kept_by old) (Some command)) old new result
      → Makes (reply_to (kept_by old).history line) (kept_after (kept_by old) line) old new result
  command_makes command is m = line_makes old new line result black Other (sym (no_move line command is)) (asked_makes old new line result (Some command) is m)

  -- and one that is none goes its way without one
  pub step_makes : command_in line ≡ None
      → Makes (reply_by_move (move_in line) (kept_by old).history None) (kept_after_move (move_in line) (kept_by old) None) old new result
      → Makes (reply_to (kept_by old).history line) (kept_after (kept_by old) line) old new result
  step_makes is m =
      line_makes old new line result black (move_in line) refl
      (subst (λ (a : Option Command). Makes (reply_by_move (move_in line) (kept_by old).history a) (kept_after_move (move_in line) (kept_by old) a) old new result) (sym is) m)

pub nothing_asked : {E : Type 0} (old : RingState)
    → Makes {E = E} (reply_by_move Other (kept_by old).history None) (kept_after_move Other (kept_by old) None) old old (Ok (Refused NoCommand))
nothing_asked old = record { reply = refl; glyphs = tt; after = refl; unchanged = tt }

pub asked_takes : (ring : RingState) (line : List ℕ) (asked : Option Command) (from to : ℕ) → command_in line ≡ asked
    → TakesForMove Other ring asked from to → TakesForMove Other ring (command_in line) from to
asked_takes ring line asked from to is steps = subst (λ (a : Option Command). TakesForMove Other ring a from to) (sym is) steps

-- the steps of a line that is a command, and of one that is none
pub command_takes : (ring : RingState) (line : List ℕ) (command : Command) (from to : ℕ) → is_white_space line ≡ false → command_in line ≡ Some command
    → TakesForMove Other ring (Some command) from to → TakesForLine ring line from to
command_takes ring line command from to black is steps =
    line_takes ring line Other from to black (sym (no_move line command is)) (asked_takes ring line (Some command) from to is steps)

pub step_takes : (ring : RingState) (line : List ℕ) (from to : ℕ) → is_white_space line ≡ false → command_in line ≡ None
    → TakesForMove (move_in line) ring None from to → TakesForLine ring line from to
step_takes ring line from to black is steps =
    line_takes ring line (move_in line) from to black refl
    (subst (λ (a : Option Command). TakesForMove (move_in line) ring a from to) (sym is) steps)

-- ---- no line changes the metrics

moved_keeps : (moved : Option History) (kept : Remembered) → (moved_to moved kept).metrics ≡ kept.metrics
moved_keeps None kept = refl
moved_keeps (Some history) kept = refl

reply_keeps : (reply : Reply) (kept : Remembered) (edit : Edit) → (after_reply reply kept edit).metrics ≡ kept.metrics
reply_keeps Nothing kept edit = refl
reply_keeps Accepted kept edit = refl
reply_keeps (Refused cause) kept edit = refl
reply_keeps (Shown items) kept edit = refl

command_keeps : (kept : Remembered) (asked : Option Command) → (after_command kept asked).metrics ≡ kept.metrics
command_keeps kept None = refl
command_keeps kept (Some Show) = refl
command_keeps kept (Some (Change edit)) = reply_keeps (reply_to_edit (session_in kept) edit) kept edit

move_keeps : (move : Move) (kept : Remembered) (asked : Option Command) → (after_move move kept asked).metrics ≡ kept.metrics
move_keeps Undo kept asked = moved_keeps (after_undo kept.history) kept
move_keeps Redo kept asked = moved_keeps (after_redo kept.history) kept
move_keeps Other kept asked = command_keeps kept asked

pub history_keeps : (kept : Remembered) (line : List ℕ) → (after_line kept line).metrics ≡ kept.metrics
unfolding after_line
history_keeps kept line = by (is_white_space line)
  where
    by : (white : Bool) → (if white then kept else after_move (move_in line) kept (command_in line)).metrics ≡ kept.metrics
    by true = refl
    by false = move_keeps (move_in line) kept (command_in line)
