-- Kept layouts, and when they are those of a tree.
use Rattle.std.specs.Prelude.{◌≡◌, ⊤, ℕ, Bool, true, false, not, ◌||◌, List, [], ◌∷◌, length, map, Option, Some, slice_get, is_some}
use Rattle.std.specs.List.{All, AllByRecursion}
use Rattle.std.specs.Option.{option_and_then}
use Rattle.font_metrics.specs.Metrics.{MetricsValue}
use Rattle.math_tree.specs.declared.node.Node.{Node}
use Rattle.math_tree.specs.declared.node.Node.TheViews.{out-Node}
use Rattle.embellished.specs.Facts.{facts}
use Rattle.embellished.specs.Seen.{Child, flow_children, seen_of}
use Rattle.style_scope.specs.Sizes.{size_of}
use Rattle.layout_model.specs.Answers.{answers_in, questions_in}
use Rattle.layout_model.specs.Fits.{HasStyle}
use Rattle.layout_model.specs.Laws.{answer_of}
use Rattle.layout_model.specs.Layout.{in_range}
use Rattle.layout_model.specs.Questions.{first, second}
use Rattle.layout_model.specs.Range.{is_font_size}
use Rattle.layout_model.specs.declared.context.Context.{Context}
use Rattle.layout_model.specs.declared.context.Question.{Question}
use Rattle.layout_model.specs.declared.reply.Reply.{Reply}
use Rattle.kept_results.specs.Contexts.{Suits}
use Rattle.kept_results.specs.Regular.{IsRegular, restyled_at}
use Rattle.kept_results.specs.declared.memo.Entry.{Entry}
use Rattle.kept_results.specs.declared.memo.Memo.{Memo}
use Rattle.kept_results.specs.declared.memo.Origin.{Origin}
use Rattle.kept_results.specs.declared.memo.Origin.TheVariants.{Made, Remade, Standing}
use Rattle.kept_results.specs.declared.memo.Memo.TheOpen.{Memo-F}
use Rattle.kept_results.specs.declared.memo.Memo.TheViews.{out-Memo}

-- ---- entries

-- the present edit changes the element, or one below it
abbrev pub is_marked : {X : Type 0} → Memo-F X → Bool
is_marked layer = is_some layer.former

-- the place of the element's child on the way to the present edit, where it is known that layout
-- sees the same of it and of its children as before, but for the head of that child
abbrev pub alike_but : {X : Type 0} → Memo-F X → Option ℕ
alike_but layer = option_and_then (λ former. former.alike_but) layer.former

-- the present pass made an entry, or made it anew out of one that stood: by how it stands to that
abbrev pub is_fresh_from : Origin → Bool
is_fresh_from Standing = false
is_fresh_from Made = true
is_fresh_from (Remade was) = true

-- such an entry is fresh
abbrev pub is_fresh : Entry → Bool
is_fresh entry = is_fresh_from entry.origin

-- an entry of a marked element that isn't fresh is an older one
abbrev pub is_live : Bool → Entry → Bool
is_live marked entry = not marked || is_fresh entry

-- an element has this entry, and it is no older one
pub record HasEntry (layer : Memo-F Memo) (entry : Entry) : Type 0 where
  pub place : ℕ
  pub at : slice_get layer.entries place ≡ Some entry
  pub live : is_live (is_marked layer) entry ≡ true

-- it has one in a context
pub record IsKept (layer : Memo-F Memo) (context : Context) : Type 0 where
  pub entry : Entry
  pub has : HasEntry layer entry
  pub in_context : entry.context ≡ context

-- it has none in a context
abbrev pub IsMissing : Bool → Context → List Entry → Type 0
IsMissing marked context entries =
    AllByRecursion (λ entry. is_live marked entry ≡ true → entry.context ≡ context → ⊥) entries

-- no two are in one context
abbrev pub AreApart : Bool → List Entry → Type 0
AreApart marked [] = ⊤
AreApart marked (entry ∷ entries) =
    (is_live marked entry ≡ true → IsMissing marked entry.context entries) × AreApart marked entries

-- ---- beside a tree

-- a question of an element names an entry of the child to which it goes
pub record NamesKept (node : Node) (below : List Memo) (question : Question) : Type 0 where
  pub child : Child
  pub to : slice_get (flow_children node) question.kid ≡ Some child
  pub memo : Memo
  pub at : slice_get below child.place ≡ Some memo
  pub kept : IsKept (out-Memo memo) question.context

-- an entry has what its element asks as the tree is now, with what was answered in both waves; all
-- that is made for it is in range; what it asks first keeps the bounds of styles; all that it asks
-- is kept; and where it is noted as regular, its element is. That its run has the layout of its
-- element is said beside the runs (`IsBacked`)
pub record IsSound (m : MetricsValue) (node : Node) (below : List Memo) (entry : Entry)
    : Type 0 where
  pub suits : Suits m node entry.context
  pub fits : in_range m node entry.context ≡ true
  pub ones : questions_in entry.one ≡ first m (seen_of node) entry.context
  pub one : answers_in entry.one ≡ map (answer_of m node) (questions_in entry.one)
  pub twos : questions_in entry.two ≡ second m (seen_of node) entry.context
      (map (answer_of m node) (first m (seen_of node) entry.context))
  pub two : answers_in entry.two ≡ map (answer_of m node) (questions_in entry.two)
  pub styled : All HasStyle (questions_in entry.one)
  pub ones_kept : AllByRecursion (NamesKept node below) (questions_in entry.one)
  pub twos_kept : AllByRecursion (NamesKept node below) (questions_in entry.two)
  pub regular : entry.regular ≡ true → IsRegular m node entry.context (questions_in entry.one)

-- a regular entry of before the edit, where only the child at a place may have another head and
-- other answers since: its element is regular as the tree is now, in a size that a style may have;
-- what it asked is what the element asks now, but for the style of that child, and keeps the bounds
-- of styles; it asked nothing in the second wave; what the other children answered is what they
-- answer now, and is kept
pub record StaysBut (m : MetricsValue) (node : Node) (below : List Memo) (place : ℕ) (entry : Entry)
    : Type 0 where
  pub regular : IsRegular m node entry.context (questions_in entry.one)
  pub sized : is_font_size (size_of m entry.context.style) ≡ true
  pub ones : first m (seen_of node) entry.context
      ≡ map (restyled_at m (seen_of node) entry.context place) (questions_in entry.one)
  pub styled : All HasStyle (questions_in entry.one)
  pub two : entry.two ≡ []
  pub others : (index : ℕ) (reply : Reply) → slice_get entry.one index ≡ Some reply
      → (index ≡ place → ⊥)
      → (reply.answer ≡ answer_of m node reply.question) × NamesKept node below reply.question

-- what is known of an element, one memo for each child, and entries that are sound, but for the
-- older ones, and of which no two are in one context. Older ones that are regular stay, but for one
-- child, where layout sees the same but for that child
pub record IsMemoOf (m : MetricsValue) (node : Node) (layer : Memo-F Memo) : Type 0 where
  pub facts_are : layer.facts ≡ facts node
  pub as_many : length layer.below ≡ length (out-Node node).children
  pub sound : (entry : Entry) → HasEntry layer entry → IsSound m node layer.below entry
  pub apart : AreApart (is_marked layer) layer.entries
  pub stays : (child : ℕ) → alike_but layer ≡ Some child → (place : ℕ) (entry : Entry)
      → slice_get layer.entries place ≡ Some entry
      → is_fresh entry ≡ false → entry.regular ≡ true → StaysBut m node layer.below child entry

-- an element of a tree and its memo, by the places of children down to it
abbrev pub StandAt : List ℕ → Node → Memo → Node → Memo → Type 0
StandAt [] node memo element kept = (element ≡ node) × (kept ≡ memo)
StandAt (place ∷ path) node memo element kept =
    (child : Node) × (below : Memo) × (slice_get (out-Node node).children place ≡ Some child)
    × (slice_get (out-Memo memo).below place ≡ Some below) × StandAt path child below element kept

-- the state of a memo beside a tree: it is right of each element
pub record Agrees (m : MetricsValue) (node : Node) (memo : Memo) : Type 0 where
  pub at : (path : List ℕ) (element : Node) (kept : Memo) → StandAt path node memo element kept
      → IsMemoOf m element (out-Memo kept)

-- ---- entries at paths

abbrev pub HoldsIn : List ℕ → Memo-F Memo → Entry → Type 0
HoldsIn [] layer entry = HasEntry layer entry
HoldsIn (place ∷ path) layer entry = (below : Memo) × (slice_get layer.below place ≡ Some below)
    × HoldsIn path (out-Memo below) entry

-- the element at a path has this entry
abbrev pub Holds : List ℕ → Memo → Entry → Type 0
Holds path memo entry = HoldsIn path (out-Memo memo) entry

-- it has one in a context
pub record HoldsOne (path : List ℕ) (memo : Memo) (context : Context) : Type 0 where
  pub entry : Entry
  pub held : Holds path memo entry
  pub in_context : entry.context ≡ context

-- each entry that isn't older stays, as it is
pub record Keeps (before after : Memo) : Type 0 where
  pub at : (path : List ℕ) (entry : Entry) → Holds path before entry → Holds path after entry
