-- What is found among the entries of an element, and how one more is kept, or one is made anew.
use Rattle.std.specs.Prelude.{◌≡◌, ℕ, ◌<◌, true, false, List, ◌++◌, ◌∷◌, [], length, Some, slice_get, slice_set}
use Rattle.std.specs.Option.{option_map_or}
use Rattle.layout_model.specs.declared.context.Context.{Context}
use Rattle.layout_model.specs.declared.outcome.Answer.{Answer}
use Rattle.layout_model.specs.declared.outcome.Outcome.{Outcome}
use Rattle.layout_model.specs.declared.reply.Reply.{Reply}
use Rattle.embellished.specs.declared.facts.Facts.{Facts}
use Rattle.box_pool.specs.declared.pool.RunId.{RunId}
use Rattle.outcome_cells.specs.Store.{HasOutcome, PutsOutcome, Runs, StoreValue}
use Rattle.kept_results.specs.Kept.{HasEntry, alike_but, is_fresh}
use Rattle.kept_results.specs.declared.earlier.Earlier.{Earlier}
use Rattle.kept_results.specs.declared.entries.Asked.{Asked}
use Rattle.kept_results.specs.declared.memo.Entry.{Entry}
use Rattle.kept_results.specs.declared.memo.Memo.{Memo}
use Rattle.kept_results.specs.declared.memo.Origin.TheVariants.{Made, Remade}
use Rattle.kept_results.specs.declared.memo.Memo.TheOpen.{Memo-F}
use Rattle.kept_results.specs.declared.memo.Memo.TheViews.{out-Memo, roll-Memo}

-- an entry in a context is no older one, and this is the answer of the outcome that its run has
pub record HasAnswer (runs : Runs) (layer : Memo-F Memo) (context : Context) (answer : Answer)
    : Type 0 where
  pub entry : Entry
  pub has : HasEntry layer entry
  pub in_context : entry.context ≡ context
  pub answers : (o : Outcome) → HasOutcome runs entry.run.0 o → answer ≡ o.answer

-- an entry of before the present edit, in a context, of a regular element that asked the child at a
-- place
pub record CanServe (entry : Entry) (context : Context) (child : ℕ) : Type 0 where
  pub older : is_fresh entry ≡ false
  pub regular : entry.regular ≡ true
  pub within : child < length entry.one
  pub in_context : entry.context ≡ context

-- this names such an entry, and the place of a child but for which layout sees the same of the
-- element
pub record IsEarlier (layer : Memo-F Memo) (context : Context) (before : Earlier) : Type 0 where
  pub entry : Entry
  pub at : slice_get layer.entries before.entry ≡ Some entry
  pub serves : CanServe entry context before.child
  pub alike : alike_but layer ≡ Some before.child

-- no entry can serve
abbrev pub HasNoEarlier : Memo-F Memo → Context → Type 0
HasNoEarlier layer context = (child : ℕ) → alike_but layer ≡ Some child
    → (place : ℕ) (entry : Entry)
    → slice_get layer.entries place ≡ Some entry → CanServe entry context child → ⊥

-- an entry is in this context; these are the replies for it, and this is said of whether its
-- element is regular
pub record IsEntryOf (entry : Entry) (context : Context) (asked : Asked) : Type 0 where
  pub in_context : entry.context ≡ context
  pub one_is : entry.one ≡ asked.one
  pub two_is : entry.two ≡ asked.two
  pub regular_is : entry.regular ≡ asked.regular

-- one entry that the pass made was added, in a context, with what was asked for it, and its outcome
-- was put in the store, under its run
pub record IsKeptNow (before after : Memo) (from to : StoreValue) (context : Context)
    (outcome : Outcome) (asked : Asked) : Type 0 where
  pub entry : Entry
  pub holds : IsEntryOf entry context asked
  pub puts : PutsOutcome from to entry.run.0 outcome
  pub made : entry.origin ≡ Made
  pub added : after ≡ roll-Memo record {
    former = (out-Memo before).former;
    facts = (out-Memo before).facts;
    entries = (out-Memo before).entries ++ entry ∷ [];
    below = (out-Memo before).below;
  }

-- ---- made anew

-- the replies of the first wave of the entry at a place; none where there is no entry
abbrev pub one_at : Memo-F Memo → ℕ → List Reply
one_at layer place = option_map_or (λ entry. entry.one) (slice_get layer.entries place) []

-- the same where this is the reply of the child at a place
abbrev pub one_with : Memo → Earlier → Reply → List Reply
one_with memo before reply = slice_set (one_at (out-Memo memo) before.entry) before.child reply

-- an entry with this reply of the child at a place
abbrev pub turned : Entry → ℕ → Reply → Entry
turned entry child reply = record {
  context = entry.context;
  run = entry.run;
  one = slice_set entry.one child reply;
  two = entry.two;
  regular = entry.regular;
  origin = entry.origin;
}

-- an entry with another run: it holds the one that it had, and the reply of a child before that
-- child was asked again
abbrev pub remade : Entry → RunId → ℕ → Reply → Entry
remade entry run child had = record {
  context = entry.context;
  run = run;
  one = entry.one;
  two = entry.two;
  regular = entry.regular;
  origin = Remade (record { child = child; reply = had; run = entry.run } ∷ []);
}

-- another entry at a place
abbrev pub with_entry : Memo → ℕ → Entry → Memo-F Memo
with_entry memo place entry = record {
  former = (out-Memo memo).former;
  facts = (out-Memo memo).facts;
  entries = slice_set (out-Memo memo).entries place entry;
  below = (out-Memo memo).below;
}

-- an entry was made anew: this is the reply of the child on the way since, and so its outcome is
-- this one, which was put in the store, under the run that it has
pub record IsMadeAgain (before after : Memo) (from to : StoreValue) (earlier : Earlier)
    (outcome : Outcome) (reply : Reply) : Type 0 where
  pub run : RunId
  pub puts : PutsOutcome from to run.0 outcome
  pub entry : Entry
  pub at : slice_get (out-Memo before).entries earlier.entry ≡ Some entry
  pub had : Reply
  pub has : slice_get entry.one earlier.child ≡ Some had
  pub changed : after ≡ roll-Memo
      (with_entry before earlier.entry
      (remade (turned entry earlier.child reply) run earlier.child had))

-- what the element of a memo is among operators
abbrev pub own_facts : Memo → Facts
own_facts memo = (out-Memo memo).facts
