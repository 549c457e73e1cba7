-- How a pass ends: what it made is undone, or else what is older is dropped.
use Rattle.std.specs.Prelude.{◌≡◌, ℕ, ◌+◌, Bool, List, [], ◌∷◌, filter, length, map, slice_get, slice_set, None}
use Rattle.std.specs.List.{flat_map, sum}
use Rattle.std.specs.Option.{option_map, option_map_or}
use Rattle.kept_results.specs.Kept.{is_fresh, is_live, is_marked}
use Rattle.kept_results.specs.declared.memo.Before.{Before}
use Rattle.kept_results.specs.declared.memo.Entry.{Entry}
use Rattle.kept_results.specs.declared.memo.Memo.{Memo}
use Rattle.kept_results.specs.declared.memo.Origin.{Origin}
use Rattle.kept_results.specs.declared.memo.Origin.TheVariants.{Made, Remade, Standing}
use Rattle.kept_results.specs.declared.memo.Memo.TheFolds.{fold-Memo}
use Rattle.kept_results.specs.declared.memo.Memo.TheOpen.{Memo-F}
use Rattle.kept_results.specs.declared.memo.Memo.TheViews.{out-Memo, roll-Memo}

-- ---- undone

-- an entry as it was before the present pass made it anew
abbrev pub restored : Entry → Before → Entry
restored entry before = record {
  context = entry.context;
  run = before.run;
  one = slice_set entry.one before.child before.reply;
  two = entry.two;
  regular = entry.regular;
  origin = Standing;
}

-- what there was of an entry before the present pass, by how it stands to that: nothing where the
-- pass made it. Where it was made anew there is one thing that it was before, since a pass does so
-- once; nothing would stand for none
abbrev pub undone_from : Origin → Entry → List Entry
undone_from Standing entry = entry ∷ []
undone_from Made entry = []
undone_from (Remade was) entry =
    option_map_or (λ before. restored entry before ∷ []) (slice_get was 0) []

abbrev pub undone : Entry → List Entry
undone entry = undone_from entry.origin entry

-- what there was of an element's entries, in order
abbrev pub all_undone : List Entry → List Entry
all_undone entries = flat_map undone entries

abbrev pub stripped_layer : Memo-F Memo → Memo
stripped_layer layer = roll-Memo record {
  former = layer.former;
  facts = layer.facts;
  entries = all_undone layer.entries;
  below = layer.below;
}

-- a memo as it was before the present pass
abbrev pub stripped : Memo → Memo
stripped memo = fold-Memo Memo stripped_layer memo

-- ---- accepted

-- an entry as it stands from then on
abbrev pub settled : Entry → Entry
settled entry = record {
  context = entry.context;
  run = entry.run;
  one = entry.one;
  two = entry.two;
  regular = entry.regular;
  origin = Standing;
}

-- all but the older entries, none of which is fresh any more
abbrev pub settled_all : Bool → List Entry → List Entry
settled_all marked entries = map settled (filter (is_live marked) entries)

abbrev pub sealed_layer : Memo-F Memo → Memo
sealed_layer layer = roll-Memo record {
  former = None;
  facts = layer.facts;
  entries = settled_all (is_marked layer) layer.entries;
  below = layer.below;
}

-- a memo without older entries and marks, of which nothing is fresh
abbrev pub sealed : Memo → Memo
sealed memo = fold-Memo Memo sealed_layer memo

-- ---- below an element

-- what each child of an element has is renewed, and all else is as it was
abbrev pub each_below : (Memo → Memo) → Memo-F Memo → Memo
each_below renew layer = roll-Memo record {
  former = layer.former;
  facts = layer.facts;
  entries = layer.entries;
  below = map renew layer.below;
}

-- each child but the one at a place is as before the present pass; that one and all else are as
-- they were
pub record IsUndoneBut (child : ℕ) (before after : Memo) : Type 0 where
  pub former : (out-Memo after).former ≡ (out-Memo before).former
  pub facts : (out-Memo after).facts ≡ (out-Memo before).facts
  pub entries : (out-Memo after).entries ≡ (out-Memo before).entries
  pub spared : slice_get (out-Memo after).below child ≡ slice_get (out-Memo before).below child
  pub others : (place : ℕ) → (place ≡ child → ⊥) → slice_get (out-Memo after).below place
      ≡ option_map stripped (slice_get (out-Memo before).below place)

-- ---- how many

abbrev pub live_in : Memo-F ℕ → ℕ
live_in layer = length (filter (is_live (is_marked layer)) layer.entries) + sum layer.below

-- the number of entries that aren't older
abbrev pub kept_count : Memo → ℕ
kept_count memo = fold-Memo ℕ live_in memo

abbrev pub fresh_in : Memo-F ℕ → ℕ
fresh_in layer = length (filter is_fresh layer.entries) + sum layer.below

-- the number of entries that it made, out of nothing or out of others
abbrev pub fresh_count : Memo → ℕ
fresh_count memo = fold-Memo ℕ fresh_in memo

-- the number of those that it made of the elements of these memos and of all below them
abbrev pub fresh_below : List Memo → ℕ
fresh_below memos = sum (map fresh_count memos)
