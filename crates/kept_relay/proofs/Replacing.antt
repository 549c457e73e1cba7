-- An entry in place of another.
use Rattle.std.proofs.Common.{◌≡◌, ◌∙◌, sym, ap, ℕ, ◌<◌, arith, List, [], length, length-set, set, Option, Some, slice_get}
use Rattle.std.proofs.lemmas.Option.{same_Some}
use Rattle.std.specs.Option.{option_map_or}
use Rattle.layout_model.specs.declared.reply.Reply.{Reply}
use Rattle.kept_results.specs.Looking.{one_at, turned, with_entry}
use Rattle.kept_results.specs.declared.memo.Entry.{Entry}
use Rattle.kept_results.specs.declared.memo.Memo.{Memo}
use Rattle.kept_results.specs.declared.memo.Memo.TheOpen.{Memo-F}
use Rattle.kept_results.specs.declared.memo.Memo.TheViews.{out-Memo, out-roll-Memo, roll-Memo, roll-out-Memo}
use Rattle.kept_results.proofs.Lists.{set_back, set_here, set_same, set_twice}

-- the reply of a child is put back
pub turned_back : (entry : Entry) (child : ℕ) (reply had : Reply) → slice_get entry.one child ≡ Some had → turned (turned entry child reply) child had ≡ entry
turned_back entry child reply had h = λ i. record {
  context = entry.context;
  run = entry.run;
  one = set_back entry.one child reply had h i;
  two = entry.two;
  regular = entry.regular;
  origin = entry.origin;
}

module _ (memo : Memo) (place : ℕ) (entry : Entry) (at : slice_get (out-Memo memo).entries place ≡ Some entry) where
  pub one_are : one_at (out-Memo memo) place ≡ entry.one
  one_are = ap (λ (o : Option Entry). option_map_or (λ (e : Entry). e.one) o []) at

  pub put_back : roll-Memo (with_entry memo place entry) ≡ memo
  put_back =
      ap (λ (l : List Entry). roll-Memo record {
        former = (out-Memo memo).former;
        facts = (out-Memo memo).facts;
        entries = l;
        below = (out-Memo memo).below;
      }) (set_same (out-Memo memo).entries place entry at) ∙ roll-out-Memo memo

  module _ (new : Entry) where
    abbrev pub put : Memo
    put = roll-Memo (with_entry memo place new)

    pub put_there : slice_get (out-Memo put).entries place ≡ Some new
    put_there =
        ap (λ (l : Memo-F Memo). slice_get l.entries place) (out-roll-Memo (with_entry memo place new)) ∙ set_here (out-Memo memo).entries place new entry at

    pub put_twice : (other : Entry) → roll-Memo (with_entry put place other) ≡ roll-Memo (with_entry memo place other)
    put_twice other =
        ap (λ (l : Memo-F Memo). roll-Memo record { former = l.former; facts = l.facts; entries = set l.entries place other; below = l.below }) (out-roll-Memo (with_entry memo place new))
        ∙ ap (λ (l : List Entry). roll-Memo record {
          former = (out-Memo memo).former;
          facts = (out-Memo memo).facts;
          entries = l;
          below = (out-Memo memo).below;
        }) (set_twice (out-Memo memo).entries place new other)

-- ---- an entry whose child was asked something else

module _ (memo : Memo) (place child : ℕ) (reply : Reply) (entry new : Entry) (at : slice_get (out-Memo memo).entries place ≡ Some entry) (is : new ≡ turned entry child reply) where
  pub one_turned : one_at (out-Memo (put memo place entry at new)) place ≡ set (one_at (out-Memo memo) place) child reply
  one_turned =
      one_are (put memo place entry at new) place new (put_there memo place entry at new) ∙ ap (λ (e : Entry). e.one) is
      ∙ ap (λ (l : List Reply). set l child reply) (sym (one_are memo place entry at))

  pub stands_there : (other : Entry) → slice_get (out-Memo (put memo place entry at new)).entries place ≡ Some other → other ≡ turned entry child reply
  stands_there other there = same_Some other new (sym there ∙ put_there memo place entry at new) ∙ is

  pub near_one : (other : Entry) → slice_get (out-Memo (put memo place entry at new)).entries place ≡ Some other → child < length (one_at (out-Memo memo) place) → child < length other.one
  near_one other there l =
      omega (arith, l, ap (λ (e : Entry). length e.one) (stands_there other there), length-set entry.one child reply, ap length (one_are memo place entry at))
