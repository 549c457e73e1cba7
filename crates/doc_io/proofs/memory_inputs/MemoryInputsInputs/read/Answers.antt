use Rattle.std.proofs.Common.{◌≡◌, refl, [], drop, false, arith, rules}
use Rattle.std.specs.Option.{unwrap_or}
use Rattle.doc_io.specs.FailingCalls.{fails_next}
use Rattle.doc_io.specs.MemoryInputs.{bytes_at}
use Rattle.doc_io.proofs.Cuts.{nothing_left}
use Rattle.doc_io.proofs.MemoryCalls.{left_after, nothing_after, reads_given}
use Rattle.doc_io.proofs.memory_inputs.MemoryInputsInputs.read.Goals as goal

pub returns-clause-reads : goal.returns-clause-reads
returns-clause-reads c =
    let bytes = unwrap_or (bytes_at c.self.inside.files c.self.inside.selected) [] in
    let left : c.left_of-left.result.now ≡ drop c.self.inside.place bytes = search rules in
    let longest = rw left at c.give-count.ensures.longest in
    let given = rw left at c.give-count.ensures.given in
    rw (← c.self.view_is) record {
      files = refl;
      faults = omega arith;
      missing = refl;
      bound = search rules;
      bytes = (
        left_after bytes _ _ c.self.inside.place c.give-count.result (omega (arith, longest.holds.0)) given,
        λ none some. nothing_after bytes c.self.inside.place _ (nothing_left _ _ _ _ _ longest none c.requires),
      );
      failed = tt;
    }

pub returns-clause-exactly : goal.returns-clause-exactly
returns-clause-exactly c =
    let bytes = unwrap_or (bytes_at c.self.inside.files c.self.inside.selected) [] in
    let left : c.left_of-left.result.now ≡ drop c.self.inside.place bytes = search rules in
    let spared : fails_next c.self.inside.failing c.self.inside.calls ≡ false = search rules in
    let longest = rw (left, c.as_slice-3.ensures) at c.give-count.ensures.longest in
    let given = rw left at c.give-count.ensures.given in
    rw (← c.self.view_is, c.saturating_add-self-inside.ensures) (reads_given _ _ _ _ spared longest given)
