use Rattle.std.proofs.Common.{◌≡◌, ◌≤◌, [], drop}
use Rattle.std.specs.Prelude.{slice_range}
use Rattle.c_tree.specs.Names.{with_names}
use Rattle.c_tree.specs.Pragmas.{names_from}
use Rattle.parse_words.proofs.numbering.number_text.Given as goal

abbrev pub invariant-loop-at : goal.invariant-loop-at
invariant-loop-at l = record {
  ordered : l.from ≤ l.at;
  same : with_names l.names (names_from (slice_range l.rest l.from l.at) (drop l.at l.rest)) ≡ with_names l.fn.names (names_from [] l.rest);
}
