use Rattle.std.proofs.Common.{rules, subst}
use Rattle.std.specs.List.Sorted.{IsPermutation}
use Rattle.std.proofs.lemmas.List.Sorted.{IsNonDecreasingBy-from_sort_by_key}
use Rattle.compile_claims.proofs.nevers.nevers_of.Goals as goal

pub returns : goal.returns
returns c = record {
  all = subst (λ xs. IsPermutation xs c.sort_unstable_by_key.new.self.items) c.in_ok-nevers.ensures c.sort_unstable_by_key.ensures.permutation;
  ascending = IsNonDecreasingBy-from_sort_by_key (λ n. n.at) _ c.sort_unstable_by_key.ensures.sorted (λ a r q k. search rules);
}
