use Rattle.std.proofs.Common.{rules}
use Rattle.std.proofs.lemmas.List.Sorted.{answers_always}
use Rattle.frac128.proofs.SumLemmas.{searched}
use Rattle.frac128.proofs.sum.Sum.search.Goals as goal

-- the closure gives a term's address, and the slice is the sum's terms
pub returns : goal.returns
returns c =
    let facts = c.binary_search_by_key.ensures in
    let by_address = facts.position (λ t. t.0) (answers_always _ _ _ (λ f a r g called. search rules)) in
    let places = searched _ (rw c.deref.ensures.value c.self.invariant) c.args.at _ facts.bound by_address in
    record {
      found = rw (← c.self.view_is, ← c.deref.ensures.value) places.found;
      absent = rw (← c.self.view_is, ← c.deref.ensures.value) places.absent;
      canonical = rw (← c.self.view_is) c.self.invariant;
    }
