use Rattle.low_layout.proofs.laying.lists_in.Goals as goal

pub returns : goal.returns
returns c = λ l w m. record {
  spans = c.in_ok-spans.ensures l w.is;
  ranges = c.in_ok-ranges.ensures l w.is;
  places = c.in_ok-places.ensures l w.is;
  items = c.in_ok-items.ensures l w m;
}
