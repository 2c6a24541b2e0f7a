use Rattle.facts_front.proofs.reading.read_tokens.Goals as goal

pub returns-in-Ok-clause-ok : goal.returns-in-Ok-clause-ok
returns-in-Ok-clause-ok c = record {
  tokens = c.args.tokens.now;
  of_source = c.requires.source;
  has = c.requires.has;
  tree = c.in-Ok.ensures.tree;
  shallow = c.in-Ok.ensures.shallow;
  in_order = c.in-Ok.unit.are_in_order;
}
