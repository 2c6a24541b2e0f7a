use Rattle.std.proofs.Common.{rules, ◌≡◌, Ok, subst, ◌∙◌}
use Rattle.types_tree.specs.View.{program_of}
use Rattle.facts_definitions.specs.FlowFacts.{flow_facts, IsFlowFault}
use Rattle.facts_front.proofs.reading.read_flow.Goals as goal

pub returns-in-Ok-facts_with-clause-ok : goal.returns-in-Ok-facts_with-clause-ok
returns-in-Ok-facts_with-clause-ok c =
    subst (λ d. flow_facts (program_of c.args.program.now) c.args.program.now.names.items c.args.ranks.now d ≡ Ok c.in-Ok-facts_with.facts) (c.deref.ensures.value ∙ c.in-Ok.ensures) c.in-Ok-facts_with.ensures.ok

pub returns : goal.returns
returns c =
    record {
      ok = tt;
      err = λ source h. (
        (search rules),
        record {
          names = c.args.program.now.names.items;
          program = program_of c.args.program.now;
          has = h;
          ranks = c.args.ranks.now;
          are_ranks = c.requires;
          refused = subst (λ d. IsFlowFault c.in-Err-facts_with.fault (flow_facts (program_of c.args.program.now) c.args.program.now.names.items c.args.ranks.now d)) (c.deref.ensures.value ∙ c.in-Ok.ensures) c.in-Err-facts_with.ensures.err;
        },
      );
    }
