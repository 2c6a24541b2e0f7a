use Rattle.std.proofs.Common.{All}
use Rattle.code_flow_system.specs.Claims.{AreSums}
use Rattle.code_flow_system.specs.Indexes.{AreMentions}
use Rattle.code_flow_system.proofs.MentionLemmas.{holding_is, sizes_are}
use Rattle.code_flow_system.proofs.system.System.mentions.Goals as goal

pub returns : goal.returns
returns c =
    let are : AreMentions c.args.self.now.claims c.as_slice.result.now = rw (← c.self.view_is, c.as_slice.ensures) c.self.invariant.mentions_are in
    let sums : All AreSums c.args.self.now.claims.facts = rw (← c.self.view_is) c.facts-facts.ensures.valid.sums in
    record {
      are = are;
      adds_up = record {
        holds = λ m a h. holding_is c.args.self.now.claims m c.as_slice.result.now a h sums are;
        sized = λ m a h. sizes_are c.args.self.now.claims m c.as_slice.result.now a h sums are;
      };
    }
