use Rattle.pass_dataflow_facts.specs.Facts.{all_true}
use Rattle.pass_strength_reduction.proofs.Making.{kept_all, kept_made}
use Rattle.pass_strength_reduction.proofs.editing.keep_rest.Goals as goal

pub loop-instr-preserved : goal.loop-instr-preserved
loop-instr-preserved c = λ sc size begun whole so.
    kept_made sc begun (all_true c.loop-instr.known.facts.items) (all_true c.keep.new.known.facts.items) whole c.args.rest.now c.loop-instr.instr-index c.instr-item.result c.in_ok-keep.field-0 c.loop-instr.made.items c.push.new.self.items
    c.loop-instr-test.true c.instr-item.is (c.loop-instr.invariant sc size begun whole so) (c.in_ok-keep.ensures sc size) c.in_ok-push.ensures.items

pub returns : goal.returns
returns c = λ sc size begun whole so. kept_all sc begun (all_true c.loop-instr.known.facts.items) whole c.args.rest.now c.loop-instr.instr-index c.loop-instr.made.items c.loop-instr-test.false (c.loop-instr.invariant sc size begun whole so)
