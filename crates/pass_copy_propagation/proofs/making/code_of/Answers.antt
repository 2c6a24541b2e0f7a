use Rattle.std.proofs.Common.{[], Option, arith, map, subst, ℕ, ◌≤◌}
use Rattle.std.specs.Prelude.{IfSome}
use Rattle.std.proofs.lemmas.List.{drop_all, length-map}
use Rattle.low_ir.specs.View.{instr_of}
use Rattle.pass_copy_propagation.specs.Making.{Continues, Goes}
use Rattle.pass_copy_propagation.proofs.Going.{all_done}
use Rattle.pass_copy_propagation.proofs.making.code_of.Goals as goal

pub loop-at-preserved : goal.loop-at-preserved
loop-at-preserved c =
    let code = map instr_of c.args.code.now in
    let one =
    subst (λ (o : Option ℕ). IfSome o (Continues code c.loop-at.at c.loop-at.known (map instr_of c.loop-at.made.items) c.put_next.new.known (map instr_of c.put_next.new.made.items))) c.in-Some.is c.in_ok-put_next.ensures in
    record {
      inside = subst (λ n. c.in-Some.next ≤ n) (length-map c.args.code.now instr_of) one.inside;
      goes = all_done code c.loop-at.at c.in-Some.next c.args.known.now c.loop-at.known c.put_next.new.known [] (map instr_of c.loop-at.made.items) (map instr_of c.put_next.new.made.items) c.loop-at.invariant.goes one;
    }

pub returns : goal.returns
returns c =
    let code = map instr_of c.args.code.now in
    let h = c.loop-at-test.false in
    let long = length-map c.args.code.now instr_of in
    subst (λ l. Goes code c.args.known.now [] l c.loop-at.known (map instr_of c.loop-at.made.items)) (drop_all c.loop-at.at code (omega arith)) c.loop-at.invariant.goes
