use Rattle.std.proofs.Common.{◌++◌, ap, map}
use Rattle.low_ir.specs.Code.{Operate, Point, Set}
use Rattle.low_ir.specs.View.{address_of, claim_of, instr_of, operand_of}
use Rattle.pass_strength_reduction_law.specs.Steps.{claims_of}
use Rattle.pass_strength_reduction.proofs.Ways.{operates, points_there, sets}
use Rattle.pass_strength_reduction.proofs.inserting.is_sure.Goals as goal

pub returns-in-Set : goal.returns-in-Set
returns-in-Set c = λ done.
    let news = map claim_of c.args.scope.now.claims.now ++ claims_of c.args.scope.now.alone.now in
    let it = c.in-Set in
    record {
      plain = Set it.into (operand_of it.value);
      is = ap instr_of it.is;
      gives = λ u s known. sets news it.into (operand_of it.value) s u (c.holds_value.ensures done s known);
    }

pub returns-then-holds_word : goal.returns-then-holds_word
returns-then-holds_word c = λ done.
    let news = map claim_of c.args.scope.now.claims.now ++ claims_of c.args.scope.now.alone.now in
    let it = c.in-Operate in
    record {
      plain = Operate it.operator it.into (operand_of it.left) (operand_of it.right);
      is = ap instr_of it.is;
      gives = λ u s known. operates news it.operator it.into (operand_of it.left) (operand_of it.right) s u (c.holds_word.ensures c.if-holds_word.true s known) (c.holds_word-then-holds_word.ensures done s known);
    }

pub returns-in-Point : goal.returns-in-Point
returns-in-Point c = λ done.
    let news = map claim_of c.args.scope.now.claims.now ++ claims_of c.args.scope.now.alone.now in
    let it = c.in-Point in
    record {
      plain = Point it.into (address_of it.address);
      is = ap instr_of it.is;
      gives = λ u s known. points_there news it.into (address_of it.address) s u (c.leads.ensures.base done s known) (c.leads.ensures.offset done s known);
    }
