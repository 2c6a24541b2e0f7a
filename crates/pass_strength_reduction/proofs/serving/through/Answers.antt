use Rattle.std.proofs.Common.{◌++◌, ap, map, refl}
use Rattle.low_ir.specs.Code.{Load, Point, Store}
use Rattle.low_ir.specs.View.{address_of, claim_of, instr_of, operand_of}
use Rattle.pass_strength_reduction_law.specs.Steps.{claims_of}
use Rattle.pass_strength_reduction.proofs.Ways.{loads, points, stores_too}
use Rattle.pass_strength_reduction.proofs.serving.through.Goals as goal

pub returns-in-Some : goal.returns-in-Some
returns-in-Some c =
    let news = map claim_of c.args.scope.now.claims.now ++ claims_of c.args.scope.now.alone.now in
    let it = c.in-Point in
    let new = c.in-Some.new in
    record {
      old = Point it.into (address_of it.address);
      new = Point it.into (address_of new);
      is = ap instr_of it.is;
      becomes = refl;
      into = refl;
      same = λ size others. points size c.args.facts.now news others it.into (address_of it.address) (address_of new) c.in-Some.ensures;
    }

pub returns-in-Some-served : goal.returns-in-Some-served
returns-in-Some-served c =
    let news = map claim_of c.args.scope.now.claims.now ++ claims_of c.args.scope.now.alone.now in
    let it = c.in-Load in
    let new = c.in-Some-served.new in
    record {
      old = Load it.kind it.into (address_of it.address);
      new = Load it.kind it.into (address_of new);
      is = ap instr_of it.is;
      becomes = refl;
      into = refl;
      same = λ size others. loads size c.args.facts.now news others it.kind it.into (address_of it.address) (address_of new) c.in-Some-served.ensures;
    }

pub returns-in-Some-served-2 : goal.returns-in-Some-served-2
returns-in-Some-served-2 c =
    let news = map claim_of c.args.scope.now.claims.now ++ claims_of c.args.scope.now.alone.now in
    let it = c.in-Store in
    let new = c.in-Some-served-2.new in
    record {
      old = Store it.kind (address_of it.address) (operand_of it.value);
      new = Store it.kind (address_of new) (operand_of it.value);
      is = ap instr_of it.is;
      becomes = refl;
      into = refl;
      same = λ size others. stores_too size c.args.facts.now news others it.kind (address_of it.address) (address_of new) (operand_of it.value) c.in-Some-served-2.ensures;
    }
