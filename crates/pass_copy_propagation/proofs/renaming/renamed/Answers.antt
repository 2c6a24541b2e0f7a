use Rattle.std.proofs.Common.{subst, sym}
use Rattle.std.specs.Prelude.{IfSome}
use Rattle.std.proofs.lemmas.Option.{IfSome_then}
use Rattle.low_ir.specs.View.{instr_of}
use Rattle.pass_copy_propagation.specs.Making.{IsRenamed}
use Rattle.pass_copy_propagation.proofs.renaming.renamed.Goals as goal

pub returns-in-Set : goal.returns-in-Set
returns-in-Set c =
    subst (λ i. IfSome c.renamed_set.result (λ j. IsRenamed c.args.known.now c.args.into (instr_of i) (instr_of j))) (sym c.in-Set.is)
    (IfSome_then c.renamed_set.result c.renamed_set.ensures (λ j h. h c.in-Set.into))

pub returns-in-Operate : goal.returns-in-Operate
returns-in-Operate c =
    subst (λ i. IfSome c.renamed_operate.result (λ j. IsRenamed c.args.known.now c.args.into (instr_of i) (instr_of j))) (sym c.in-Operate.is)
    (IfSome_then c.renamed_operate.result c.renamed_operate.ensures (λ j h. h c.in-Operate.into))

pub returns-in-Point : goal.returns-in-Point
returns-in-Point c =
    subst (λ i. IfSome c.renamed_point.result (λ j. IsRenamed c.args.known.now c.args.into (instr_of i) (instr_of j))) (sym c.in-Point.is)
    (IfSome_then c.renamed_point.result c.renamed_point.ensures (λ j h. h c.in-Point.into))

pub returns-in-Load : goal.returns-in-Load
returns-in-Load c =
    subst (λ i. IfSome c.renamed_load.result (λ j. IsRenamed c.args.known.now c.args.into (instr_of i) (instr_of j))) (sym c.in-Load.is)
    (IfSome_then c.renamed_load.result c.renamed_load.ensures (λ j h. h c.in-Load.into))

pub returns-in-Store : goal.returns-in-Store
returns-in-Store c =
    subst (λ i. IfSome c.renamed_store.result (λ j. IsRenamed c.args.known.now c.args.into (instr_of i) (instr_of j))) (sym c.in-Store.is)
    (IfSome_then c.renamed_store.result c.renamed_store.ensures (λ j h. h c.args.into))

pub returns-in-Put : goal.returns-in-Put
returns-in-Put c =
    subst (λ i. IfSome c.renamed_put.result (λ j. IsRenamed c.args.known.now c.args.into (instr_of i) (instr_of j))) (sym c.in-Put.is)
    (IfSome_then c.renamed_put.result c.renamed_put.ensures (λ j h. h c.args.into))
