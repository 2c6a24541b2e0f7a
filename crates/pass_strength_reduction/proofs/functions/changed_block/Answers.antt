use Rattle.std.proofs.Common.{Option, ◌≡◌, List, [], map, refl, subst, sym, true, ℕ}
use Rattle.std.specs.Prelude.{IfSome, Vec}
use Rattle.std.specs.Global.{Global}
use Rattle.low_ir.specs.declared.instruction.Instr.{Instr}
use Rattle.low_ir.specs.Formed.{LeadsOn}
use Rattle.low_ir.specs.View.{block_of, end_of, instr_of}
use Rattle.pass_dataflow_facts.specs.declared.proposals.Change.{Change}
use Rattle.pass_dataflow_facts.specs.Facts.{all_true}
use Rattle.pass_dataflow_transfer.specs.Learning.{Sure}
use Rattle.pass_strength_reduction.specs.Scenes.{Fits, Scene, SoFar, facts_at}
use Rattle.pass_strength_reduction.proofs.Blocks.{block_changed}
use Rattle.pass_strength_reduction.proofs.functions.changed_block.Goals as goal

pub returns : goal.returns
returns c = λ sc fits same.
    let scope = c.args.scope.now in
    let block = c.args.block.now in
    let before = c.args.change.now.facts.items in
    let facts = c.in_ok-known.known.facts.items in
    let now = c.edited.new.known.facts.items in
    let made = map instr_of c.in-Some.code.items in
    let so =
    subst (λ (o : Option (Vec Instr Global)). IfSome o (λ (v : Vec Instr Global). (sc : Scene) → Fits scope.claims.now scope.alone.now scope.objects scope.registers scope.spare.now sc → SoFar sc (all_true facts) (map instr_of c.deref-2.result.now) (all_true now) [] (map instr_of v.items))) c.in-Some.is c.in_ok-code.ensures in
    let ends = subst (λ fs. (n : ℕ) → LeadsOn (end_of block.end) n → Sure fs (λ s. all_true (facts_at c.args.changes.now n) s ≡ true)) c.deref-4.ensures.value (c.ends.ensures c.if-not-ends.false) in
    block_changed sc before facts now (block_of block) (block_of (record { mark = block.mark; code = c.in-Some.code; end = block.end }))
    (subst (λ fs. Sure fs (λ s. all_true facts s ≡ true)) c.deref.ensures.value c.in_ok-known.ensures)
    (subst (λ (xs : List Instr). SoFar sc (all_true facts) (map instr_of xs) (all_true now) [] made) c.deref-2.ensures.value (so sc fits))
    (subst (λ (changes : List Change). (n : ℕ) → LeadsOn (end_of block.end) n → Sure now (λ s. all_true (facts_at changes n) s ≡ true)) (sym same) ends)
    refl refl
