use Rattle.std.proofs.Common.{◌≡◌, suc, ◌+◌, All, drop, map, subst, sym, arith}
use Rattle.low_ir.specs.View.{instr_of}
use Rattle.low_ir.specs.Places.{place_code}
use Rattle.asm_program.specs.Ranges.{InInstr}
use Rattle.asm_emission.specs.View.{place_at}
use Rattle.asm_code.specs.Scopes.{kept_at, memory, program}
use Rattle.asm_code.proofs.Steps.{drop-at, code-there}
use Rattle.claims_touches.proofs.Steps.{code_step}
use Rattle.claims_touches.proofs.blocks.put_code.Goals as goal

pub put_instr-requires-clause-there : goal.put_instr-requires-clause-there
put_instr-requires-clause-there c =
    let s = c.args.scope.now in
    let k = c.loop-index.index in
    let x = c.index-code-index.result in
    let split = drop-at c.args.code.now k x c.loop-index-test.true c.index-code-index.is in
    (code-there (place_at s.places.now) (kept_at s.kept.now) (c.args.place + k) (drop k c.args.code.now) (drop (k + 1) c.args.code.now) x split c.loop-index.invariant.there).0

pub loop-index-preserved : goal.loop-index-preserved
loop-index-preserved c =
    let s = c.args.scope.now in
    let pl = place_at s.places.now in
    let kept = kept_at s.kept.now in
    let k = c.loop-index.index in
    let q = c.args.place + k in
    let x = c.index-code-index.result in
    let rest = drop (k + 1) c.args.code.now in
    let split = drop-at c.args.code.now k x c.loop-index-test.true c.index-code-index.is in
    let behind : c.args.place + (k + 1) ≡ suc q = omega arith in
    record {
      touches = code_step (memory s) (program s) s.number pl kept c.loop-index.touches.items c.put_instr.new.touches.items _ q (c.args.place + (k + 1)) (drop k c.args.code.now) rest x split behind c.in_ok-put_instr.ensures c.loop-index.invariant.touches;
      there = subst (λ n. All InInstr (place_code pl kept n (map instr_of rest))) (sym behind) (code-there pl kept q (drop k c.args.code.now) rest x split c.loop-index.invariant.there).1;
    }
