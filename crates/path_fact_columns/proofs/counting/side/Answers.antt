use Rattle.std.proofs.Common.{rules, ◌≡◌, ◌≤◌, ◌+◌, ◌^◌, ◌∙◌, arith, sym, ap, subst, ℤ, pos, ◌+ℤ◌, ◌*ℤ◌, ◌≤ℤ◌, drop, get_or, unsigned_abs, FitsSigned}
use mir.Val.{to_z, of_z}
use Rattle.std.specs.Int.{w64, w128}
use Rattle.std.proofs.lemmas.Int.{to_z-of_z}
use Rattle.frac128.specs.Terms.{applied}
use Rattle.code_flow_system.specs.Counts.{count}
use Rattle.code_flow_system.specs.Certificates.{listed}
use Rattle.path_conditions.specs.Natural.{AreNatural}
use Rattle.path_fact_columns.proofs.CountLemmas.{counts_positive, side_next, term_small, next_fits}
use Rattle.path_fact_columns.proofs.counting.side.Goals as goal

pub times-all-requires : goal.times-all-requires
times-all-requires c =
    let x = listed c.args.parts.now in
    let ms = c.args.system.now.moves in
    let n = count x ms in
    let ts = c.terms-terms.result.now in
    let i = c.loop-i.i in
    let inv = c.loop-i.invariant in
    let h : FitsSigned w64 (get_or ts i (0, pos 0)).1 = search rules in
    let e1 = to_z-of_z w64 (get_or ts i (0, pos 0)).1 h in
    let f0 : FitsSigned w128 c.count_at.result = search rules in
    let e0 = to_z-of_z w128 c.count_at.result f0 in
    let p : to_z w64 (of_z w64 (get_or ts i (0, pos 0)).1) *ℤ to_z w128 (of_z w128 c.count_at.result) ≡ (get_or ts i (0, pos 0)).1 *ℤ n (get_or ts i (0, pos 0)).0 = cc (e0, e1, c.count_at.ensures.value) in
    let natural = subst (λ us. AreNatural us) (sym c.terms-terms.ensures.all) c.requires.natural in
    let small = subst (λ us. applied us n ≤ℤ pos (2 ^ 66)) (sym c.terms-terms.ensures.all) c.requires.small in
    subst (λ (z : ℤ). unsigned_abs z ≤ 2 ^ 66) (sym p) (term_small (2 ^ 66) n (counts_positive x ms) ts natural i (0, pos 0) (to_z w128 c.loop-i.all-bits) (applied ts n) c.loop-i-test.true inv.0 inv.1 small)

pub overflow_add-all : goal.overflow_add-all
overflow_add-all c =
    let x = listed c.args.parts.now in
    let ms = c.args.system.now.moves in
    let n = count x ms in
    let ts = c.terms-terms.result.now in
    let i = c.loop-i.i in
    let inv = c.loop-i.invariant in
    let h : FitsSigned w64 (get_or ts i (0, pos 0)).1 = search rules in
    let e1 = to_z-of_z w64 (get_or ts i (0, pos 0)).1 h in
    let f0 : FitsSigned w128 c.count_at.result = search rules in
    let e0 = to_z-of_z w128 c.count_at.result f0 in
    let p : to_z w64 (of_z w64 (get_or ts i (0, pos 0)).1) *ℤ to_z w128 (of_z w128 c.count_at.result) ≡ (get_or ts i (0, pos 0)).1 *ℤ n (get_or ts i (0, pos 0)).0 = cc (e0, e1, c.count_at.ensures.value) in
    let natural = subst (λ us. AreNatural us) (sym c.terms-terms.ensures.all) c.requires.natural in
    let small = subst (λ us. applied us n ≤ℤ pos (2 ^ 66)) (sym c.terms-terms.ensures.all) c.requires.small in
    let q = c.times-all.ensures ∙ p in
    let all = to_z w128 c.loop-i.all-bits in
    let fz : FitsSigned w128 c.times-all.result = search rules in
    let ez = to_z-of_z w128 c.times-all.result fz in
    let next = side_next (2 ^ 66) n (counts_positive x ms) ts natural i (0, pos 0) all c.times-all.result (applied ts n) c.loop-i-test.true q inv.0 inv.1 small in
    let fits = next_fits (2 ^ 66) (all +ℤ c.times-all.result) (applied (drop (i + 1) ts) n) (applied ts n) (omega arith) next in
    subst (λ (z : ℤ). FitsSigned w128 (all +ℤ z)) (sym ez) fits

pub loop-i-preserved : goal.loop-i-preserved
loop-i-preserved c =
    let x = listed c.args.parts.now in
    let ms = c.args.system.now.moves in
    let n = count x ms in
    let ts = c.terms-terms.result.now in
    let i = c.loop-i.i in
    let inv = c.loop-i.invariant in
    let h : FitsSigned w64 (get_or ts i (0, pos 0)).1 = search rules in
    let e1 = to_z-of_z w64 (get_or ts i (0, pos 0)).1 h in
    let f0 : FitsSigned w128 c.count_at.result = search rules in
    let e0 = to_z-of_z w128 c.count_at.result f0 in
    let p : to_z w64 (of_z w64 (get_or ts i (0, pos 0)).1) *ℤ to_z w128 (of_z w128 c.count_at.result) ≡ (get_or ts i (0, pos 0)).1 *ℤ n (get_or ts i (0, pos 0)).0 = cc (e0, e1, c.count_at.ensures.value) in
    let natural = subst (λ us. AreNatural us) (sym c.terms-terms.ensures.all) c.requires.natural in
    let small = subst (λ us. applied us n ≤ℤ pos (2 ^ 66)) (sym c.terms-terms.ensures.all) c.requires.small in
    let q = c.times-all.ensures ∙ p in
    let all = to_z w128 c.loop-i.all-bits in
    let fz : FitsSigned w128 c.times-all.result = search rules in
    let ez = to_z-of_z w128 c.times-all.result fz in
    let next = side_next (2 ^ 66) n (counts_positive x ms) ts natural i (0, pos 0) all c.times-all.result (applied ts n) c.loop-i-test.true q inv.0 inv.1 small in
    let fits = next_fits (2 ^ 66) (all +ℤ c.times-all.result) (applied (drop (i + 1) ts) n) (applied ts n) (omega arith) next in
    let e : to_z w128 (of_z w128 (all +ℤ to_z w128 (of_z w128 c.times-all.result))) ≡ all +ℤ c.times-all.result = ap (λ (z : ℤ). to_z w128 (of_z w128 (all +ℤ z))) ez ∙ to_z-of_z w128 (all +ℤ c.times-all.result) fits in
    subst (λ (z : ℤ). ((z +ℤ applied (drop (i + 1) ts) n) ≡ applied ts n) × (pos 0 ≤ℤ z) × (z ≤ℤ pos (2 ^ 66))) (sym e) (next.sum, next.least, next.most)
