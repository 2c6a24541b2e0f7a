-- One more stage behind those of a source.
use Rattle.std.proofs.Common.{◌≡◌, ℕ, zero, suc, ◌+◌, ◌^◌, ◌≤◌, List, [], ◌∷◌, ◌++◌, length, sym, ap, subst, arith, length-append}
use Rattle.facts_definitions.specs.declared.facts.Facts.{Facts}
use Rattle.types_tree.specs.Tree as c
use Rattle.high_ir.specs.Formed.{IsHigh}
use Rattle.high_ir.specs.declared.copies.Carried.{Carried}
use Rattle.high_ir.specs.Programs.{program_of}
use Rattle.high_pass.specs.Listing.{listing_of}
use Rattle.compile_high_definitions.specs.Carried.{IsCarried}
use Rattle.compile_high_law.proofs.Carried.{passed_carried}
use Rattle.compile_stages.specs.declared.made.Stages.{Stages}
use Rattle.promise_compiler.specs.declared.built.Options.{Options}
use Rattle.wcc_compile.specs.Passes.{AreBegun, ArePassed, AreStages, IsStep, does}

passed_more : (options : Options) (place n : ℕ) (old : Carried) (between : List Carried) (last new : Carried) → n ≡ place + suc (length between) → ArePassed options place old (between ++ last ∷ []) → IsStep (does options n) last new → ArePassed options place old ((between ++ last ∷ []) ++ new ∷ [])
passed_more options place n old [] last new e h step =
    let at : n ≡ suc place = omega (arith, e) in
    (h.0, (subst (λ k. IsStep (does options k) last new) at step, tt))
passed_more options place n old (b ∷ bs) last new e h step =
    let at : n ≡ suc place + suc (length bs) = omega (arith, e) in
    (h.0, passed_more options (suc place) n b bs last new at h.1 step)

module _ (options : Options) (names : List (List ℕ)) (program : c.Program) (facts : Facts) where
  stages_more : (before : List Carried) (last new : Carried) → AreStages options names program facts (before ++ last ∷ []) → IsStep (does options (length before)) last new → AreStages options names program facts ((before ++ last ∷ []) ++ new ∷ [])
  stages_more [] last new h step = (h.0, (step, tt))
  stages_more (plan ∷ bs) last new h step = (h.0, passed_more options 0 (suc (length bs)) plan bs last new (omega arith) h.1 step)

  pub begun_more : (old new : Stages) → AreBegun options names program facts old → new.before.items ≡ old.before.items ++ old.last ∷ [] → IsHigh (program_of new.last.program) → IsStep (does options (length old.before.items)) old.last new.last → AreBegun options names program facts new
  begun_more old new begun before high step =
      let n = length old.before.items in
      let all = length-append old.before.items (old.last ∷ []) in
      let many = ap length before in
      let counted : suc n ≡ length new.before.items = omega (arith, all, many) in
      record {
        stages = subst (λ (xs : List Carried). AreStages options names program facts (xs ++ new.last ∷ [])) (sym before) (stages_more old.before.items old.last new.last begun.stages step);
        carried = subst (λ k. IsCarried names program facts k (program_of new.last.program) (listing_of new.last.copies)) counted
            (passed_carried names program facts n (does options n) (program_of old.last.program) (program_of new.last.program) (listing_of old.last.copies) (listing_of new.last.copies) begun.carried high step);
      }

-- few passes make few starts of a loop one
pub factors_few : (n : ℕ) → n ≤ 4 → 64 ^ n ≤ 67108863
factors_few zero le = omega arith
factors_few (suc zero) le = omega arith
factors_few (suc (suc zero)) le = omega arith
factors_few (suc (suc (suc zero))) le = omega arith
factors_few (suc (suc (suc (suc zero)))) le = omega arith
factors_few (suc (suc (suc (suc (suc n))))) le = absurd (omega (arith, le))
