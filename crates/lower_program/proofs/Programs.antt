-- A good run in the high form is one in the low form.
use Rattle.std.proofs.Common.{◌≡◌, ℕ, zero, suc, ◌+◌, ◌<◌, ◌^◌, List, [], Option, Some, None, refl, ap, ◌∙◌, arith}
use Rattle.std.specs.Prelude.{All}
use Rattle.high_ir.specs.Formed.{IsHigh}
use Rattle.high_ir.specs.Meaning as high
use Rattle.high_ir.specs.Runs.{calls, hrun, rank_or, run_of}
use Rattle.high_ir.specs.Runs as runs
use Rattle.high_ir.specs.Tree.{Program}
use Rattle.high_ir.specs.Whole.{IsWhole}
use Rattle.low_ir.specs.Code.{Low, Note, Operand, Return}
use Rattle.low_ir.specs.declared.run.Value.TheVariants.{Word}
use Rattle.low_ir.specs.Effects.{start}
use Rattle.low_ir.specs.Runs.{Bank, Done, Going, Run, at_code, at_end, begin, come_back, first, first_in, give_back, operand_value, run, step, virtual, write_all}
use Rattle.lower_definition.specs.Programs.{lowered}
use Rattle.lower_nesting.proofs.Whole.{quiet_keeps}
use Rattle.lower_program.specs.Following.{After, Answers, Goer}
use Rattle.lower_origins.specs.Orders.{IsOrdered}
use Rattle.lower_origins.proofs.Visits.{ordered}
use Rattle.lower_program.specs.Kept.{IsKept, Keeps}
use Rattle.lower_program.proofs.Serving.{all_do, place_of, stands_at}
use Rattle.lower_program.proofs.Start.{start_meets}

-- the step of a return
return_step : (q : Low) (y : Goer) (x : Operand ℕ) (v : ℕ) → y.top.code ≡ [] → y.top.end ≡ Return x → operand_value virtual y.top.store x ≡ Some (Word v) → step virtual q (Going y) ≡ come_back virtual y.world y.below v
return_step q y x v c e value = ap (at_code virtual q y) c ∙ ap (at_end virtual q y) e ∙ ap (give_back virtual y) value

run_add : (q : Low) (n m : ℕ) (z : Run ℕ Note Bank) → run virtual q (n + m) z ≡ run virtual q m (run virtual q n z)
run_add q zero m z = let e : 0 + m ≡ m = omega arith in ap (λ k. run virtual q k z) e
run_add q (suc n) m z = let e : suc n + m ≡ suc (n + m) = omega arith in ap (λ k. run virtual q k z) e ∙ run_add q n m (step virtual q z)

module _ (p : Program) (is_high : IsHigh p) (whole : IsWhole p) (input : List ℕ) (bytes : All (λ c. c < 2 ^ 8) input) where
  order_is : IsOrdered p
  order_is = ordered p is_high

  abbrev depth : ℕ
  depth = suc (rank_or p.functions p.main 0)

  given_kept : (given : high.Given) → calls Some p.functions depth p.main [] [] (runs.start p.objects input) [] ≡ Some given → Keeps (lowered p) input (record { value = given.value; output = given.world.output; trace = given.trace })
  given_kept given is =
      let q = lowered p in
      let m = order_is.main in
      let here = order_is.places p.main m in
      let h = here.function in
      let e = here.there in
      let at = place_of p order_is p.main h m e in
      let s = stands_at p order_is p.main h m e in
      let u = start q.objects input in
      let z = begin [] u at.number at.code (write_all virtual (Some (virtual.empty at.code.size)) at.code.parameters []) in
      let meets = start_meets at.scope p.objects input refl whole.objects bytes in
      let a : After q z (Answers q at (record { passed = []; below = [] }) given []) =
      all_do p order_is whole.words depth p.main h m e [] [] (runs.start p.objects input) [] given is tt (λ j o f low inside. cc) [] u meets refl in
      let y = a.state in
      let ret = a.holds.returning in
      let begins : first virtual q input ≡ z = ap (first_in virtual u q.main) s.function in
      let ends : step virtual q (Going y) ≡ Done given.value y.world = return_step q y ret.operand given.value ret.code ret.end ret.value ∙ ap (λ ws. come_back virtual y.world ws given.value) ret.below in
      record {
        steps = a.steps + 1;
        world = y.world;
        good = record {
          done = ap (run virtual q (a.steps + 1)) begins ∙ run_add q a.steps 1 z ∙ ap (run virtual q 1) a.is ∙ ends;
          loops = quiet_keeps q (suc at.number) y.world.trace a.holds.quiet;
        };
        output = let w = ret.world in w.output;
        marks = ret.marks;
      }

  pub kept : IsKept (lowered p) input (hrun p input)
  kept = by_given (calls Some p.functions depth p.main [] [] (runs.start p.objects input) []) refl
    where
      by_given : (o : Option high.Given) → calls Some p.functions depth p.main [] [] (runs.start p.objects input) [] ≡ o → IsKept (lowered p) input (run_of o)
      by_given None e = tt
      by_given (Some given) e = given_kept given e
