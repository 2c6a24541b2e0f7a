-- Where each function of a program stands for the one with its number, each good run is a good run of it.
use Rattle.std.proofs.Common.{◌≡◌, ℕ, zero, suc, List, [], get_or, Option, Some, None, refl, sym, ap, ◌∙◌, subst}
use Rattle.std.specs.Prelude.{slice_get}
use Rattle.high_ir.specs.Meaning.{Given, Labels}
use Rattle.high_ir.specs.Runs.{calls, hrun, rank_or, run_of, start}
use Rattle.high_ir.specs.Tree.{Function, Program}
use Rattle.high_pass.specs.Carries.{RunsAlike, shown}
use Rattle.high_pass.specs.Listing.{Listing}
use Rattle.high_unrolled.specs.Serving.{ServesCall, CallsServe, FunctionStands}
use Rattle.high_unrolled.specs.Standing.{Grouped, ProgramStands}
use Rattle.high_unrolled.proofs.ServingCounting.{counts_of_copies, counts_of_nevers}
use Rattle.high_unrolled.proofs.ServingFollowing.{FollowsCall, calls_follow}

calls_stand : (m : Labels) (fs gs : List Function) → ((f : ℕ) → FunctionStands m f (slice_get fs f) (slice_get gs f)) → (n : ℕ) → CallsServe (calls Some fs n) (calls m gs n)
calls_stand m fs gs h zero = record { by = λ f values arrays w trace. tt }
calls_stand m fs gs h (suc n) = record { by = λ f values arrays w trace. (h f).by (calls Some fs n) (calls m gs n) (calls_stand m fs gs h n) values arrays w trace }

-- a good run, the same under labels, and the same again under the marks themselves
three_alike : (m : Labels) (c : Listing) → Grouped m c → (a b d : Option Given) → ServesCall a b → FollowsCall m b d → RunsAlike c (shown (run_of a)) (run_of d)
three_alike m c grouped None b d serves follows = tt
three_alike m c grouped (Some g) b d serves follows =
    let there = subst (λ o. FollowsCall m o d) serves follows in
    subst (λ o. RunsAlike c (shown (run_of (Some g))) (run_of o)) (sym there.1)
    (record {
      value = refl;
      output = refl;
      counts = λ i e lt. counts_of_copies m (get_or c.marks i e) (grouped.marks i e lt) g.trace there.0 there.2;
      nevers = λ i v lt. counts_of_nevers m (get_or c.nevers i v).mark (grouped.nevers i v lt) g.trace there.0 there.2;
    })

pub runs_alike : (m : Labels) (c : Listing) (old new : Program) → ProgramStands m old new → Grouped m c → (input : List ℕ) → RunsAlike c (shown (hrun old input)) (hrun new input)
runs_alike m c old new stands grouped input =
    let n : ℕ = suc (rank_or old.functions old.main 0) in
    let w = start old.objects input in
    let main_same : calls Some new.functions n old.main [] [] w [] ≡ calls Some new.functions n new.main [] [] w [] = ap (λ f. calls Some new.functions n f [] [] w []) (sym stands.main) in
    let rank_same : rank_or old.functions old.main 0 ≡ rank_or new.functions new.main 0 = sym stands.rank ∙ ap (λ f. rank_or new.functions f 0) (sym stands.main) in
    let ends : calls Some new.functions n old.main [] [] w [] ≡ calls Some new.functions (suc (rank_or new.functions new.main 0)) new.main [] [] (start new.objects input) [] =
    main_same
    ∙ ap (λ r. calls Some new.functions (suc r) new.main [] [] w []) rank_same
    ∙ ap (λ os. calls Some new.functions (suc (rank_or new.functions new.main 0)) new.main [] [] (start os input) []) (sym stands.objects) in
    subst (λ o. RunsAlike c (shown (hrun old input)) (run_of o)) ends
    (three_alike m c grouped
    (calls Some old.functions n old.main [] [] w [])
    (calls m new.functions n old.main [] [] w [])
    (calls Some new.functions n old.main [] [] w [])
    ((calls_stand m old.functions new.functions stands.functions n).by old.main [] [] w [])
    ((calls_follow m new.functions n).by old.main [] [] w [] [] refl))
