-- A function behind those that it calls.
use Rattle.std.proofs.Common.{◌≡◌, ℕ, zero, suc, ◌-◌, ◌<◌, List, [], ◌∷◌, ◌++◌, false, Some, map, sym, ap, ◌∙◌, arith}
use Rattle.std.specs.Prelude.{if◌then◌else◌, option_map, slice_get}
use Rattle.std.proofs.lemmas.Option.{slice_get-map}
use Rattle.high_ir.specs.declared.high.Function as functions
use Rattle.high_ir.specs.Standing.{callees_of}
use Rattle.high_ir.specs.View.{function_of, statement_of}
use Rattle.low_ir.specs.Effects.{is_member}
use Rattle.lower_definition.specs.Calls.{behind_callees, visited, visited_all}

pub visited_more : (fs : List functions.Function) (depth f : ℕ) (done found now pushed : List ℕ) (h : functions.Function) → 0 < depth → is_member done f ≡ false → slice_get fs f ≡ Some h →
    found ≡ callees_of (statement_of h.body) → now ≡ visited_all (visited (map function_of fs) (depth - 1)) found done → pushed ≡ now ++ f ∷ [] → pushed ≡ visited (map function_of fs) depth f done
visited_more fs zero f done found now pushed h some new got calls before after = absurd (omega (arith, some))
visited_more fs (suc n) f done found now pushed h some new got calls before after =
    let visit = visited (map function_of fs) n in
    let less : suc n - 1 ≡ n = omega arith in
    after
    ∙ ap (λ l. l ++ f ∷ []) (before ∙ ap (λ k. visited_all (visited (map function_of fs) k) found done) less ∙ ap (λ l. visited_all visit l done) calls)
    ∙ sym (ap (λ b. if b then done else behind_callees visit f (slice_get (map function_of fs) f) done) new
    ∙ ap (λ o. behind_callees visit f o done) (slice_get-map function_of fs f ∙ ap (option_map function_of) got))
