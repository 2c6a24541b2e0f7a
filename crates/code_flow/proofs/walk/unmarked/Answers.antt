use Rattle.std.proofs.Common.{◌≡◌, false, get_or, length, ap, ◌∙◌}
use Rattle.std.specs.Prelude.{replicate}
use Rattle.std.proofs.lemmas.List.{length-replicate}
use Rattle.code_flow.proofs.ListLemmas.{replicate-false}
use Rattle.code_flow.proofs.walk.unmarked.Goals as goal

pub returns : goal.returns
returns c =
    let all : c.in_ok-vec.field-0.items ≡ replicate c.args.places false = c.in_ok-vec.ensures.items_if_clones_equal (λ y h. h) in
    record {
      long = ap length all ∙ length-replicate c.args.places false;
      none = λ p. ap (λ ms. get_or ms p false) all ∙ replicate-false c.args.places p;
    }
