use Rattle.std.proofs.Common.{subst}
use Rattle.c_tree.specs.Formed.{IsFirstPlace}
use Rattle.c_tree.specs.Tree.{Nothing}
use Rattle.c_tree.specs.View.{external_of, row_of}
use Rattle.c_parser.proofs.unit.unit.Goals as goal

pub invariant_of-result : goal.invariant_of-result
invariant_of-result c =
    let place = c.in-Some.at in
    record {
      is_formed = ∣ (subst (λ items. IsFirstPlace place (row_of external_of Nothing items)) c.deref.ensures.value c.in-Some.ensures.some, c.requires.formed) ∣₁;
      is_small = c.requires.small;
      is_shallow = c.requires.shallow;
      are_listed = ∣ c.requires.listed place ∣₁;
      are_names = ∣ c.requires.named ∣₁;
      are_distinct = c.requires.distinct;
      are_in_order = c.requires.in_order place;
    }
