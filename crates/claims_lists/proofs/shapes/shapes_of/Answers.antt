use Rattle.std.proofs.Common.{subst, sym}
use Rattle.claims_definition.specs.Shapes.{AreShaped}
use Rattle.claims_lists.proofs.Listing.{are_shaped}
use Rattle.claims_lists.proofs.shapes.shapes_of.Goals as goal

pub returns : goal.returns
returns c = subst (AreShaped c.args.claims.now) (sym c.in_ok-shapes.ensures) (are_shaped c.args.claims.now)
