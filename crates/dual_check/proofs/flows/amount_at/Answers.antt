use Rattle.std.proofs.Common.{◌∙◌, ap, FitsSigned}
use Rattle.std.specs.Int.{w128}
use Rattle.std.proofs.lemmas.Int.{to_z-of_z}
use Rattle.code_flow_system.specs.Counts.{amount}
use Rattle.code_flow_system.specs.Certificates.{listed}
use Rattle.code_flow_system.specs.Lookups.{amount_at}
use Rattle.dual_check.proofs.LookupLemmas.{amount_here, no_amount}
use Rattle.dual_check.proofs.flows.amount_at.Goals as goal

pub returns-then-place-moves : goal.returns-then-place-moves
returns-then-place-moves c =
    let f : FitsSigned w128 c.amount_of.result = record { sfits = c.amount_of.type_inv } in
    to_z-of_z w128 c.amount_of.result f
    ∙ c.amount_of.ensures
    ∙ ap (λ m. amount (listed c.args.cert.now.flow.parts) m) c.index-moves-place.is
    ∙ amount_here (listed c.args.cert.now.flow.parts) c.moves-moves.result.now c.args.place c.index-moves-place.result c.if-place-moves.true
    ∙ ap (λ ms. amount_at (listed c.args.cert.now.flow.parts) ms c.args.place) c.moves-moves.ensures.value

pub returns : goal.returns
returns c =
    no_amount (listed c.args.cert.now.flow.parts) c.moves-moves.result.now c.args.place c.if-place-moves.false
    ∙ ap (λ ms. amount_at (listed c.args.cert.now.flow.parts) ms c.args.place) c.moves-moves.ensures.value
