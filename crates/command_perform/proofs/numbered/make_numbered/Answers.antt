use Rattle.std.proofs.Common.{◌≡◌, ℕ, List, refl, subst, rules}
use Rattle.command_numbered.specs.Text.{numbered_text}
use Rattle.command_words.specs.Held.{make_request}
use Rattle.command_perform.specs.Outputs.{outputs_of}
use Rattle.command_perform.specs.Settings.{plain_settings}
use Rattle.command_perform.specs.Building.{BuildsImage, IsNumbered}
use Rattle.command_perform.proofs.Building.{builds_image}
use Rattle.command_perform.proofs.numbered.make_numbered.Goals as goal

pub returns-in-Ok-tried-clause-built : goal.returns-in-Ok-tried-clause-built
returns-in-Ok-tried-clause-built g c =
    let same : c.as_slice.result.now ≡ numbered_text c.args.asked.number = search rules in
    subst (λ (s : List ℕ). BuildsImage g.C.Compiler.builds plain_settings s (λ t. IsNumbered (make_request c.args.asked) t (outputs_of c.in-Ok-tried.made))) same
    (builds_image g.C.Compiler.builds _ c.as_slice.result.now c.in-Ok-compiled.texts c.in-Ok-compiled.ensures.built plain_settings (λ t. IsNumbered (make_request c.args.asked) t (outputs_of c.in-Ok-tried.made))
    (record { costs_are = c.default_costs.ensures; derive_is = refl; spm_is = refl; inline_is = refl; unroll_is = refl }) c.in-Ok-tried.ensures.outputs)
