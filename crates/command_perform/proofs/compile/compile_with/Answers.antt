use Rattle.std.proofs.Common.{◌≡◌, ℕ, List, refl, subst, arith, rules}
use Rattle.rv_core.specs.Table.{table_of}
use Rattle.command_words.specs.Held.{compile_request}
use Rattle.command_perform.specs.Compiling.{compiled_outputs}
use Rattle.command_perform.specs.Outputs.{outputs_of}
use Rattle.command_perform.specs.Settings.{settings_of}
use Rattle.command_perform.specs.Building.{BuildsImage}
use Rattle.command_perform.proofs.Building.{builds_image}
use Rattle.command_perform.proofs.CompileRuns.{makes_image}
use Rattle.command_perform.proofs.compile.compile_with.Goals as goal

pub returns-in-Ok-outputs-clause-made : goal.returns-in-Ok-outputs-clause-made
returns-in-Ok-outputs-clause-made g c =
    let same : c.as_slice.result.now ≡ c.args.source = search rules in
    let bytes = c.scratchpad_bytes.ensures.value in
    let room = c.scratchpad_bytes.ensures.most in
    makes_image (compile_request c.args.asked) (table_of c.args.costs) c.args.source c.as_slice.result.now _ c.in-Ok.texts (outputs_of c.in-Ok-outputs.made) c.in-Ok.ensures.made same (omega (arith, bytes, room)) c.in-Ok-outputs.ensures

pub returns-in-Ok-outputs-clause-built : goal.returns-in-Ok-outputs-clause-built
returns-in-Ok-outputs-clause-built g c =
    let asked = compile_request c.args.asked in
    let settings = settings_of asked (table_of c.args.costs) in
    let same : c.as_slice.result.now ≡ c.args.source = search rules in
    let bytes = c.scratchpad_bytes.ensures.value in
    let room = c.scratchpad_bytes.ensures.most in
    let inline = c.inline_size.ensures.value in
    let few = c.inline_size.ensures.most in
    let unroll = c.unroll_factor.ensures.value in
    let low = c.unroll_factor.ensures.most in
    subst (λ (s : List ℕ). BuildsImage g.C.Compiler.builds settings s (λ t. outputs_of c.in-Ok-outputs.made ≡ compiled_outputs asked t)) same
    (builds_image g.C.Compiler.builds _ c.as_slice.result.now c.in-Ok.texts c.in-Ok.ensures.built settings (λ t. outputs_of c.in-Ok-outputs.made ≡ compiled_outputs asked t)
    (record { costs_are = refl; derive_is = refl; spm_is = omega (arith, bytes, room); inline_is = omega (arith, inline, few); unroll_is = omega (arith, unroll, low) }) c.in-Ok-outputs.ensures)
