use Rattle.std.proofs.Common.{◌≡◌, ℕ, sym, ◌∙◌}
use Rattle.code_flow.specs.declared.finding.CodeFault.TheVariants.{BadClaim, Memory, NotCode}
use Rattle.compile_report.specs.Sources.{names_of, tree_of}
use Rattle.compile_report.proofs.finding.system_of.Goals as goal

not_bad : (index : ℕ) → BadClaim index ≡ Memory → ⊥
not_bad index e = cc e

not_missing : (at : ℕ) → NotCode at ≡ Memory → ⊥
not_missing at e = cc e

pub unreachable-requires : goal.unreachable-requires
unreachable-requires c =
    let h = c.requires.made in
    let s = c.args.source.now in
    let told = c.requires.claims in
    let fault = c.in-Err-BadClaim.field-0 in
    not_bad c.in-Err-BadClaim.field-0-0 (sym c.in-Err-BadClaim.field-0-is ∙ c.made_have_systems.ensures h.text (names_of s) (tree_of s) s.facts c.args.made.now told.0 c.args.claims.now fault h.is_source h.is_made told.1 c.in-Err-BadClaim.ensures.err)

pub unreachable-requires-in-Err-NotCode : goal.unreachable-requires-in-Err-NotCode
unreachable-requires-in-Err-NotCode c =
    let h = c.requires.made in
    let s = c.args.source.now in
    let told = c.requires.claims in
    let fault = c.in-Err-NotCode.field-0 in
    not_missing c.in-Err-NotCode.field-0-0 (sym c.in-Err-NotCode.field-0-is ∙ c.made_have_systems.ensures h.text (names_of s) (tree_of s) s.facts c.args.made.now told.0 c.args.claims.now fault h.is_source h.is_made told.1 c.in-Err-NotCode.ensures.err)
