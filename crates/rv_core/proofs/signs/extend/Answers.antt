use Rattle.std.proofs.Common.{rules, ap, ◌∙◌, FitsSigned, w32, ◌≡◌, ◌%◌, ◌^◌}
use Rattle.std.proofs.Math.Nat.{mod-eq_of_lt}
use Rattle.std.proofs.lemmas.Int.{to_z-of_z}
use Rattle.wcc_base.specs.Signs.{signed_of}
use Rattle.rv_core.proofs.signs.extend.Goals as goal

pub returns : goal.returns
returns c =
    let fits : FitsSigned w32 c.sign_extend.result = search rules in
    let same : c.args.bits % 2 ^ c.args.count ≡ c.args.bits = mod-eq_of_lt c.requires.fits in
    to_z-of_z w32 c.sign_extend.result fits ∙ c.sign_extend.ensures ∙ ap (signed_of c.args.count) same
