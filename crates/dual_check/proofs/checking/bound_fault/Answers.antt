use Rattle.std.proofs.Common.{◌≡◌, true, false, subst, sym, ◌∙◌}
use Rattle.rv_core.specs.Table.{table_of}
use Rattle.dual_check.specs.Rows.{FailsMissing}
use Rattle.dual_check.specs.Leasts.{IsLeastOf}
use Rattle.dual_check.proofs.SignLemmas.{all_signed}
use Rattle.dual_check.proofs.VerdictLemmas.{first_of_rows, covered, all_given}
use Rattle.dual_check.proofs.checking.bound_fault.Goals as goal

pub returns-in-Some-first_of_moves-clause-some : goal.returns-in-Some-first_of_moves-clause-some
returns-in-Some-first_of_moves-clause-some c =
    let given = all_given c.args.system.now c.args.cert.now (subst (IsLeastOf (FailsMissing c.args.system.now c.args.cert.now)) c.in_default.is c.first_missing.ensures) in
    let signed = all_signed c.args.system.now.claims c.args.cert.now (sym c.first_wrong_sign.ensures ∙ c.in_default-first_wrong_sign.is) in
    first_of_rows (table_of c.args.costs.now) c.args.system.now c.args.cert.now c.in-Some-first_of_moves.row given signed (sym c.first_of_moves.ensures ∙ c.in-Some-first_of_moves.is)

pub returns-then-not-has_value-clause-some : goal.returns-then-not-has_value-clause-some
returns-then-not-has_value-clause-some c =
    let given = all_given c.args.system.now c.args.cert.now (subst (IsLeastOf (FailsMissing c.args.system.now c.args.cert.now)) c.in_default.is c.first_missing.ensures) in
    let signed = all_signed c.args.system.now.claims c.args.cert.now (sym c.first_wrong_sign.ensures ∙ c.in_default-first_wrong_sign.is) in
    (given, signed, covered (table_of c.args.costs.now) c.args.system.now c.args.cert.now (sym c.first_of_moves.ensures ∙ c.in_default-first_of_moves.is), λ h. let e : true ≡ false = sym (c.has_value.ensures.1 h) ∙ c.if-not-has_value.true in cc)

pub returns-clause-none : goal.returns-clause-none
returns-clause-none c =
    let given = all_given c.args.system.now c.args.cert.now (subst (IsLeastOf (FailsMissing c.args.system.now c.args.cert.now)) c.in_default.is c.first_missing.ensures) in
    let signed = all_signed c.args.system.now.claims c.args.cert.now (sym c.first_wrong_sign.ensures ∙ c.in_default-first_wrong_sign.is) in
    λ n. record { given = given; signed = signed; covered = covered (table_of c.args.costs.now) c.args.system.now c.args.cert.now (sym c.first_of_moves.ensures ∙ c.in_default-first_of_moves.is); value = c.has_value.ensures.0 c.if-not-has_value.false }
