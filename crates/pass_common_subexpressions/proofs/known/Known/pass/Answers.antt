use Rattle.std.proofs.Common.{◌≡◌, inl, inr, subst, sym, ⊎_elim}
use Rattle.low_ir.specs.View.{instr_of}
use Rattle.pass_common_subexpressions_law.specs.Facts.{Knows, Teaches}
use Rattle.pass_common_subexpressions.specs.Making.{fact_of, known_of}
use Rattle.pass_common_subexpressions.proofs.known.Known.pass.Goals as goal

pub returns-in-Some : goal.returns-in-Some
returns-in-Some c = λ f knows.
    ⊎_elim
    (λ (old : Knows (known_of c.forget.new.facts.items) f).
    let kept = c.forget.ensures f old in
    inl (subst (λ k. Knows k f) c.self.view_is kept.0, kept.1))
    (λ (new : f ≡ fact_of c.in-Some.fact). inr (subst (Teaches (instr_of c.args.instr.now)) (sym new) c.in-Some.ensures))
    (c.add.ensures f knows)
