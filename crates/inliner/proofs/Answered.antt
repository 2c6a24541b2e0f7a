-- What a program and copies are that are those of inlining.
use Rattle.std.proofs.Common.{◌≡◌, ℕ, ◌<◌, true, false, sym, subst, All}
use Rattle.high_ir.specs.Formed.{IsHigh}
use Rattle.high_ir.specs.Tree.{Program}
use Rattle.high_pass.specs.Law.{IsLawful}
use Rattle.high_pass.specs.Listing.{Listing}
use Rattle.inliner.specs.Inlining.{copies_of_inlined, inlined, swept}
use Rattle.inliner.specs.Sites.{Inlined, IsLeft, is_open, sites}
use Rattle.inliner.proofs.Lawful.{inlined_is_lawful}
use Rattle.inliner.proofs.Left.{inlined_left}

-- from how often the functions were gone through
module _ (limit : ℕ) (old new : Program) (c : Listing) (n : ℕ) (high : IsHigh old) (program : new ≡ inlined limit old n) (copies : c ≡ copies_of_inlined limit old n) where
  pub answered_lawful : IsLawful old new c
  answered_lawful = subst (λ p. IsLawful old p c) (sym program) (subst (IsLawful old (inlined limit old n)) (sym copies) (inlined_is_lawful limit old high n))

  pub answered_did : ((k : ℕ) → k < n → is_open limit (swept limit old k) ≡ true) → is_open limit (swept limit old n) ≡ false → Inlined limit old new c
  answered_did wanted settled = record {
    sweeps = n;
    program = program;
    copies = copies;
    wanted = wanted;
    left = subst (λ p. All (λ f. All (IsLeft limit p) (sites 0 f.body)) p.functions) (sym program) (inlined_left limit old high n settled);
  }
