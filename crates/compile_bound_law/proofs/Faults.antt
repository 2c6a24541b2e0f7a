-- No claim that is handed on is bad, and what is reached of the image of a laid program is code.
use Rattle.std.proofs.Common.{◌≡◌, false, List, None, refl, All}
use Rattle.rv_core.specs.Images.{Image}
use Rattle.code_flow_system.specs.Claims.{fact_flaws, never_flaws}
use Rattle.code_flow_system.specs.declared.claims.FactClaim.{FactClaim}
use Rattle.code_flow_system.specs.declared.claims.Never.{Never}
use Rattle.code_flow.specs.CodeFaults.{IsFault}
use Rattle.code_flow.specs.declared.finding.CodeFault.{CodeFault}
use Rattle.code_flow.specs.declared.finding.CodeFault.TheVariants.{BadClaim, NotCode, Memory}
use Rattle.high_pass.specs.Listing.{LoopEntry}
use Rattle.claims_definition.specs.Listed.{Laid, claims_of}
use Rattle.claims_definition.proofs.Calls.{no_false}
use Rattle.claims_image.specs.Images.{HasClaims}
use Rattle.compile_claims.specs.Named.{named}
use Rattle.compile_claims.proofs.Systems.{no_code_same, none_bad}

module _ (l : Laid) (image : Image) (has : HasClaims l image) where
  module _ (es : List LoopEntry) (ns : List Never) (fs : List FactClaim) where
    pub only_memory : All (λ flaw. flaw ≡ false) (never_flaws None ns) → All (λ flaw. flaw ≡ false) (fact_flaws fs) → (fault : CodeFault) → IsFault image (named es ns fs (claims_of l)) fault → fault ≡ Memory
    only_memory own facts (BadClaim n) h = absurd (none_bad es ns fs image (claims_of l) refl has.sound (λ k exit. no_false l image has.laid k exit) own facts n h.holds)
    only_memory own facts (NotCode a) h = let none = no_code_same es ns fs image (claims_of l) a h in absurd (none.no_code (has.reached a none.reached))
    only_memory own facts Memory h = refl
