-- Why an image and claims have no system.
use Rattle.rv_core.specs.Images.{Image}
use Rattle.code_flow_system.specs.Claims.{Claims}
use Rattle.code_flow_system.specs.Systems.{IsFirstBad, IsFirstNoCode}
use Rattle.code_flow.specs.declared.finding.CodeFault.{CodeFault}
use Rattle.code_flow.specs.declared.finding.CodeFault.TheVariants.{BadClaim, NotCode, Memory}

-- the fault is the first; want of memory says nothing
abbrev pub IsFault : Image → Claims → CodeFault → Type 0
IsFault image claims (BadClaim index) = IsFirstBad image claims index
IsFault image claims (NotCode at) = IsFirstNoCode image claims at
IsFault image claims Memory = Unit {0}
