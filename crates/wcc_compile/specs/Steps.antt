-- A source that was read, laid out before and after the choice of what lies in the scratchpad.
use Rattle.std.specs.Prelude.{[]}
use Rattle.facts_front.specs.declared.reading.Source.{Source}
use Rattle.promise_compiler.specs.declared.built.Options.{Options}
use Rattle.compile_stages.specs.Placed.{IsPlacedBy}
use Rattle.compile_report.specs.Sources.{IsMadeOf, names_of, tree_of}
use Rattle.wcc_compile.specs.Built.{IsLaidOut, IsPlaced}
use Rattle.wcc_compile.specs.declared.built.Built.{Built}

-- with nothing in the scratchpad
pub record IsFirst (options : Options) (s : Source) (b : Built) : Type 0 where
  pub made_of : IsMadeOf s b.made
  pub laid_out : IsLaidOut options (names_of s) (tree_of s) s.facts b
  pub none : IsPlacedBy [] b.made

-- with what was chosen
pub record IsLast (options : Options) (s : Source) (b : Built) : Type 0 where
  pub laid_out : IsLaidOut options (names_of s) (tree_of s) s.facts b
  pub placed : IsPlaced options (names_of s) (tree_of s) s.facts b
