use Rattle.std.proofs.Common.{rules, ◌≡◌, false, sym, ◌∙◌, None}
use Rattle.code_flow_system.specs.declared.shapes.LoopShape.{LoopShape}
use Rattle.path_fit.proofs.ShapeLemmas.{headers_ascend}
use Rattle.path_fit.proofs.loops.are_apart.Goals as goal

abbrev first_shape : LoopShape
first_shape = record { header = 0; back = 0; parent = None; first = 0; last = 0 }

pub heads_own_loop-requires : goal.heads_own_loop-requires
heads_own_loop-requires c = headers_ascend c.args.system.now c.args.shapes.now c.is_system.ensures c.requires

pub returns-then-not-heads_own_loop : goal.returns-then-not-heads_own_loop
returns-then-not-heads_own_loop c = (
  λ e. cc,
  λ h.
      let f : c.heads_own_loop.result ≡ false = search rules in
      sym f ∙ c.heads_own_loop.ensures.1 (h c.loop-i.i first_shape c.loop-i-test.true),
)
