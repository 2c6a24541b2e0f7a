use Rattle.facts_front.proofs.Ways.{one_way}
use Rattle.compile_report.specs.Sources.{names_of, tree_of}
use Rattle.wcc_compile.proofs.stages.compile.Goals as goal

pub built-built-requires : goal.built-built-requires
built-built-requires c =
    let s = c.in_ok-source.source in
    (c.args.source.now, one_way c.args.options.now.derive c.args.source.now (names_of s) (tree_of s) s.facts c.in_ok-source.ensures.source)

pub returns-in-Ok-clause-built : goal.returns-in-Ok-clause-built
returns-in-Ok-clause-built c = c.in-Ok.ensures.built c.args.source.now c.in_ok-source.ensures.source

pub returns-in-Ok-clause-ok : goal.returns-in-Ok-clause-ok
returns-in-Ok-clause-ok c = c.in-Ok.ensures.compiled c.args.options.now.derive c.args.source.now c.in_ok-source.ensures.source

pub returns-in-Ok-clause-short : goal.returns-in-Ok-clause-short
returns-in-Ok-clause-short c =
    let s = c.in_ok-source.source in
    c.in-Ok.ensures.short c.args.source.now (one_way c.args.options.now.derive c.args.source.now (names_of s) (tree_of s) s.facts c.in_ok-source.ensures.source)
