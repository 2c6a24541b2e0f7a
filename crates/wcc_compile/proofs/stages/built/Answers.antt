use Rattle.rv_core.specs.Table.{table_of}
use Rattle.compile_report.specs.Sources.{names_of, tree_of}
use Rattle.wcc_compile.proofs.Steps.{fits}
use Rattle.wcc_compile.proofs.stages.built.Goals as goal

pub returns-clause-built : goal.returns-clause-built
returns-clause-built c =
    let s = c.args.source.now in
    let last = c.in_ok-built.ensures.laid in
    λ text is. record { names = names_of s; program = tree_of s; facts = s.facts; is_source = is; laid_out = last.laid_out; placed = last.placed }

pub returns-clause-compiled : goal.returns-clause-compiled
returns-clause-compiled c =
    let options = c.args.options.now in
    let t = table_of options.costs in
    let s = c.args.source.now in
    let b = c.in_ok-built.built in
    let last = c.in_ok-built.ensures.laid in
    λ derive text is.
    c.reported_are_compiled.ensures derive options.spm text (names_of s) (tree_of s) s.facts b.made t b.report is last.laid_out.made (fits c.choices_fit.ensures options s b last) last.laid_out.reported
    (record { loadable = c.read_of_write.ensures.loads; same = c.read_of_write.ensures.same }) c.in_ok-built.ensures.typed

pub returns-clause-short : goal.returns-clause-short
returns-clause-short c =
    let t = table_of c.args.options.now.costs in
    let s = c.args.source.now in
    let b = c.in_ok-built.built in
    let last = c.in_ok-built.ensures.laid in
    λ text is small. c.texts_are_short.ensures text (names_of s) (tree_of s) s.facts b.made t b.report small is last.laid_out.made last.laid_out.reported c.in_ok-built.ensures.typed
