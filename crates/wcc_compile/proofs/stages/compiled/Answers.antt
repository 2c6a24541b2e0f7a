use Rattle.std.proofs.Common.{◌^◌, ◌≤◌, ap, sym, subst}
use Rattle.rv_core.specs.Images.{Image}
use Rattle.rv_core.specs.Table.{table_of}
use Rattle.elf_image.specs.Text.{text_of}
use Rattle.report_text.specs.Lines.{report_text}
use Rattle.report_text.specs.Reports.{Report}
use Rattle.promise_compiler.specs.Lengths.{AreShort}
use Rattle.promise_report.specs.Compiled.{IsCompiled}
use Rattle.wcc_compile.proofs.stages.compiled.Goals as goal

pub returns-in-Ok-clause-ok : goal.returns-in-Ok-clause-ok
returns-in-Ok-clause-ok c =
    let derive = c.args.options.now.derive in
    let spm = c.args.options.now.spm in
    let t = table_of c.args.options.now.costs in
    let text = c.args.source.now in
    let built = c.in-Ok.built in
    let image = c.written.result.image in
    subst (λ (r : Report). IsCompiled derive spm t text (text_of image) (report_text r) r) (sym c.written.ensures.report)
    (subst (λ (i : Image). IsCompiled derive spm t text (text_of i) (report_text built.report) built.report) (sym c.written.ensures.image) c.in-Ok.ensures.ok)

pub returns-in-Ok-clause-cycles : goal.returns-in-Ok-clause-cycles
returns-in-Ok-clause-cycles c = subst (λ (r : Report). r.cert.cycles ≤ 2 ^ 62) (sym c.written.ensures.report) c.in-Ok.ensures.cycles

pub returns-in-Ok-clause-short : goal.returns-in-Ok-clause-short
returns-in-Ok-clause-short c =
    let built = c.in-Ok.built in
    let image = c.written.result.image in
    λ small. subst (λ (r : Report). AreShort (text_of image) (report_text r)) (sym c.written.ensures.report)
    (subst (λ (i : Image). AreShort (text_of i) (report_text built.report)) (sym c.written.ensures.image) (c.in-Ok.ensures.short small))

pub returns-in-Ok-clause-built : goal.returns-in-Ok-clause-built
returns-in-Ok-clause-built c =
    let written = c.written.ensures in
    record { built = c.in-Ok.built; is_built = c.in-Ok.ensures.built; image_is = ap text_of written.image; report_is = ap report_text written.report }
