use Rattle.std.proofs.Common.{◌++◌, map, ap, sym, ◌∙◌}
use Rattle.report_words.specs.Words.{line_text, lines_text}
use Rattle.report_text.specs.Lines.{scale_line, potential_line, unit_line, flow_line}
use Rattle.report_text.proofs.TextLemmas.{more, ends4}
use Rattle.report_text.proofs.writing.put_cert.Goals as goal

pub returns : goal.returns
returns c =
    let cert = c.args.cert.now in
    let scale = scale_line cert.scale in
    let potentials = map potential_line cert.potentials in
    let unit = unit_line cert.flow.unit in
    let parts = map flow_line cert.flow.parts in
    let t0 = c.args.text.now.items in
    let t1 = c.put_line.new.text.items in
    let t2 = c.put_potentials.new.text.items in
    let t3 = c.put_line-2.new.text.items in
    let t4 = c.put_parts.new.text.items in
    more t0 t1 t4 (line_text scale) (lines_text potentials ++ (line_text unit ++ lines_text parts)) c.in_ok-put_line.ensures
    (more t1 t2 t4 (lines_text potentials) (line_text unit ++ lines_text parts) (rw c.as_slice.ensures at c.in_ok-put_potentials.ensures)
    (more t2 t3 t4 (line_text unit) (lines_text parts) c.in_ok-put_line-2.ensures
    (rw c.as_slice-2.ensures at c.in_ok-put_parts.ensures)))
    ∙ ap (λ t. t0 ++ t) (sym (ends4 scale unit potentials parts))
