use Rattle.std.proofs.Common.{◌++◌, map, ap, sym, ◌∙◌}
use Rattle.report_words.specs.Words.{line_text, lines_text}
use Rattle.report_text.specs.Reports.{report_of}
use Rattle.report_text.specs.Lines.{head_lines, copy_line, claim_lines, column_line, cert_lines, share_line, end_line, report_text}
use Rattle.report_text.proofs.TextLemmas.{more, lines7}
use Rattle.report_text.proofs.writing.write.Goals as goal

pub returns : goal.returns
returns c =
    let r = report_of c.report.inside.version c.report.inside.kind c.report.inside.names c.report.inside.claims c.report.inside.columns c.report.inside.cert c.report.inside.shares in
    let head = head_lines r in
    let names = map copy_line r.names in
    let claims = claim_lines r.claims r.cert in
    let columns = map column_line r.columns in
    let cert = cert_lines r.cert in
    let shares = map share_line r.shares in
    let t0 = c.new-text.result.items in
    let t1 = c.put_head.new.text.items in
    let t2 = c.put_copies.new.text.items in
    let t3 = c.put_claims.new.text.items in
    let t4 = c.put_columns.new.text.items in
    let t5 = c.put_cert.new.text.items in
    let t6 = c.put_shares.new.text.items in
    let t7 = c.put_line.new.text.items in
    more t0 t1 t7 (lines_text head) (lines_text names ++ (lines_text claims ++ (lines_text columns ++ (lines_text cert ++ (lines_text shares ++ line_text end_line)))))
    (c.in_ok-put_head.ensures ∙ ap (λ s. t0 ++ lines_text (head_lines s)) (sym c.report.view_is))
    (more t1 t2 t7 (lines_text names) (lines_text claims ++ (lines_text columns ++ (lines_text cert ++ (lines_text shares ++ line_text end_line)))) (rw c.as_slice.ensures at c.in_ok-put_copies.ensures)
    (more t2 t3 t7 (lines_text claims) (lines_text columns ++ (lines_text cert ++ (lines_text shares ++ line_text end_line))) c.in_ok-put_claims.ensures
    (more t3 t4 t7 (lines_text columns) (lines_text cert ++ (lines_text shares ++ line_text end_line)) (rw c.as_slice-2.ensures at c.in_ok-put_columns.ensures)
    (more t4 t5 t7 (lines_text cert) (lines_text shares ++ line_text end_line) c.in_ok-put_cert.ensures
    (more t5 t6 t7 (lines_text shares) (line_text end_line) (rw c.as_slice-3.ensures at c.in_ok-put_shares.ensures)
    c.in_ok-put_line.ensures)))))
    ∙ ap (λ t. t ++ (lines_text head ++ (lines_text names ++ (lines_text claims ++ (lines_text columns ++ (lines_text cert ++ (lines_text shares ++ line_text end_line))))))) c.new-text.ensures.items
    ∙ sym (lines7 head names claims columns cert shares end_line)
    ∙ ap report_text c.report.view_is
