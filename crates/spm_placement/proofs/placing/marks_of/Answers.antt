use Rattle.std.proofs.Common.{◌≡◌, ◌++◌, false, drop, length, take, ap, ◌∙◌, arith}
use Rattle.std.proofs.Math.Seq.{take-append_seam}
use Rattle.std.proofs.lemmas.List.{length-replicate}
use Rattle.image_frames.specs.Placings.{mark_at}
use Rattle.spm_placement.proofs.Marks.{marks_none}
use Rattle.spm_placement.proofs.placing.marks_of.Goals as goal

pub mark_all-requires : goal.mark_all-requires
mark_all-requires c = marks_none c.deref_mut.result.now c.args.count (c.deref_mut.ensures.value ∙ c.in_ok-marks.ensures.items_if_clones_equal (λ y h. cc))

pub returns-clause-long : goal.returns-clause-long
returns-clause-long c =
    let new = c.mark_all.new.marks in
    let rest = drop (length new) c.in_ok-marks.marks.items in
    let long : c.in_ok-marks.marks.len ≡ length new = (let a = c.mark_all.auto.marks in let b = c.deref_mut.ensures.len in omega (arith, a, b)) in
    let items = ap (λ k. take k (new ++ rest)) long ∙ take-append_seam new rest in
    ap length items
    ∙ (c.mark_all.ensures.long
    ∙ (ap length (c.deref_mut.ensures.value ∙ c.in_ok-marks.ensures.items_if_clones_equal (λ y h. cc)) ∙ length-replicate c.args.count false))

pub returns-clause-marks : goal.returns-clause-marks
returns-clause-marks c = λ k lt.
    let new = c.mark_all.new.marks in
    let rest = drop (length new) c.in_ok-marks.marks.items in
    let long : c.in_ok-marks.marks.len ≡ length new = (let a = c.mark_all.auto.marks in let b = c.deref_mut.ensures.len in omega (arith, a, b)) in
    let items = ap (λ j. take j (new ++ rest)) long ∙ take-append_seam new rest in
    let old = ap length (c.deref_mut.ensures.value ∙ c.in_ok-marks.ensures.items_if_clones_equal (λ y h. cc)) ∙ length-replicate c.args.count false in
    ap (λ m. mark_at m k) items ∙ c.mark_all.ensures.marks k (omega (arith, lt, old))
