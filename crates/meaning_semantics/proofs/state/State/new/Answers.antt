use Rattle.std.proofs.Common.{◌≡◌, ◌+◌, ◌++◌, ℕ, List, [], Option, ap, drop, length, map, replicate, sym, ◌∙◌}
use Rattle.std.proofs.lemmas.List.{length-map, replicate-append-replicate}
use Rattle.types_tree.specs.View.{function_of, program_of}
use Rattle.meaning_semantics.specs.Runs.{elements_of}
use Rattle.meaning_semantics.specs.State.{State}
use Rattle.meaning_semantics.proofs.state.State.new.Goals as goal

abbrev stands : List (List (Option ℕ)) → List ℕ → List ℕ → List ℕ → State
stands objects input output counts = record { objects = objects; input = input; output = output; counts = counts }

stands_so : (os ps : List (List (Option ℕ))) (is js us vs cs ds : List ℕ) → os ≡ ps → is ≡ js → us ≡ vs → cs ≡ ds → stands os is us cs ≡ stands ps js vs ds
stands_so os ps is js us vs cs ds a b c d = ap (λ o. stands o is us cs) a ∙ ap (λ i. stands ps i us cs) b ∙ ap (λ u. stands ps js u cs) c ∙ ap (λ c. stands ps js vs c) d

pub returns : goal.returns
returns c =
    let program = c.args.program.now in
    let fs = program.functions.items in
    let markers = c.args.markers in
    let objects = c.in_ok-cells_of.ensures ∙ ap (map elements_of) c.deref.ensures.value in
    let input = ap (drop 0) (c.in_ok-extend_from_slice.ensures.items ∙ ap (λ l. l ++ c.args.input.now) c.new-bytes.ensures.items) in
    let zeros : ℕ → List ℕ = λ n. replicate n 0 in
    let counts = c.in_ok-add_zeros-2.ensures
    ∙ ap (λ l. l ++ zeros markers) (c.in_ok-add_zeros.ensures ∙ ap (λ l. l ++ zeros (length c.as_slice.result.now)) c.new-counts.ensures.items)
    ∙ replicate-append-replicate (length c.as_slice.result.now) markers 0
    ∙ ap (λ n. zeros (n + markers)) (ap length c.as_slice.ensures.value ∙ sym (length-map fs function_of)) in
    stands_so c.in_ok-cells_of.field-0.items (map elements_of program.variables.items) (drop 0 c.extend_from_slice.new.self.items) c.args.input.now c.new.result.items [] c.add_zeros-2.new.counts.items (zeros (length (program_of program).functions + markers)) objects input c.new.ensures.items counts
