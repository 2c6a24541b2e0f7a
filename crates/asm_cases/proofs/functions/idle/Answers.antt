use Rattle.std.proofs.Common.{rules, ◌≡◌, replicate, ap, ◌∙◌}
use Rattle.asm_items.specs.declared.item.Item.TheVariants.{Single}
use Rattle.asm_items.specs.Items.{total}
use Rattle.asm_forms.specs.Shorter.{items_longest}
use Rattle.asm_cases.proofs.Shapes.{idle_total}
use Rattle.asm_cases.proofs.functions.idle.Goals as goal

pub returns-clause-room : goal.returns-clause-room
returns-clause-room c =
    let same : c.in_ok-vec.field-0.items ≡ replicate c.args.count (Single c.addi.result) = search rules in
    ap (λ l. total (items_longest l)) (c.new.ensures ∙ same) ∙ idle_total c.args.count c.addi.result
