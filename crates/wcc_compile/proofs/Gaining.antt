-- The items that are chosen from.
use Rattle.std.proofs.Common.{◌≡◌, ◌+◌, ◌*◌, ◌^◌, ◌≤◌, List, [], ◌∷◌, length, map, refl, sym, ap, ◌∙◌, arith}
use Rattle.rv_core.specs.Table.{Table, table_of}
use Rattle.facts_front.specs.declared.reading.Source.{Source}
use Rattle.code_flow_system.specs.declared.cert.Part.{Part}
use Rattle.claims_definition.specs.Movables.{Movable, movables_of, movable_of}
use Rattle.claims_definition.specs.declared.item.LaidItem.{LaidItem}
use Rattle.claims_image.specs.Images.{laid_of}
use Rattle.low_ir.specs.Places.{Placed}
use Rattle.low_ir.specs.Placings.{placed_of}
use Rattle.low_ir.specs.Programs.{low_of}
use Rattle.image_definition.specs.Sizes.{globals_size}
use Rattle.promise_compiler.specs.declared.built.Options.{Options}
use Rattle.spm_placement.specs.declared.item.Item.{Item}
use Rattle.spm_placement.specs.Gains.{gained}
use Rattle.compile_placement.specs.Laws.{ItemsAreFew, items_of}
use Rattle.compile_high_definitions.specs.Limits.{global_bytes}
use Rattle.compile_capacity.proofs.Arrays.{globals_few}
use Rattle.compile_stages.specs.Made.{high_of}
use Rattle.compile_capacity.proofs.Functions.{functions_few}
use Rattle.compile_promise.proofs.Images.{elements}
use Rattle.compile_report.specs.Sources.{names_of, tree_of}
use Rattle.lower_definition.specs.Objects.{object_of}
use Rattle.wcc_compile.specs.declared.built.Built.{Built}
use Rattle.wcc_compile.specs.Built.{gains_of}
use Rattle.wcc_compile.specs.Steps.{IsFirst}

-- as those that are laid, one by one
both : (g : Movable → Item) (is : List LaidItem) → map g (map movable_of is) ≡ map (λ i. g (movable_of i)) is
both g [] = refl
both g (i ∷ is) = ap (λ (r : List Item). g (movable_of i) ∷ r) (both g is)

module _ (options : Options) (s : Source) (b : Built) (first : IsFirst options s b) where
  abbrev costs : Table
  costs = table_of options.costs

  abbrev parts : List Part
  parts = b.report.cert.flow.parts

  abbrev laid : List LaidItem
  laid = b.made.laid.lists.items.items

  abbrev program : Placed
  program = placed_of b.made.code

  -- each item with what it gains, as a list of the items that are laid has them
  pub gains_are : (items : List Item) (taken : List LaidItem) → items ≡ map (λ (i : LaidItem). gained costs parts (movable_of i)) taken → taken ≡ laid → items ≡ gains_of costs b
  gains_are items taken e same =
      let g : Movable → Item = gained costs parts in
      let each : map g (map movable_of laid) ≡ map g (movables_of (laid_of b.made.placement program)) = ap (map g) first.laid_out.made.in_memory.laid.lists.items in
      e ∙ ap (map (λ (i : LaidItem). g (movable_of i))) same ∙ sym (both g laid) ∙ each

  -- there are at most 256 functions, and 65,536 words of arrays
  pub gains_few : ItemsAreFew → (items : List Item) → items ≡ gains_of costs b → length items ≤ 131072
  gains_few law items e =
      let made = first.laid_out.made in
      let high = high_of b.made in
      let low = low_of b.made.code.low in
      let many : length items ≡ length (items_of costs parts (laid_of b.made.placement program)) = ap length e in
      let few : 4 * length (items_of costs parts (laid_of b.made.placement program)) ≤ 4 * length program.functions + globals_size program.objects =
      law costs parts (laid_of b.made.placement program) (elements (names_of s) (tree_of s) s.facts b.made made) in
      let same : length program.functions ≡ length low.functions = made.in_memory.keeps_low.rooms.functions in
      let fewer : length low.functions ≤ length high.functions = functions_few high low made.lowered.keeps_program in
      let limited : length high.functions ≤ 256 = made.carried.limited.functions in
      let sizes : globals_size program.objects ≡ globals_size (map object_of high.objects) = ap globals_size made.lowered.keeps_program.objects in
      let globals : globals_size (map object_of high.objects) ≤ global_bytes high.objects = globals_few high.objects in
      let most : global_bytes high.objects ≤ 2 ^ 18 = made.carried.limited.globals in
      omega (arith, many, few, same, fewer, limited, sizes, globals, most)
