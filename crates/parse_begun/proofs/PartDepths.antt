-- The depth that stands beside a part, as that of the part with its names.
use Rattle.std.proofs.Common.{◌≡◌, ℕ, max, refl, ap, ◌∙◌, sym}
use Rattle.c_tree.specs.Named.{map_option, named_items}
use Rattle.c_tree.specs.Size.{size_items}
use Rattle.c_tree.specs.Tree.{NoExpr, Items, NoItem, AndDeclaration, AndStatement, AndRestriction, AndLabel, Nothing}
use Rattle.c_tree.specs.View.{expr_of, exprs_of, external_of, items_of, object_of, param_of, row_of, shape_of, start_of, statement_of}
use Rattle.parse_begun.specs.declared.part.Part.{Part}
use Rattle.parse_begun.specs.declared.part.Parts.{Parts}
use Rattle.parse_begun.specs.declared.part.ShapePart.{ShapePart}
use Rattle.parse_begun.specs.declared.part.ObjectParts.{ObjectParts}
use Rattle.parse_begun.specs.declared.part.StatementPart.{StatementPart}
use Rattle.parse_begun.specs.declared.part.MaybePart.{MaybePart}
use Rattle.parse_begun.specs.declared.part.StartPart.{StartPart}
use Rattle.parse_begun.specs.declared.part.ItemParts.{ItemParts}
use Rattle.parse_begun.specs.declared.part.ObjectPart.{ObjectPart}
use Rattle.parse_begun.specs.declared.part.ParamParts.{ParamParts}
use Rattle.parse_begun.specs.declared.part.ExternalParts.{ExternalParts}
use Rattle.parse_begun.specs.BeforeLast.{before_last}
use Rattle.parse_begun.specs.View.{Names, externals_depth, items_depth, items_depth_before, maybe_depth, object_depth, objects_depth, params_depth, part_depth, parts_depth, shape_depth, start_depth, statement_depth}
use Rattle.c_tree.proofs.NamedSizes.{size_named, size_all_named, size_externals_named, size_items_named, size_object_named, size_objects_named, size_optional_named, size_params_named, size_shape_named, size_start_named, size_statement_named}

pub part_depth_is : (f : Names) (p : Part) → p.depth ≡ part_depth f p
part_depth_is f p = p.is_depth ∙ ap (λ s. s.depth) (sym (size_named f (expr_of p.tree)))

pub statement_depth_is : (f : Names) (p : StatementPart) → p.depth ≡ statement_depth f p
statement_depth_is f p = p.is_depth ∙ ap (λ s. s.depth) (sym (size_statement_named f (statement_of p.statement)))

pub shape_depth_is : (f : Names) (p : ShapePart) → p.depth ≡ shape_depth f p
shape_depth_is f p = p.is_depth ∙ ap (λ s. s.depth) (sym (size_shape_named f (shape_of p.shape)))

pub parts_depth_is : (f : Names) (p : Parts) → p.depth ≡ parts_depth f p
parts_depth_is f p = p.is_depth ∙ ap (λ s. s.depth) (sym (size_all_named f (exprs_of NoExpr p.list.items)))

pub objects_depth_is : (f : Names) (p : ObjectParts) → p.depth ≡ objects_depth f p
objects_depth_is f p = p.is_depth ∙ ap (λ s. s.depth) (sym (size_objects_named f (row_of object_of Nothing p.list.items)))

pub start_depth_is : (f : Names) (p : StartPart) → p.depth ≡ start_depth f p
start_depth_is f p = p.is_depth ∙ ap (λ s. s.depth) (sym (size_start_named f (start_of p.start)))

pub maybe_depth_is : (f : Names) (p : MaybePart) → p.depth ≡ maybe_depth f p
maybe_depth_is f p = p.is_depth ∙ ap (λ s. s.depth) (sym (size_optional_named f (map_option expr_of p.tree)))

pub items_depth_is : (f : Names) (p : ItemParts) → p.depth ≡ items_depth f p
items_depth_is f p = p.is_depth ∙ ap (λ s. s.depth) (sym (size_items_named f (items_of NoItem p.list.items)))

before_last_named : (f : Names) (items : Items ℕ) → named_items f (before_last items) ≡ before_last (named_items f items)
before_last_named f NoItem = refl
before_last_named f (AndDeclaration front declaration) = refl
before_last_named f (AndStatement front statement) = refl
before_last_named f (AndRestriction front pragma) = refl
before_last_named f (AndLabel front label) = refl

pub items_depth_before_is : (f : Names) (p : ItemParts) → p.depth_before ≡ items_depth_before f p
items_depth_before_is f p =
    let items = items_of NoItem p.list.items in
    p.is_depth_before ∙ ap (λ s. s.depth) (sym (size_items_named f (before_last items))) ∙ ap (λ before. (size_items before).depth) (before_last_named f items)

pub params_depth_is : (f : Names) (p : ParamParts) → p.depth ≡ params_depth f p
params_depth_is f p = p.is_depth ∙ ap (λ s. s.depth) (sym (size_params_named f (row_of param_of Nothing p.list.items)))

-- of two pairs of equal numbers, the greater ones are equal
pub both_max : (a b c d : ℕ) → a ≡ c → b ≡ d → max a b ≡ max c d
both_max a b c d e g = ap (λ n. max n b) e ∙ ap (max c) g

pub object_depth_is : (f : Names) (p : ObjectPart) → p.depth ≡ object_depth f p
object_depth_is f p = p.is_depth ∙ ap (λ s. s.depth) (sym (size_object_named f (object_of p.object)))

pub externals_depth_is : (f : Names) (p : ExternalParts) → p.depth ≡ externals_depth f p
externals_depth_is f p = p.is_depth ∙ ap (λ s. s.depth) (sym (size_externals_named f (row_of external_of Nothing p.list.items)))
