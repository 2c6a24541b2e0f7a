-- Items, one after another.
use Rattle.std.proofs.Common.{◌≡◌, ℕ, suc, ◌+◌, ◌<◌, true, false, List, ◌∷◌, length, drop, get_or, refl, sym, ap, ◌∙◌, arith}
use Rattle.std.proofs.lemmas.List.{drop_more}
use Rattle.types_tree.specs.Tree.{Items}
use Rattle.types_tree.specs.View.{items_of, with_item}
use Rattle.types_tree.specs.declared.statement.Item.{Item}
use Rattle.types_tree.specs.declared.statement.Item.TheVariants as item
use Rattle.high_ir.specs.Tree.{Statements, End, Then}
use Rattle.high_code.specs.Code.{is_empty, joined}
use Rattle.plan_definition.specs.Statements as plans
use Rattle.plan_definition.specs.Statements.{all_planned, guarded, parts_planned}
use Rattle.make_pieces.proofs.Lists.{joined_end, joined_joined}
use Rattle.make_statement.specs.Parts.{item_parts, labels_in}
use Rattle.make_statement.specs.Planned.{is_label, item_planned}

planned_first : (plan : plans.Plan) (x : Item) (rest : Items) (k : ℕ) (exits : plans.Exits) → all_planned plan (with_item x rest) k exits ≡ joined (item_planned plan x k exits) (all_planned plan rest k exits)
planned_first plan (item.Declaration declaration) rest k exits = refl
planned_first plan (item.Statement statement) rest k exits = refl
planned_first plan (item.Restriction pragma) rest k exits = refl
planned_first plan (item.Label label) rest k exits = refl

-- the items from a place on
items_from : (xs : List Item) (i : ℕ) (x : Item) → i < length xs → x ≡ get_or xs i x → items_of (drop i xs) ≡ with_item x (items_of (drop (i + 1) xs))
items_from xs i x lt is = ap items_of (drop_more xs i x lt ∙ ap (λ y. y ∷ drop (i + 1) xs) (sym is))

-- one item more of a block
pub one_planned : (plan : plans.Plan) (xs : List Item) (i : ℕ) (x : Item) (k : ℕ) (exits : plans.Exits) (a b : Statements) → i < length xs → x ≡ get_or xs i x → b ≡ joined a (item_planned plan x k exits) →
    joined b (all_planned plan (items_of (drop (i + 1) xs)) k exits) ≡ joined a (all_planned plan (items_of (drop i xs)) k exits)
one_planned plan xs i x k exits a b lt is made =
    ap (λ c. joined c (all_planned plan (items_of (drop (i + 1) xs)) k exits)) made
    ∙ joined_joined a (item_planned plan x k exits) (all_planned plan (items_of (drop (i + 1) xs)) k exits)
    ∙ ap (joined a) (sym (ap (λ items. all_planned plan items k exits) (items_from xs i x lt is) ∙ planned_first plan x (items_of (drop (i + 1) xs)) k exits))

parts_first : (plan : plans.Plan) (x : Item) (rest : Items) (noted number next k : ℕ) (exits : plans.Exits) → next ≡ number + labels_in x →
    parts_planned plan (with_item x rest) noted number k exits ≡ item_parts plan noted x number k exits (parts_planned plan rest noted next k exits)
parts_first plan (item.Declaration declaration) rest noted number next k exits same =
    let e : number ≡ next = omega (arith, same) in ap (λ n. item_parts plan noted (item.Declaration declaration) number k exits (parts_planned plan rest noted n k exits)) e
parts_first plan (item.Statement statement) rest noted number next k exits same =
    let e : number ≡ next = omega (arith, same) in ap (λ n. item_parts plan noted (item.Statement statement) number k exits (parts_planned plan rest noted n k exits)) e
parts_first plan (item.Restriction pragma) rest noted number next k exits same =
    let e : number ≡ next = omega (arith, same) in ap (λ n. item_parts plan noted (item.Restriction pragma) number k exits (parts_planned plan rest noted n k exits)) e
parts_first plan (item.Label label) rest noted number next k exits same =
    let e : suc number ≡ next = omega (arith, same) in ap (λ n. item_parts plan noted (item.Label label) number k exits (parts_planned plan rest noted n k exits)) e

-- one item more of a switch
pub one_part : (plan : plans.Plan) (xs : List Item) (i : ℕ) (x : Item) (noted number next k : ℕ) (exits : plans.Exits) (whole : plans.Parts → Statements) → i < length xs → x ≡ get_or xs i x → next ≡ number + labels_in x →
    whole (item_parts plan noted x number k exits (parts_planned plan (items_of (drop (i + 1) xs)) noted next k exits)) ≡ whole (parts_planned plan (items_of (drop i xs)) noted number k exits)
one_part plan xs i x noted number next k exits whole lt is same =
    ap whole (sym (ap (λ items. parts_planned plan items noted number k exits) (items_from xs i x lt is) ∙ parts_first plan x (items_of (drop (i + 1) xs)) noted number next k exits same))

-- nothing more
pub joined_none : (a b : Statements) → b ≡ End → a ≡ joined a b
joined_none a b none = sym (ap (joined a) none ∙ joined_end a)

guarded_split : (noted number : ℕ) (part rest : Statements) → guarded noted number part rest ≡ joined (guarded noted number part End) rest
guarded_split noted number End rest = refl
guarded_split noted number (Then first others) rest = refl

pub guarded_none : (noted number : ℕ) (a part : Statements) → is_empty part ≡ true → a ≡ joined a (guarded noted number part End)
guarded_none noted number a End empty = sym (joined_end a)
guarded_none noted number a (Then first rest) empty = let no_way : true ≡ false = sym empty in cc

-- a part that ends at a label
pub part_ends : (noted number next : ℕ) (done part more new : Statements) (left : plans.Parts) → more ≡ joined done (guarded noted number part End) → new ≡ End → next ≡ number + 1 →
    joined more (guarded noted next (joined new left.before) left.behind) ≡ joined done (guarded noted number (joined part End) (guarded noted (number + 1) left.before left.behind))
part_ends noted number next done part more new left made none one =
    ap (λ s. joined s (guarded noted next (joined new left.before) left.behind)) made
    ∙ ap (λ s. joined (joined done (guarded noted number part End)) (guarded noted next (joined s left.before) left.behind)) none
    ∙ ap (λ n. joined (joined done (guarded noted number part End)) (guarded noted n left.before left.behind)) one
    ∙ joined_joined done (guarded noted number part End) (guarded noted (number + 1) left.before left.behind)
    ∙ ap (joined done) (sym (guarded_split noted number part (guarded noted (number + 1) left.before left.behind)))
    ∙ ap (λ s. joined done (guarded noted number s (guarded noted (number + 1) left.before left.behind))) (sym (joined_end part))

-- a part with an item more, which is no label
pub part_more : (plan : plans.Plan) (noted number next k : ℕ) (x : Item) (exits : plans.Exits) (done part more : Statements) (left : plans.Parts) → is_label x ≡ false → more ≡ joined part (item_planned plan x k exits) →
    joined done (guarded noted number (joined more left.before) left.behind) ≡ joined done (guarded noted number (joined part (item_parts plan noted x next k exits left).before) (item_parts plan noted x next k exits left).behind)
part_more plan noted number next k (item.Declaration declaration) exits done part more left other made =
    ap (λ s. joined done (guarded noted number s left.behind)) (ap (λ s. joined s left.before) made ∙ joined_joined part (item_planned plan (item.Declaration declaration) k exits) left.before)
part_more plan noted number next k (item.Statement statement) exits done part more left other made =
    ap (λ s. joined done (guarded noted number s left.behind)) (ap (λ s. joined s left.before) made ∙ joined_joined part (item_planned plan (item.Statement statement) k exits) left.before)
part_more plan noted number next k (item.Restriction pragma) exits done part more left other made =
    ap (λ s. joined done (guarded noted number (joined s left.before) left.behind)) (made ∙ joined_end part)
part_more plan noted number next k (item.Label label) exits done part more left other made = let no_way : true ≡ false = other in cc
