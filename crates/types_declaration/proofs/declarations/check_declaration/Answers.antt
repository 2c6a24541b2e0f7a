use Rattle.std.proofs.Common.{◌≡◌, refl, ap, ◌∙◌, subst, List}
use Rattle.c_tree.specs.declared.declaration.Object as sources
use Rattle.types_rules.specs.DeclarationRules.{Base, base_of}
use Rattle.types_declaration.specs.Objects.{AreObjects, base_said}
use Rattle.types_declaration.proofs.DeclarationFaults.{objects_declared}
use Rattle.types_declaration.proofs.declarations.check_declaration.Goals as goal

pub returns-in_ok-inner-in-Objects : goal.returns-in_ok-inner-in-Objects
returns-in_ok-inner-in-Objects c =
    let given = c.in-Objects in
    let a = c.args.table.now in
    let b = c.check_objects.new.table in
    let inner = c.in_ok-inner-in-Objects.inner in
    let P : Base → Type 0 = λ base. AreObjects inner base c.deref-in-Objects-3.result.now a b in
    let Q : List sources.Object → Type 0 = λ objects. AreObjects inner (base_of given.specifiers.items) objects a b in
    let base : base_said c.base_of.result ≡ base_of given.specifiers.items = c.base_of.ensures ∙ ap base_of c.deref-in-Objects-2.ensures.value in
    rw c.in-Objects.is
    (objects_declared inner given.specifiers c.in_ok-copied-in-Objects.copied given.objects given.at a b c.first_of.result
    (c.in_ok-copied-in-Objects.ensures ∙ c.deref-in-Objects.ensures.value)
    (subst Q c.deref-in-Objects-3.ensures.value (subst P base c.in_ok-inner-in-Objects.ensures))
    (rw (c.first_of.ensures, c.fault_at-own.ensures, c.when.ensures, c.are_wrong-wrong.ensures, c.in_block.ensures, c.deref.ensures.value) refl))
