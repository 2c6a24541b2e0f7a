-- What the arrays of a low program take, by those of the program that it comes from.
use Rattle.std.proofs.Common.{◌≡◌, ℕ, ◌+◌, ◌≤◌, List, [], ◌∷◌, map, arith}
use Rattle.std.specs.Prelude.{if◌then◌else◌, sum_by}
use Rattle.std.proofs.lemmas.List.Sums.{sum_by-cons}
use Rattle.high_ir.specs.declared.object.Storage.{Storage}
use Rattle.high_ir.specs.declared.object.Storage.TheVariants.{Constant, Global, Local}
use Rattle.high_ir.specs.Size.{local_object_bytes, object_bytes}
use Rattle.high_ir.specs.Tree.{Object}
use Rattle.low_ir.specs.Arrays.{array_size}
use Rattle.low_ir.specs.Effects.{can_store}
use Rattle.lower_definition.specs.Objects.{object_of, storage_of}
use Rattle.lower_law.proofs.Totals.{array_same}
use Rattle.image_definition.specs.Sizes.{constants_room, globals_size, unless_local, variables_room}
use Rattle.compile_high_definitions.specs.Limits.{global_bytes, global_object_bytes}

constant_few : (s : Storage) (o : Object) (n : ℕ) → n ≡ object_bytes o → (if can_store (storage_of s) then 0 else n) ≤ global_object_bytes s o
constant_few Constant o n e = omega (arith, e)
constant_few Global o n e = omega arith
constant_few Local o n e = omega arith

variable_few : (s : Storage) (o : Object) (n : ℕ) → n ≡ object_bytes o → (if can_store (storage_of s) then n else 0) ≤ global_object_bytes s o + local_object_bytes s o
variable_few Constant o n e = omega arith
variable_few Global o n e = omega (arith, e)
variable_few Local o n e = omega (arith, e)

abbrev pub local_bytes : List Object → ℕ
local_bytes os = sum_by (λ (o : Object). local_object_bytes o.storage o) os

pub constants_few : (os : List Object) → constants_room (map object_of os) ≤ global_bytes os
constants_few [] = omega arith
constants_few (o ∷ os) =
    let rest = constants_few os in
    let this = constant_few o.storage o (array_size (object_of o)) (array_same o) in
    let sum = sum_by-cons (λ (x : Object). global_object_bytes x.storage x) o os in
    omega (arith, rest, this, sum)

pub variables_few : (os : List Object) → variables_room (map object_of os) ≤ global_bytes os + local_bytes os
variables_few [] = omega arith
variables_few (o ∷ os) =
    let rest = variables_few os in
    let this = variable_few o.storage o (array_size (object_of o)) (array_same o) in
    let globals = sum_by-cons (λ (x : Object). global_object_bytes x.storage x) o os in
    let locals = sum_by-cons (λ (x : Object). local_object_bytes x.storage x) o os in
    omega (arith, rest, this, globals, locals)

-- arrays that aren't local
global_few : (s : Storage) (o : Object) (n : ℕ) → n ≡ object_bytes o → unless_local (storage_of s) n ≤ global_object_bytes s o
global_few Constant o n e = omega (arith, e)
global_few Global o n e = omega (arith, e)
global_few Local o n e = omega arith

pub globals_few : (os : List Object) → globals_size (map object_of os) ≤ global_bytes os
globals_few [] = omega arith
globals_few (o ∷ os) =
    let one = global_few o.storage o (array_size (object_of o)) (array_same o) in
    let rest = globals_few os in
    let all = sum_by-cons (λ (x : Object). global_object_bytes x.storage x) o os in
    omega (arith, one, rest, all)
