-- The object that counts lives in the frame of its function.
use Rattle.std.proofs.Common.{◌≡◌, refl, ℕ, true, false, Option, Some, None}
use Rattle.std.proofs.lemmas.Bool.{and_parts, false≢true}
use Rattle.types_tree.specs.declared.variable.Duration.{Duration}
use Rattle.types_tree.specs.declared.variable.Duration.TheVariants.{Static, Automatic}
use Rattle.types_tree.specs.declared.variable.Extent.{Extent}
use Rattle.types_tree.specs.declared.variable.Extent.TheVariants.{Scalar as Single, Array, Parameter}
use Rattle.types_tree.specs.declared.variable.Variable.{Variable}
use Rattle.types_value.specs.Kinds.{same_kind}
use Rattle.types_value.specs.declared.kind.Kind.TheVariants.{Int}
use Rattle.plan_served.specs.Places.{IsHome, IsInFrame}
use Rattle.plan_definition.specs.declared.home.Home.{Home}
use Rattle.plan_definition.specs.declared.home.Home.TheVariants.{Frame, Memory}
use Rattle.facts_loops.specs.Counting.{is_counter, is_local}

local_home : (d : Duration) (e : Extent) (h : Home) → is_local d e ≡ true → IsHome d e h → IsInFrame h
local_home Static Single h l lives = absurd (false≢true l)
local_home Static (Array count) h l lives = absurd (false≢true l)
local_home Static Parameter h l lives = absurd (false≢true l)
local_home Automatic Single h l lives = lives
local_home Automatic (Array count) h l lives = absurd (false≢true l)
local_home Automatic Parameter h l lives = absurd (false≢true l)

in_frame : (h : Home) → IsInFrame h → (x : ℕ) × (h ≡ Frame x)
in_frame (Frame x) is = (x, refl)
in_frame (Memory array) is = absurd is

pub counter_home : (found : Option Variable) (h : Home) → is_counter found ≡ true → ((v : Variable) → found ≡ Some v → IsHome v.duration v.extent h) → (x : ℕ) × (h ≡ Frame x)
counter_home None h counts homes = absurd (false≢true counts)
counter_home (Some v) h counts homes =
    let c = and_parts (is_local v.duration v.extent) (same_kind v.kind Int) counts in
    in_frame h (local_home v.duration v.extent h c.0 (homes v refl))
