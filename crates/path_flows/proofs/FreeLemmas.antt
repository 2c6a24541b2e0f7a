-- A system without its facts is as whole as with them.
use Rattle.std.proofs.Common.{◌≡◌, List, [], ◌∷◌, ◌++◌, All, Bool, false, None}
use Rattle.std.proofs.lemmas.List.Elements.{All-head, All-tail, All-cons, All-nil, All-append}
use Rattle.code_flow_system.specs.declared.shapes.LoopShape.{LoopShape}
use Rattle.code_flow_system.specs.declared.shapes.Span.{Span}
use Rattle.code_flow_system.specs.Claims.{Claims, exit_flaws, never_flaws, region_flaws, loop_flaws, fact_flaws, AreSound}
use Rattle.code_flow_system.specs.Systems.{System, IsSystem}
use Rattle.code_flow_system.specs.Shapes.{IsLoop}
use Rattle.path_places.specs.PlaceLaws.{IsReachedWhole}
use Rattle.path_flows.specs.Free.{free_claims, free}

pub left_all : {X : Type 0} (P : X → Type 0) (xs ys : List X) → All P (xs ++ ys) → All P xs
left_all P [] ys h = All-nil P
left_all P (x ∷ xs) ys h = All-cons P x xs (All-head P x (xs ++ ys) h) (left_all P xs ys (All-tail P x (xs ++ ys) h))

pub right_all : {X : Type 0} (P : X → Type 0) (xs ys : List X) → All P (xs ++ ys) → All P ys
right_all P [] ys h = h
right_all P (x ∷ xs) ys h = right_all P xs ys (All-tail P x (xs ++ ys) h)

abbrev IsNone : Bool → Type 0
IsNone t = t ≡ false

free_sound : (c : Claims) → AreSound c → AreSound (free_claims c)
free_sound c h =
    let a = right_all IsNone (exit_flaws None c.exits) (never_flaws None c.nevers ++ (region_flaws None c.regions ++ (loop_flaws None c.loops ++ fact_flaws c.facts))) h in
    let b = right_all IsNone (never_flaws None c.nevers) (region_flaws None c.regions ++ (loop_flaws None c.loops ++ fact_flaws c.facts)) a in
    let d = right_all IsNone (region_flaws None c.regions) (loop_flaws None c.loops ++ fact_flaws c.facts) b in
    All-append IsNone (exit_flaws None c.exits) (never_flaws None c.nevers ++ (region_flaws None c.regions ++ (loop_flaws None c.loops ++ [])))
    (left_all IsNone (exit_flaws None c.exits) (never_flaws None c.nevers ++ (region_flaws None c.regions ++ (loop_flaws None c.loops ++ fact_flaws c.facts))) h)
    (All-append IsNone (never_flaws None c.nevers) (region_flaws None c.regions ++ (loop_flaws None c.loops ++ []))
    (left_all IsNone (never_flaws None c.nevers) (region_flaws None c.regions ++ (loop_flaws None c.loops ++ fact_flaws c.facts)) a)
    (All-append IsNone (region_flaws None c.regions) (loop_flaws None c.loops ++ [])
    (left_all IsNone (region_flaws None c.regions) (loop_flaws None c.loops ++ fact_flaws c.facts) b)
    (All-append IsNone (loop_flaws None c.loops) [] (left_all IsNone (loop_flaws None c.loops) (fact_flaws c.facts) d) (All-nil IsNone))))

free_system : (s : System) → IsSystem s → IsSystem (free s)
free_system s h = record {
  sound = free_sound s.claims h.sound;
  exits = h.exits;
  ascending = h.ascending;
  placed = h.placed;
  own = h.own;
  entry = h.entry;
  closed = h.closed;
}

free_loops : (s : System) (ls : List LoopShape) → All (IsLoop s) ls → All (IsLoop (free s)) ls
free_loops s [] h = All-nil (IsLoop (free s))
free_loops s (l ∷ ls) h =
    let k = All-head (IsLoop s) l ls h in
    All-cons (IsLoop (free s)) l ls (record { header = k.header; back = k.back; entry = k.entry; goes_back = k.goes_back; entered = k.entered }) (free_loops s ls (All-tail (IsLoop s) l ls h))

pub free_whole : (s : System) (ls : List LoopShape) (ps : List Span) → IsReachedWhole s ls ps → IsReachedWhole (free s) ls ps
free_whole s ls ps h = let f = h.fits in record {
  system = free_system s h.system;
  fits = record { shapes = f.shapes; nested = f.nested; loops = free_loops s ls f.loops; up = f.up; apart = f.apart; covered = f.covered; stays = f.stays; calls = f.calls };
  filled = h.filled;
  reached = h.reached;
}
