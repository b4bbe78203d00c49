-- The numbers of one delay (src/level.rt), and the arena of the arrays at them: it is theory's. Assumes nothing.
use Prim.Native.Nat.{ℕ, ◌/◌, ◌^◌, ◌≤◌, min}
use mathlib.Core.Path.{◌≡◌, refl}
use mathlib.Core.List.{List}
use native.Mathlib.Omega.{arith}
use native.Mathlib.Nat.{mul-le-mul_left, mul-le-mul_right, pow-le-pow_right, one-le-pow}
use lib.ListN.{length}
use borrow.Author.Tests.{le-leb}
use Rattle.theory.specs.Delay.{words, arena}
use Rattle.sheet.specs.Limits.{most_nodes}
use Rattle.sheet.specs.Size.{nodes_of}
use Rattle.sheet.specs.code.Steps.{power_to, most_power}
use Rattle.sheet.specs.code.Arrays.{view_of}
use Rattle.walk.specs.code.Levels.{level_at, level_to, Room, arena_of}
use Rattle.walk.specs.code.Nodes.{Sized}

-- nothing is cut off where a sheet's numbers have room

module _ {positions actions delay : ℕ} (room : Room positions actions delay) where
  pub words_few : actions ^ (delay / 2) ≤ most_nodes
  unfolding nodes_of
  words_few =
      let l = mul-le-mul_right (actions ^ (delay / 2)) room.some_position in
      let n = room.few_nodes in
      omega arith

  power_whole : power_to actions (delay / 2) ≡ actions ^ (delay / 2)
  unfolding power_to
  power_whole = let h = words_few in rw (le-leb (actions ^ (delay / 2)) most_power (omega arith))

  pub level_whole : (start : ℕ) → level_to positions start actions delay ≡ level_at positions start actions delay
  unfolding nodes_of
  level_whole start =
      let p = room.few_positions in
      let whole : min positions most_power ≡ positions = omega arith in
      rw (power_whole, whole)

  -- a smaller delay has no more nodes
  pub nodes_less : {d : ℕ} → d ≤ delay → nodes_of positions actions d ≤ nodes_of positions actions delay
  unfolding nodes_of
  nodes_less {d} l =
      let a = room.some_action in
      let h : d / 2 ≤ delay / 2 = omega arith in
      mul-le-mul_left positions (pow-le-pow_right (omega arith) h)

  pub room_less : {d : ℕ} → d ≤ delay → Room positions actions d
  room_less {d} l =
      record {
        some_position = room.some_position;
        few_positions = room.few_positions;
        some_action = room.some_action;
        few_actions = room.few_actions;
        few_nodes = let h = nodes_less l in let n = room.few_nodes in omega arith;
      }

  -- the level of a delay is sized
  pub level_sized : (start : ℕ) → Sized positions (level_at positions start actions delay)
  unfolding nodes_of
  level_sized start =
      record {
        few_positions = room.few_positions;
        few_actions = room.few_actions;
        some_word = one-le-pow (delay / 2) actions (let a = room.some_action in omega arith);
        few_words = words_few;
        all_nodes = refl;
        few_nodes = room.few_nodes;
      }

module _ (p : List ℕ) (g : List (List ℕ)) (u f : List ℕ) (start actions d : ℕ) where
  pub arena_is : arena_of p g u f (level_at (length p) start actions d) ≡ arena (view_of p g u f start actions) d
  unfolding arena_of view_of arena words
  arena_is = refl

  pub nodes_is : (arena (view_of p g u f start actions) d).nodes ≡ nodes_of (length p) actions d
  unfolding arena view_of words nodes_of
  nodes_is = refl
